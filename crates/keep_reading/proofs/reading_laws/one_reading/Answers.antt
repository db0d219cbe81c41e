use Rattle.keep_reading.proofs.Checked.{one_reading_lem}
use Rattle.keep_reading.proofs.reading_laws.one_reading.Goals as goal

pub returns : goal.returns
returns c = one_reading_lem
