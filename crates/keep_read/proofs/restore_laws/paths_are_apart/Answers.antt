use Rattle.keep_read.proofs.Paths.{paths_apart}
use Rattle.keep_read.proofs.restore_laws.paths_are_apart.Goals as goal

pub returns : goal.returns
returns c = paths_apart
