use Rattle.keep_reading.proofs.Bad.{none_is_bad, one_is_bad}
use Rattle.keep_reading.proofs.reading_laws.one_bad_entry_is_enough.Goals as goal

pub returns : goal.returns
returns c = record { none = none_is_bad; one = one_is_bad }
