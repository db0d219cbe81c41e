use Rattle.keep_hooks.proofs.Counting.{measures_are_small_lem}
use Rattle.keep_hooks.proofs.measure_law.measures_are_small.Goals as goal

pub returns-clause-small : goal.returns-clause-small
returns-clause-small c = measures_are_small_lem
