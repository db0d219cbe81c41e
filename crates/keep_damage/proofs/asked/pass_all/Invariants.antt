-- The changes after the last one that was gone through are left.
use Rattle.keep_damage.proofs.Passing.{Passes}
use Rattle.keep_damage.proofs.asked.pass_all.Given as goal

abbrev pub invariant-loop-n : goal.invariant-loop-n
invariant-loop-n l = Passes l.pass l.history.journal l.n l.initial.repo.files l.repo.files
