-- The changes after the last one that was made are left to make.
use Rattle.keep_opening.proofs.Remade.{Remakes}
use Rattle.keep_opening.proofs.made_files.remake.Given as goal

abbrev pub invariant-loop-n : goal.invariant-loop-n
invariant-loop-n l = Remakes l.history.journal l.n l.initial.repo l.repo
