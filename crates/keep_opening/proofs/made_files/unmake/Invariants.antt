-- What is taken back so far are the changes after the next one.
use Rattle.std.proofs.Common.{◌≡◌, ◌-◌}
use Rattle.keep_opening.proofs.Unmade.{filed, under}
use Rattle.keep_opening.proofs.made_files.unmake.Given as goal

abbrev pub invariant-loop-done : goal.invariant-loop-done
invariant-loop-done l = l.repo ≡ filed l.initial.repo (under l.history.journal (l.last - l.done) l.initial.repo)
