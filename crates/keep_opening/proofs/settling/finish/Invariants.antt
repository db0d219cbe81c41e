use Rattle.std.proofs.Common.{◌≡◌, drop}
use Rattle.std.specs.FinMap as finite
use Rattle.keep_moves.specs.Move.{finished_all}
use Rattle.keep_opening.proofs.settling.finish.Given as goal

-- with the moves that are left made, it is with all made
abbrev pub invariant-loop-step : goal.invariant-loop-step
invariant-loop-step l = finished_all (drop l.step-index l.moves) (finite.get l.stock) ≡ finished_all l.moves (finite.get l.initial.stock)
