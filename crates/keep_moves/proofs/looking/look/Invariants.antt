use Rattle.std.proofs.Common.{◌≡◌}
use Rattle.keep_moves.specs.Calls.{looks, played}
use Rattle.keep_moves.proofs.looking.look.Given as goal

abbrev pub invariant-loop-file : goal.invariant-loop-file
invariant-loop-file g l = g.S.Shelf.shelved l.shelf ≡ played (looks l.file-index) (g.S.Shelf.shelved l.initial.shelf)
