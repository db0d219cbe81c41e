use Rattle.std.proofs.Common.{◌≡◌, drop}
use Rattle.keep_rope.specs.Pieces.{joined}
use Rattle.keep_rope.proofs.joining.are_alike.Given as goal

abbrev pub invariant-loop-piece : goal.invariant-loop-piece
invariant-loop-piece l = joined (drop l.piece-index l.pieces) ≡ joined l.rest → joined l.pieces ≡ joined l.others
