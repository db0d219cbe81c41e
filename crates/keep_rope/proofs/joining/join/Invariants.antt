use Rattle.std.proofs.Common.{◌≡◌, ◌++◌, drop}
use Rattle.keep_rope.specs.Pieces.{joined}
use Rattle.keep_rope.proofs.joining.join.Given as goal

abbrev pub invariant-loop-piece : goal.invariant-loop-piece
invariant-loop-piece l = l.bytes.items ++ joined (drop l.piece-index l.pieces) ≡ joined l.pieces
