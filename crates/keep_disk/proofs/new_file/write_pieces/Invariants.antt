use Rattle.std.proofs.Common.{◌≡◌, ◌++◌, ℕ, List, drop}
use Rattle.std.specs.Prelude.{vec_len}
use Rattle.keep_rope.specs.Pieces.{joined}
use Rattle.keep_disk.proofs.new_file.write_pieces.Given as goal

-- what was written, and the pieces that are left, are all
abbrev pub invariant-loop-piece : goal.invariant-loop-piece
invariant-loop-piece g l = record {
  room : vec_len l.digits ≡ 65536;
  rest : (done : List ℕ) × g.F.NewFile.holds l.file done × (done ++ joined (drop l.piece-index l.pieces) ≡ joined l.pieces);
}
