use Rattle.std.proofs.Common.{◌≡◌, ◌++◌, ℕ, List, length}
use Rattle.std.specs.Slice.Iter.{chunks_rest, chunks_size}
use Rattle.hex.specs.Hex.{encode_lower}
use Rattle.keep_disk.proofs.new_file.write_hex.Given as goal

-- what was written, and the hex of what is left, are all
abbrev pub invariant-loop-part : goal.invariant-loop-part
invariant-loop-part g l = record {
  size : chunks_size l.part-iterator ≡ 32768;
  room : length l.digits ≡ 65536;
  rest : (before : List ℕ) → g.F.NewFile.holds l.fn.file before
      → (done : List ℕ) × g.F.NewFile.holds l.file done × (done ++ encode_lower (chunks_rest l.part-iterator) ≡ before ++ encode_lower l.bytes);
}
