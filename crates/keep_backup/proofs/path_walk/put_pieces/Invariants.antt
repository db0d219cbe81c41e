use Rattle.std.proofs.Common.{◌≡◌, ◌++◌, map}
use Rattle.std.specs.Slice.Iter.{chunks_rest, chunks_size}
use Rattle.keep_build.specs.Blobs.{id_of}
use Rattle.keep_backup.specs.Walk.{pieces_of}
use Rattle.keep_backup.proofs.Offering.{HasTaken}
use Rattle.keep_backup.proofs.path_walk.put_pieces.Given as goal

abbrev pub invariant-loop-piece : goal.invariant-loop-piece
invariant-loop-piece l = record {
  size : chunks_size l.piece-iterator ≡ l.fn.cut.bytes;
  ids : map id_of (pieces_of l.fn.cut.bytes l.bytes) ≡ l.ids.items ++ map id_of (pieces_of l.fn.cut.bytes (chunks_rest l.piece-iterator));
  taken : HasTaken (pieces_of l.fn.cut.bytes l.bytes) (pieces_of l.fn.cut.bytes (chunks_rest l.piece-iterator)) l.initial.storing l.storing;
}
