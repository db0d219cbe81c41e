use Rattle.std.proofs.Common.{◌≡◌, ◌++◌, map, take}
use Rattle.keep_names.specs.BlobId.{piece_of}
use Rattle.keep_catalog.proofs.named_blobs.add_pieces.Given as goal

abbrev pub invariant-loop-id : goal.invariant-loop-id
invariant-loop-id l = l.names.items ≡ l.initial.names.items ++ map piece_of (take l.id-index l.content)
