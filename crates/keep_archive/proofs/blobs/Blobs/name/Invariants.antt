use Rattle.std.proofs.Common.{◌≡◌, ◌++◌, map, take}
use Rattle.keep_names.specs.BlobId.{piece_of}
use Rattle.keep_archive.proofs.blobs.Blobs.name.Given as goal

abbrev pub invariant-loop-id : goal.invariant-loop-id
invariant-loop-id l = (l.named.items ≡ l.initial.named.items ++ map piece_of (take l.id-index l.content)) × (l.held ≡ l.initial.held)
