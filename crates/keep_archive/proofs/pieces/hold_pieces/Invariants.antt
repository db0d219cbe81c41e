use Rattle.std.proofs.Common.{◌≡◌, ◌++◌, ℕ, map}
use Rattle.std.specs.Global.{Vec}
use Rattle.keep_names.specs.declared.id.Id.{Id}
use Rattle.keep_archive.specs.Archive.{blobs_view}
use Rattle.keep_archive.specs.Steps.{holding}
use Rattle.keep_archive.proofs.Hashed.{piece_given}
use Rattle.keep_archive.proofs.pieces.hold_pieces.Given as goal

abbrev pub invariant-loop-bytes : goal.invariant-loop-bytes
invariant-loop-bytes l =
    goal.iterator-loop-bytes.can_next l.bytes-iterator
    × goal.iterator-loop-bytes.is_finite l.bytes-iterator
    × (l.content.items ≡ l.initial.content.items ++ map (λ (given : Vec ℕ × Id). given.1) l.yielded)
    × (blobs_view l.blobs ≡ holding (map piece_given l.yielded) (blobs_view l.fn.blobs))
