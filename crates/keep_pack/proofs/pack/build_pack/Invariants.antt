use Rattle.std.proofs.Common.{◌≡◌, ◌++◌, take}
use Rattle.std.specs.List.{flat_map}
use Rattle.keep_pack.specs.Pack.{entry_bytes}
use Rattle.keep_pack.proofs.Built.{given}
use Rattle.keep_pack.proofs.pack.build_pack.Given as goal

-- the blobs so far
abbrev pub invariant-loop-bytes : goal.invariant-loop-bytes
invariant-loop-bytes g l =
    l.pack.items ≡ flat_map (λ blob. g.B.AsSlice.items blob.1) (take l.bytes-index l.blobs)

-- all blobs, and the entries so far
abbrev pub invariant-loop-blob : goal.invariant-loop-blob
invariant-loop-blob g l =
    l.pack.items ≡ flat_map (λ blob. g.B.AsSlice.items blob.1) l.blobs
    ++ flat_map (λ blob. entry_bytes (given g.B.AsSlice.items blob)) (take l.blob-index l.blobs)
