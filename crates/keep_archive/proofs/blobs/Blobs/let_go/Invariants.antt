use Rattle.std.proofs.Common.{◌≡◌, ◌++◌, map, take}
use Rattle.keep_build.specs.Blobs.{blob_id_of}
use Rattle.keep_archive.specs.Archive.{held_view}
use Rattle.keep_archive.proofs.blobs.Blobs.let_go.Given as goal

abbrev pub invariant-loop-one : goal.invariant-loop-one
invariant-loop-one l = l.named.items ≡ l.initial.named.items ++ map blob_id_of (map held_view (take l.one-index l.one-items))
