use Rattle.std.proofs.Common.{◌≡◌, ◌*◌, ◌≤◌, ◌++◌, drop, map}
use Rattle.keep_pack.specs.Pack.{entries_from, listing}
use Rattle.keep_build.specs.Storing.{blob_view}
use Rattle.keep_build.proofs.packs.listed_blobs.Given as goal

abbrev pub invariant-loop-blob : goal.invariant-loop-blob
invariant-loop-blob l = record {
  so_far : entries_from 0 (map listing (map blob_view l.blobs)) ≡ l.listed.items ++ entries_from l.offset (map listing (map blob_view (drop l.blob-index l.blobs)));
  low : l.offset ≤ 4294967296 * l.blob-index;
}
