use Rattle.std.proofs.Common.{◌≡◌, ◌<◌, map, take}
use Rattle.keep_build.specs.Packs.{bytes_in, full_pack}
use Rattle.keep_build.specs.Storing.{blob_view}
use Rattle.keep_build.proofs.packs.first_pack.Given as goal

abbrev pub invariant-loop-place : goal.invariant-loop-place
invariant-loop-place l = record {
  sum : l.size ≡ bytes_in (map blob_view (take l.place l.blobs));
  low : l.size < full_pack;
}
