use Rattle.std.proofs.Common.{◌≡◌, ◌-◌, ◌≤◌, ◌++◌, drop, length, map}
use Rattle.keep_build.specs.NewPacks.{new_pack_of, new_pack_view}
use Rattle.keep_build.specs.Packs.{packs_of}
use Rattle.keep_build.specs.Storing.{blob_view}
use Rattle.keep_build.proofs.packs.add_packs.Given as goal

abbrev pub invariant-loop-start : goal.invariant-loop-start
invariant-loop-start l = record {
  within : l.start ≤ length l.blobs;
  packs : map new_pack_view l.packs.items ++ map new_pack_of (packs_of (map blob_view (drop l.start l.blobs))) ≡ map new_pack_view l.initial.packs.items ++ map new_pack_of (packs_of (map blob_view l.blobs));
}

abbrev pub decreases-loop-start : goal.decreases-loop-start
decreases-loop-start l = length l.blobs - l.start
