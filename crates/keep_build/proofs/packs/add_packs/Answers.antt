use Rattle.std.proofs.Common.{◌+◌, ◌≤◌, drop, length, map, take, ap, arith}
use Rattle.std.proofs.lemmas.List.{length-drop, take_rest}
use Rattle.keep_build.specs.NewPacks.{new_pack_of, new_pack_view}
use Rattle.keep_build.specs.Packs.{packs_of}
use Rattle.keep_build.specs.Storing.{blob_view}
use Rattle.keep_build.proofs.Building.{all_done, can_rest, cut_rest, front_front, from_start, no_rest, one_done, some_front, some_rest}
use Rattle.keep_build.proofs.Packable.{can_take}
use Rattle.keep_build.proofs.packs.add_packs.Goals as goal

pub first_pack-count-requires-clause-some : goal.first_pack-count-requires-clause-some
first_pack-count-requires-clause-some c = some_rest c.loop-start.start c.args.blobs.now c.loop-start-test.true

pub first_pack-count-requires-clause-fits : goal.first_pack-count-requires-clause-fits
first_pack-count-requires-clause-fits c = can_rest c.loop-start.start c.args.blobs.now c.requires

pub add_pack-requires-clause-fits : goal.add_pack-requires-clause-fits
add_pack-requires-clause-fits c = can_take c.first_pack-count.result (from_start c.loop-start.start c.args.blobs.now) (can_rest c.loop-start.start c.args.blobs.now c.requires)

pub add_pack-requires-clause-some : goal.add_pack-requires-clause-some
add_pack-requires-clause-some c = some_front c.first_pack-count.result (from_start c.loop-start.start c.args.blobs.now) c.first_pack-count.ensures.some c.first_pack-count.ensures.within

pub add_pack-requires-clause-front : goal.add_pack-requires-clause-front
add_pack-requires-clause-front c = front_front c.first_pack-count.result (from_start c.loop-start.start c.args.blobs.now) c.first_pack-count.ensures.within c.first_pack-count.ensures.front

pub loop-start-preserved : goal.loop-start-preserved
loop-start-preserved c =
    let blobs = c.args.blobs.now in
    let start = c.loop-start.start in
    let count = c.first_pack-count.result in
    let rest = from_start start blobs in
    let splits = cut_rest start count blobs c.first_pack-count.ensures.first in
    let within : count ≤ length rest = c.first_pack-count.ensures.within in
    let before : start ≤ length blobs = c.loop-start.invariant.within in
    record {
      within = omega (arith, within, before, ap length (take_rest blobs start), length-drop start blobs);
      packs = one_done new_pack_of (map new_pack_view c.loop-start.packs.items) (map new_pack_view c.add_pack.new.packs.items) _ (packs_of (map blob_view (drop start blobs))) (packs_of (map blob_view (drop (start + count) blobs))) (map blob_view (take count rest))
          splits c.in_ok-add_pack.ensures c.loop-start.invariant.packs;
    }

pub returns : goal.returns
returns c =
    all_done new_pack_of (map new_pack_view c.loop-start.packs.items) _ (packs_of (map blob_view (drop c.loop-start.start c.args.blobs.now))) (no_rest c.loop-start.start c.args.blobs.now c.loop-start-test.false) c.loop-start.invariant.packs
