use Rattle.std.proofs.Common.{◌&&◌, cond, false, map, take, sym, ap, ◌∙◌}
use Rattle.std.specs.List.{flat_map}
use Rattle.keep_index.specs.Index.{pack_view}
use Rattle.keep_catalog.specs.Kept.{lists_at}
use Rattle.keep_catalog.specs.Orders.{same_id}
use Rattle.keep_catalog.specs.Places.{at, is_among, listed_of}
use Rattle.keep_catalog.proofs.Relisted.{all_places, packs-taken}
use Rattle.keep_catalog.proofs.listed.unlist.Goals as goal

pub loop-pack-preserved : goal.loop-pack-preserved
loop-pack-preserved c blob l =
    let packs = c.args.packs.now in
    let i = c.loop-pack.pack-index in
    let before = lists_at c.args.listed.now blob l in
    all_places c.args.index blob l false before _ _ (flat_map listed_of (map pack_view (take i packs))) (listed_of (pack_view c.pack-item.result)) (c.loop-pack.invariant blob l) (c.in_ok-unlist_pack.ensures blob l)
    ∙ ap (λ places. cond (same_id c.args.index l.index && is_among places (at blob l.spot)) false before) (sym (packs-taken packs i c.pack-item.result c.pack-item.result c.loop-pack-test.true c.pack-item.is))
