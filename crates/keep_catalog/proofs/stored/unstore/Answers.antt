use Rattle.std.proofs.Common.{cond, None, map, take, get_or, sym, refl, ap, ◌∙◌}
use Rattle.std.specs.BTreeMap as tree
use Rattle.keep_catalog.specs.Orders.{packed_blob_cmp, packed_blob_eq}
use Rattle.keep_catalog.specs.Places.{is_among, packed_of}
use Rattle.keep_catalog.proofs.Growing.{map_taken, no_entry, one_stored}
use Rattle.keep_catalog.proofs.stored.unstore.Goals as goal

pub loop-entry-preserved : goal.loop-entry-preserved
loop-entry-preserved c p =
    let entries = c.args.entries.now in
    let i = c.loop-entry.entry-index in
    let entry = get_or entries i no_entry in
    let before = tree.get packed_blob_cmp c.args.stored.now p in
    let now = tree.get packed_blob_cmp c.loop-entry.stored p in
    one_stored (None) before now _ (map (packed_of c.args.pack) (take i entries)) (packed_of c.args.pack entry) p (c.loop-entry.invariant p)
    (c.remove.ensures.updates.0 p ∙ ap (λ place. cond (packed_blob_eq place p) (None) now) c.of.ensures)
    ∙ ap (λ places. cond (is_among places p) (None) before) (sym (map_taken entries i entry no_entry c.loop-entry-test.true refl (packed_of c.args.pack)))
