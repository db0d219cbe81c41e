use Rattle.std.proofs.Common.{◌++◌, map, get_or, refl, sym, ap, ◌∙◌}
use Rattle.keep_catalog.specs.Orders.{blob_eq}
use Rattle.keep_index.specs.Joining.{first_of_each}
use Rattle.keep_catalog.specs.Wrong.{wrong_in}
use Rattle.keep_catalog.proofs.Growing.{flat_map_taken, no_id}
use Rattle.keep_catalog.proofs.Hashes.{in_pack}
use Rattle.keep_catalog.proofs.wrong.hash_packs.Goals as goal

pub loop-pack-preserved : goal.loop-pack-preserved
loop-pack-preserved c =
    let r = c.args.repo.now in
    let packs = c.args.packs.now in
    let i = c.loop-pack.pack-index in
    let pack = get_or packs i no_id in
    c.in_ok-note_blobs.ensures
    ∙ ap (λ bs. c.loop-pack.wrong.items ++ map (in_pack pack) (first_of_each blob_eq bs)) (c.deref.ensures.value ∙ c.in_ok-blobs.ensures)
    ∙ ap (λ ws. ws ++ wrong_in r pack) c.loop-pack.invariant
    ∙ sym (flat_map_taken packs i pack no_id c.loop-pack-test.true refl (wrong_in r))
