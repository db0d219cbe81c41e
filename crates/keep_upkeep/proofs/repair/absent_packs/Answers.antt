use Rattle.std.proofs.Common.{◌≡◌, ◌||◌, ◌∷◌, [], List, map, ap, sym, ◌∙◌}
use Rattle.std.specs.BTreeSet.{contains}
use Rattle.keep_index.specs.Index.{pack_view}
use Rattle.keep_index.specs.declared.index.IndexedPack.{IndexedPack}
use Rattle.keep_names.proofs.Orders.{name_exact, name_total}
use Rattle.keep_names.specs.Orders.{name_cmp}
use Rattle.keep_catalog.specs.Files.{packs_view}
use Rattle.keep_plan.proofs.Outcomes.{if_ok}
use Rattle.keep_plan.proofs.StoredFiles.{keys_are}
use Rattle.keep_upkeep.specs.Repair.{absent_listed, other_listings}
use Rattle.keep_upkeep.proofs.AbsentPacks.{AreAmong, listing_more, or_none}
use Rattle.keep_upkeep.proofs.LeavingIndexes.{Read}
use Rattle.keep_upkeep.proofs.repair.absent_packs.Goals as goal

pub loop-index-preserved : goal.loop-index-preserved
loop-index-preserved c name =
    let r = c.args.repo.now in
    let x : Read = (c.in-Some.index.now, c.in-Some.packs.now) in
    let first : c.loop-index.index-iterator ≡ x ∷ c.next.new.self = c.in-Some.ensures.steps in
    listing_more r c.args.built.now c.args.indexes.now.entries _ _ x first name _ _
    (c.in_ok-put_listed.ensures name
    ∙ ap (λ (packs : List IndexedPack). contains name_cmp c.loop-index.absent name || AreAmong (absent_listed r (other_listings c.args.built.now ((x.0, map pack_view packs) ∷ []))) name) c.deref.ensures.value)
    (c.loop-index.invariant name)

pub returns : goal.returns
returns c =
    if_ok _ _ c.names_in.result
    (λ listed is. is ∙ keys_are name_total name_exact c.loop-index.absent (absent_listed c.args.repo.now (other_listings c.args.built.now (map packs_view c.args.indexes.now.entries))) c.names_in.ensures.ordered
    (λ name. or_none (contains name_cmp c.loop-index.absent name)
    ∙ ap (λ (xs : List Read). contains name_cmp c.loop-index.absent name || AreAmong (absent_listed c.args.repo.now (other_listings c.args.built.now (map packs_view xs))) name) (sym c.in-None.ensures.steps.0)
    ∙ c.loop-index.invariant name))
    c.names_in.ensures.names
