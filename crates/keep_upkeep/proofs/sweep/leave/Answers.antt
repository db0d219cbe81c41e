use Rattle.std.proofs.Common.{◌≡◌, ◌++◌, [], ◌∷◌, List, map, ap, sym, ◌∙◌}
use Rattle.std.proofs.lemmas.List.{append-nil}
use Rattle.std.specs.BTreeSet.{contains}
use Rattle.keep_names.specs.Orders.{id_cmp}
use Rattle.keep_names.specs.declared.id.Id.{Id}
use Rattle.keep_index.specs.Index.{PackData, index_view, pack_view}
use Rattle.keep_index.specs.Joining.{joined}
use Rattle.keep_index.specs.declared.index.IndexedPack.{IndexedPack}
use Rattle.keep_catalog.specs.Files.{packs_view}
use Rattle.keep_upkeep.specs.Sweep.{left_of, listing_gone, names_of}
use Rattle.keep_upkeep.proofs.LeavingIndexes.{Read, left_more, names_more}
use Rattle.keep_upkeep.proofs.sweep.leave.Goals as goal

pub loop-index-preserved : goal.loop-index-preserved
loop-index-preserved c =
    let g = contains id_cmp c.in_ok-gone.gone in
    let x : Read = (c.in-Some.index.now, c.in-Some.listed.now) in
    let first : c.loop-index.index-iterator ≡ x ∷ c.next.new.self = c.in-Some.ensures.steps in
    record {
      names = names_more g c.args.indexes.now.entries _ _ x first _ _
          (c.in_ok-put_left.ensures.names ∙ ap (λ (packs : List IndexedPack). c.loop-index.names.items ++ names_of (listing_gone g ((x.0, map pack_view packs) ∷ []))) c.deref.ensures.value)
          c.loop-index.invariant.names;
      left = left_more g c.args.indexes.now.entries _ _ x first _ _
          (c.in_ok-put_left.ensures.left ∙ ap (λ (packs : List IndexedPack). map index_view c.loop-index.left.items ++ left_of g (listing_gone g ((x.0, map pack_view packs) ∷ []))) c.deref.ensures.value)
          c.loop-index.invariant.left;
    }

pub returns-clause-names : goal.returns-clause-names
returns-clause-names c =
    let g = contains id_cmp c.in_ok-gone.gone in
    sym (append-nil c.loop-index.names.items)
    ∙ ap (λ (xs : List Read). c.loop-index.names.items ++ names_of (listing_gone g (map packs_view xs))) (sym c.in-None.ensures.steps.0)
    ∙ c.loop-index.invariant.names
    ∙ (λ k. names_of (listing_gone (λ q. c.in_ok-gone.ensures q k) (map packs_view c.args.indexes.now.entries)))

pub returns-clause-left : goal.returns-clause-left
returns-clause-left c =
    let g = contains id_cmp c.in_ok-gone.gone in
    c.in_ok-index.ensures
    ∙ ap (λ (xs : List _). joined (map index_view xs)) c.deref-2.ensures.value
    ∙ ap joined
    (sym (append-nil (map index_view c.loop-index.left.items))
    ∙ ap (λ (xs : List Read). map index_view c.loop-index.left.items ++ left_of g (listing_gone g (map packs_view xs))) (sym c.in-None.ensures.steps.0)
    ∙ c.loop-index.invariant.left
    ∙ (λ k. left_of (λ q. c.in_ok-gone.ensures q k) (listing_gone (λ q. c.in_ok-gone.ensures q k) (map packs_view c.args.indexes.now.entries))))
