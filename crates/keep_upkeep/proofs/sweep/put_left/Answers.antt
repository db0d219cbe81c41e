use Rattle.std.proofs.Common.{◌≡◌, ◌++◌, [], ◌∷◌, List, map, ap, sym, ◌∙◌}
use Rattle.std.proofs.lemmas.List.{append-nil, map-append}
use Rattle.std.specs.BTreeSet.{contains}
use Rattle.keep_names.specs.Orders.{id_cmp}
use Rattle.keep_names.specs.declared.id.Id.{Id}
use Rattle.keep_index.specs.Index.{PackData, index_view}
use Rattle.keep_upkeep.specs.Sweep.{left_of, names_of}
use Rattle.keep_upkeep.proofs.LeavingIndexes.{passed, taken}
use Rattle.keep_upkeep.proofs.sweep.put_left.Goals as goal

pub returns-then-not-lists_gone-clause-names : goal.returns-then-not-lists_gone-clause-names
returns-then-not-lists_gone-clause-names c =
    let g = contains id_cmp c.args.gone.now in
    let none = passed g c.args.index c.args.packs.now c.lists_gone.result c.lists_gone.ensures c.if-not-lists_gone.true in
    sym (ap (λ xs. c.args.names.now.items ++ names_of xs) none ∙ append-nil c.args.names.now.items)

pub returns-then-not-lists_gone-clause-left : goal.returns-then-not-lists_gone-clause-left
returns-then-not-lists_gone-clause-left c =
    let g = contains id_cmp c.args.gone.now in
    let none = passed g c.args.index c.args.packs.now c.lists_gone.result c.lists_gone.ensures c.if-not-lists_gone.true in
    sym (ap (λ xs. map index_view c.args.left.now.items ++ left_of g xs) none ∙ append-nil (map index_view c.args.left.now.items))

pub returns-clause-names : goal.returns-clause-names
returns-clause-names c =
    let g = contains id_cmp c.args.gone.now in
    let some = taken g c.args.index c.args.packs.now c.lists_gone.result c.lists_gone.ensures c.if-not-lists_gone.false in
    c.in_ok-push-2.ensures.items ∙ sym (ap (λ xs. c.args.names.now.items ++ names_of xs) some)

pub returns-clause-left : goal.returns-clause-left
returns-clause-left c =
    let g = contains id_cmp c.args.gone.now in
    let some = taken g c.args.index c.args.packs.now c.lists_gone.result c.lists_gone.ensures c.if-not-lists_gone.false in
    ap (map index_view) c.in_ok-push.ensures.items
    ∙ map-append index_view c.args.left.now.items (record { packs = c.in_ok-packs.packs } ∷ [])
    ∙ ap (λ (packs : List PackData). map index_view c.args.left.now.items ++ packs ∷ [])
    c.in_ok-packs.ensures
    ∙ sym (ap (λ xs. map index_view c.args.left.now.items ++ left_of g xs) some)
