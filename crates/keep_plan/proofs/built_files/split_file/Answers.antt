use Rattle.std.proofs.Common.{◌≡◌, ◌||◌, [], ◌∷◌, sym, ap, ◌∙◌}
use Rattle.std.specs.BTreeSet.{contains}
use Rattle.std.specs.FinMap.{find, get}
use Rattle.std.specs.List.{list_any}
use Rattle.std.specs.Option.{option_or}
use Rattle.std.specs.BTreeMap as tree
use Rattle.std.specs.Ordering.{eq_by_cmp}
use Rattle.keep_names.proofs.Orders.{name_exact, name_total}
use Rattle.keep_names.specs.Orders.{name_cmp}
use Rattle.keep_names.specs.declared.file_name.FileName.{FileName}
use Rattle.keep_repo.specs.Facet.{Stored}
use Rattle.keep_plan.specs.Storing.{is_there}
use Rattle.keep_plan.proofs.Sets.{one_more}
use Rattle.keep_plan.proofs.StoredFiles.{absent_is, filled_there, had_first, put_last, there_is}
use Rattle.keep_plan.proofs.built_files.split_file.Goals as goal

pub returns-then-facet_filled-clause-present : goal.returns-then-facet_filled-clause-present
returns-then-facet_filled-clause-present c name =
    let r = c.args.repo.now in
    let own = c.name-name.result in
    let is : own ≡ c.args.file.name = c.name-name.ensures in
    one_more name_total c.args.present.now c.insert.new.self own c.in_ok-insert.ensures.updates.0 name
    ∙ ap (λ names. contains name_cmp c.args.present.now name || list_any (eq_by_cmp name_cmp name) names)
    (ap (λ (n : FileName). n ∷ []) is
    ∙ sym (there_is r c.args.file (ap (is_there r) (sym is) ∙ sym (filled_there Stored (get r.files own)) ∙ sym c.facet_filled.ensures ∙ c.if-facet_filled.true)))

pub returns-then-contains_key-clause-adds : goal.returns-then-contains_key-clause-adds
returns-then-contains_key-clause-adds c name =
    let r = c.args.repo.now in
    let own = c.name-name.result in
    let is : own ≡ c.args.file.name = c.name-name.ensures in
    had_first name_total name_exact c.args.adds.now own c.args.file (sym c.contains_key.ensures ∙ c.if-contains_key.true) name
    ∙ ap (λ es. option_or (tree.get name_cmp c.args.adds.now name) (find name_cmp name es))
    (ap (λ (n : FileName). (n, c.args.file) ∷ []) is
    ∙ sym (absent_is r c.args.file (ap (is_there r) (sym is) ∙ sym (filled_there Stored (get r.files own)) ∙ sym c.facet_filled.ensures ∙ c.if-facet_filled.false)))

pub returns-clause-adds : goal.returns-clause-adds
returns-clause-adds c name =
    let r = c.args.repo.now in
    let own = c.name-name.result in
    let is : own ≡ c.args.file.name = c.name-name.ensures in
    put_last name_total name_exact c.args.adds.now own c.args.file c.insert-2.new.self c.in_ok-insert-2.ensures.updates.0 (sym c.contains_key.ensures ∙ c.if-contains_key.false) name
    ∙ ap (λ es. option_or (tree.get name_cmp c.args.adds.now name) (find name_cmp name es))
    (ap (λ (n : FileName). (n, c.args.file) ∷ []) is
    ∙ sym (absent_is r c.args.file (ap (is_there r) (sym is) ∙ sym (filled_there Stored (get r.files own)) ∙ sym c.facet_filled.ensures ∙ c.if-facet_filled.false)))
