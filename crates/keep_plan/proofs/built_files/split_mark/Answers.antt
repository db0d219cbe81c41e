use borrow.Author.Rules.{sfits_of}
use Rattle.std.proofs.Common.{◌||◌, ℤ, w64, Some, is_none, [], ◌∷◌, cond, sym, ap, ◌∙◌}
use Rattle.std.proofs.lemmas.Int.{to_z-of_z}
use Rattle.std.specs.BTreeSet.{contains}
use Rattle.std.specs.FinMap.{get}
use Rattle.std.specs.List.{list_any}
use Rattle.std.specs.Ordering.{eq_by_cmp}
use Rattle.keep_names.proofs.Orders.{id_total}
use Rattle.keep_names.specs.Orders.{id_cmp}
use Rattle.keep_plan.proofs.Sets.{one_more}
use Rattle.keep_plan.proofs.StoredFiles.{mark_is, mark_none, mark_put, no_mark}
use Rattle.keep_plan.proofs.built_files.split_mark.Goals as goal

pub returns-in_ok-insert-in-Some-clause-clears : goal.returns-in_ok-insert-in-Some-clause-clears
returns-in_ok-insert-in-Some-clause-clears c packs are =
    let fits = rw c.in-Some.is at c.mark_of.type_inv in
    mark_put c.args.repo.now packs c.args.pack _ c.args.clears.now c.insert.new.self
    (mark_is _ c.in-Some.moment (sym c.mark_of.ensures ∙ c.in-Some.is) ∙ ap (λ (n : ℤ). Some (record { moment = n })) (sym (to_z-of_z w64 c.in-Some.moment (sfits_of {w = w64} fits.1.1.1.1.0.1))))
    c.in_ok-insert-in-Some.ensures.updates.0 are

pub returns-in_ok-insert-in-None-clause-clears : goal.returns-in_ok-insert-in-None-clause-clears
returns-in_ok-insert-in-None-clause-clears c packs are =
    mark_none c.args.repo.now packs c.args.pack c.args.clears.now (no_mark _ (sym c.mark_of.ensures ∙ c.in-None.is)) are

pub returns-in_ok-insert-in-None-clause-unmarked : goal.returns-in_ok-insert-in-None-clause-unmarked
returns-in_ok-insert-in-None-clause-unmarked c id =
    one_more id_total c.args.unmarked.now c.insert-in-None.new.self c.args.pack c.in_ok-insert-in-None.ensures.updates.0 id
    ∙ ap (λ m. contains id_cmp c.args.unmarked.now id || list_any (eq_by_cmp id_cmp id) (cond (is_none m) (c.args.pack ∷ []) []))
    (sym (no_mark (get c.args.repo.now.marks c.args.pack) (sym c.mark_of.ensures ∙ c.in-None.is)))
