use Rattle.std.proofs.Common.{◌++◌, List, ap, ◌∙◌}
use Rattle.keep_change.specs.NamedBytes.{NamedBytes}
use Rattle.keep_names.proofs.Orders.{id_exact, id_total, name_exact, name_total}
use Rattle.keep_names.specs.Orders.{id_cmp, name_cmp}
use Rattle.keep_plan.specs.Reuse.{reused_files, reused_packs}
use Rattle.keep_plan.specs.Storing.{first_differing, marks_on, names_there, packs_among, stored_built, unmarked_of}
use Rattle.keep_plan.proofs.StoredFiles.{among_both, keys_are}
use Rattle.keep_plan.proofs.stored.store_built.Goals as goal

pub returns : goal.returns
unfolding stored_built
returns c used rests =
    let r = c.args.repo.now in
    let built = c.args.built.items in
    let adds = c.from_vec.ensures ∙ c.in_ok-adds.ensures.adds in
    let clears = c.from_vec-2.ensures ∙ c.in_ok-clears.ensures.clears ∙ ap (λ (fs : List NamedBytes). marks_on r (packs_among fs)) c.deref-2.ensures.value in
    let present = c.from_vec-3.ensures ∙ c.in_ok-present.ensures.names
    ∙ keys_are name_total name_exact c.split_files.new.present (reused_files r used ++ names_there r built) c.names_in.ensures.ordered
    (λ name. among_both name_cmp name (reused_files r used) (names_there r built) (names_there r built) _ _ (λ i. names_there r built) (rests.files name) (c.in_ok-adds.ensures.present name)) in
    let unmarked = c.from_vec-4.ensures ∙ c.in_ok-unmarked.ensures.ids
    ∙ keys_are id_total id_exact c.split_marks.new.unmarked (reused_packs r used ++ unmarked_of r (packs_among built)) c.ids_in.ensures.ordered
    (λ pack. among_both id_cmp pack (reused_packs r used) (unmarked_of r (packs_among c.deref-2.result.now)) (unmarked_of r (packs_among built)) _ _
    (ap (λ (fs : List NamedBytes). unmarked_of r (packs_among fs)) c.deref-2.ensures.value) (rests.packs pack) (c.in_ok-clears.ensures.unmarked pack)) in
    let differing = c.first_differing-differing.ensures ∙ ap (first_differing r) c.deref.ensures.value in
    (λ i. record { adds = adds i; clears = clears i; present = present i; unmarked = unmarked i; differing = differing i })
