use Rattle.std.proofs.Common.{◌≡◌, ℤ, List, map, w64, ap, sym, subst, ◌∙◌}
use Rattle.std.proofs.lemmas.Int.{to_z-of_z}
use Rattle.std.specs.BTreeSet.{contains}
use Rattle.std.specs.Vec.{vec_len}
use Rattle.keep_reach.specs.Used.{used_in}
use Rattle.keep_names.specs.Orders.{id_cmp}
use Rattle.keep_names.specs.declared.id.Id.{Id}
use Rattle.keep_plan.specs.Reuse.{RestOn}
use Rattle.keep_plan.specs.Storing.{stored_built}
use Rattle.keep_repo.specs.Repository.{Repository}
use Rattle.keep_upkeep.specs.Mark.{mark_at, needed_in, unneeded_but, unneeded_packs}
use Rattle.keep_upkeep.proofs.MarkAsked.{mark_made, no_items, none_marked, some_items, unneeded_are}
use Rattle.keep_upkeep.proofs.mark.mark_others.Goals as goal

pub returns-then-is_empty : goal.returns-then-is_empty
returns-then-is_empty c =
    let r = c.args.view.now.repo in
    let packs = c.in_ok-packs.packs in
    let same : packs.items ≡ unneeded_packs r =
    c.in_ok-packs.ensures ∙ ap (λ (x : Repository). unneeded_but x (contains id_cmp c.args.reuses.unmarked)) c.repo.ensures ∙ unneeded_are r c.args.reuses c.requires in
    λ other. none_marked r c.args.view.now.known c.args.moment packs.items same (no_items (vec_len packs) packs.items packs.ok.0 (sym c.is_empty.ensures ∙ c.if-is_empty.true))

pub returns : goal.returns
returns c =
    let r = c.args.view.now.repo in
    let packs = c.in_ok-packs.packs in
    let same : packs.items ≡ unneeded_packs r =
    c.in_ok-packs.ensures ∙ ap (λ (x : Repository). unneeded_but x (contains id_cmp c.args.reuses.unmarked)) c.repo.ensures ∙ unneeded_are r c.args.reuses c.requires in
    let Rests : Repository → Type 0 = λ x. RestOn x (used_in r) c.args.reuses in
    let needed : c.in_ok-needed.needed ≡ needed_in r =
    c.in_ok-needed.ensures (used_in r) (subst Rests (sym c.repo-2.ensures) c.requires) ∙ (λ i. stored_built (c.repo-2.ensures i) (used_in r) (c.new.ensures.items i)) in
    mark_made r c.args.view.now.known c.args.moment packs.items c.in_ok-marks.marks.items c.in_ok-needed.needed c.in_ok-gone.gone.items c.in_ok-names.names.items c.marking.result
    same (some_items (vec_len packs) packs.items packs.ok.0 (sym c.is_empty.ensures ∙ c.if-is_empty.false)) (c.in_ok-marks.ensures ∙ ap (λ (n : ℤ). map (mark_at n) packs.items) (to_z-of_z w64 c.args.moment c.ranges.moment)) needed c.in_ok-gone.ensures c.in_ok-names.ensures c.marking.ensures
