use Rattle.std.proofs.Common.{◌≡◌, ℕ, ◌≤◌, List, Some, sym, ap, subst, ◌∙◌}
use Rattle.std.proofs.lemmas.Result.{err_from_is_err_and}
use Rattle.std.specs.List.{filter_map}
use Rattle.keep_names.specs.declared.blob.BlobId.{BlobId}
use Rattle.keep_catalog.specs.Naming.{named_by}
use Rattle.keep_catalog.specs.Places.{chosen_listing}
use Rattle.keep_reach.specs.Reach.{first_of, most_levels, refusal_at}
use Rattle.keep_reach.specs.Walk.{GrewAll, ReachedFrom}
use Rattle.keep_reach.proofs.Heights.{fits}
use Rattle.keep_reach.proofs.Reached.{all_roots, first_refusals, none_refused, owed_by_one, root_in}
use Rattle.keep_reach.proofs.Walking.{all_reached}
use Rattle.keep_reach.proofs.snapshots.reach_all.Goals as goal

pub returns-in_err-walk_all-clause-refused : goal.returns-in_err-walk_all-clause-refused
returns-in_err-walk_all-clause-refused c =
    let due = err_from_is_err_and c.from_residual-in_err-walk_all.result c.from_residual-in_err-walk_all.ensures.1 in
    let r = c.args.catalog.now in
    let are : c.deref.result.now ≡ filter_map (root_in r) c.args.snapshots.now = c.deref.ensures.value ∙ all_roots r c.snaps.result.now c.snaps.ensures.each c.args.snapshots.now _ c.in_ok-roots.ensures in
    let F : ℕ → Type 0 = λ n. first_of (refusal_at (named_by r) n) c.deref.result.now ≡ Some c.in_err-walk_all.field-0.0 in
    rw (due.1, due.2) (λ other.
    sym (first_refusals r c.args.snapshots.now)
    ∙ sym (ap (first_of (refusal_at (named_by r) most_levels)) are)
    ∙ subst F c.levels.ensures.value (c.in_err-walk_all.ensures.refused other))

pub returns-clause-reached : goal.returns-clause-reached
returns-clause-reached c blob =
    let r = c.args.catalog.now in
    let roots = c.deref.result.now in
    let walked = c.walk_all.new.walked in
    let are : roots ≡ filter_map (root_in r) c.args.snapshots.now = c.deref.ensures.value ∙ all_roots r c.snaps.result.now c.snaps.ensures.each c.args.snapshots.now _ c.in_ok-roots.ensures in
    let G : ℕ → Type 0 = λ n. GrewAll (named_by r) n roots c.new-walked.result walked in
    let F : List BlobId → Type 0 = λ tops. ReachedFrom (named_by r) most_levels tops blob in
    let both = all_reached (named_by r) (chosen_listing r) most_levels roots c.new-walked.result walked c.new-walked.ensures.empty c.in_ok-walk_all.ensures.known c.in_ok-walk_all.ensures.after (subst G c.levels.ensures.value c.in_ok-walk_all.ensures.grew) blob in
    let owed = owed_by_one r c.args.snapshots.now blob in (
      λ knew. owed.0 (subst F are (both.0 knew)),
      λ owes. both.1 (subst F (sym are) (owed.1 owes)),
    )

pub returns-clause-all : goal.returns-clause-all
returns-clause-all c =
    let r = c.args.catalog.now in
    let are : c.deref.result.now ≡ filter_map (root_in r) c.args.snapshots.now = c.deref.ensures.value ∙ all_roots r c.snaps.result.now c.snaps.ensures.each c.args.snapshots.now _ c.in_ok-roots.ensures in
    let L : ℕ → Type 0 = λ n. c.in_ok-walk_all.field-0 ≤ n in
    none_refused r c.args.snapshots.now
    (sym (ap (first_of (refusal_at (named_by r) most_levels)) are)
    ∙ c.in_ok-walk_all.ensures.height.exact most_levels
    ∙ fits c.in_ok-walk_all.field-0 most_levels (subst L c.levels.ensures.value c.in_ok-walk_all.ensures.within))
