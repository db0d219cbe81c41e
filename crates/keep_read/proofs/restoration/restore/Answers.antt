use Rattle.std.proofs.Common.{◌≡◌, None, Some, Ok, sym, ap, subst, ◌∙◌}
use Rattle.std.proofs.lemmas.Result.{err_from_is_err_and}
use Rattle.std.specs.Option.{option_map}
use Rattle.keep_repo.specs.Repository.{Repository}
use Rattle.keep_snap.specs.Snap.{SnapData}
use Rattle.keep_catalog.specs.Files.{snap_in}
use Rattle.keep_reach.specs.Reach.{most_levels}
use Rattle.keep_reach.specs.Snapshots.{refusal_of}
use Rattle.keep_read.specs.Contents.{contents_at}
use Rattle.keep_read.specs.Restored.{restored_of}
use Rattle.keep_read.specs.declared.restore_error.RestoreError.TheVariants.{Reach}
use Rattle.keep_read.proofs.Restoring.{found_at, had_at, not_there, refused_at, restored_at}
use Rattle.keep_read.proofs.restoration.restore.Goals as goal

pub returns-then-not-facet_filled-clause-restored : goal.returns-then-not-facet_filled-clause-restored
returns-then-not-facet_filled-clause-restored c _ =
    not_there c.args.view.now.repo c.args.snapshot (rw (c.repo-repo.ensures, c.snapshot.ensures) at (sym c.facet_filled.ensures ∙ c.if-not-facet_filled.true))

pub contents_of-requires : goal.contents_of-requires
contents_of-requires c =
    let r = c.in_ok-catalog.catalog in
    record {
      found = found_at r c.args.snapshot c.in-Some.tree (sym c.in-Some.ensures) c.in_ok-reached.reached c.in_ok-reached.ensures.reached c.in_ok-reached.ensures.places;
      had = had_at r c.args.snapshot c.in-Some.tree (sym c.in-Some.ensures) c.in_ok-reached.ensures.all;
    }

pub returns-clause-restored : goal.returns-clause-restored
returns-clause-restored c =
    let N : Repository → Type 0 = λ x. refusal_of x c.args.snapshot ≡ None in
    let R : Repository → Type 0 = λ x. option_map (λ (s : SnapData). s.tree) (snap_in x c.args.snapshot) ≡ Some c.in-Some.tree in
    restored_at c.args.view.now.repo c.args.snapshot c.in-Some.tree (subst R c.in_ok-catalog.ensures (sym c.in-Some.ensures)) (subst N c.in_ok-catalog.ensures c.in_ok-reached.ensures.all)
    ∙ ap Ok (sym (c.in_ok-restored.ensures ∙ ap restored_of (c.in_ok-contents.ensures ∙ ap (λ x. contents_at x most_levels c.in-Some.tree) c.in_ok-catalog.ensures)))

pub returns-in_err-reached-clause-restored : goal.returns-in_err-reached-clause-restored
returns-in_err-reached-clause-restored c =
    let due = err_from_is_err_and c.from_residual-in_err-reached.result c.from_residual-in_err-reached.ensures.1 in
    let R : Repository → Type 0 = λ x. option_map (λ (s : SnapData). s.tree) (snap_in x c.args.snapshot) ≡ Some c.in-Some.tree in
    let N : Repository → Type 0 = λ x. refusal_of x c.args.snapshot ≡ Some c.in_err-reached.field-0.0 in
    rw (due.1, due.2) (λ other.
    refused_at c.args.view.now.repo c.args.snapshot c.in-Some.tree (subst R c.in_ok-catalog.ensures (sym c.in-Some.ensures)) _
    (subst N c.in_ok-catalog.ensures (c.in_err-reached.ensures.refused (λ e. other (ap Reach e)))))
