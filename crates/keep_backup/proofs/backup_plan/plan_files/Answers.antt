use Rattle.std.proofs.Common.{List, Ok, map, sym, ap, ◌∙◌}
use Rattle.std.specs.FinMap.{get}
use Rattle.std.proofs.lemmas.Result.{err_from_is_err_and}
use Rattle.keep_repo.specs.Facet.{Stored}
use Rattle.keep_backup.specs.Backup.{facts_view}
use Rattle.keep_backup.specs.Files.{file_view, given_view}
use Rattle.keep_backup.specs.declared.paths.PathFile.{PathFile}
use Rattle.keep_backup.proofs.Committed.{backup_met, backup_well_formed}
use Rattle.keep_backup.proofs.Planning.{bad_files, change_made, late, none_stored, snapshot_there, untagged}
use Rattle.keep_plan.specs.Storing.{is_there}
use Rattle.keep_plan.proofs.StoredFiles.{filled_there}
use Rattle.keep_backup.proofs.backup_plan.plan_files.Goals as goal

pub returns-in_err-files-clause-change : goal.returns-in_err-files-clause-change
returns-in_err-files-clause-change c =
    let p = err_from_is_err_and c.from_residual.result c.from_residual.ensures.1 in
    rw (p.1, p.2) (λ other. bad_files c.args.view.now.repo (facts_view c.args.facts.now) c.args.cut.bytes (map given_view c.args.files.now) _ (c.in_err-files.ensures.files other))

pub returns-then-has_bad_time-clause-change : goal.returns-then-has_bad_time-clause-change
returns-then-has_bad_time-clause-change c _ =
    late c.args.view.now.repo (facts_view c.args.facts.now) c.args.cut.bytes (map given_view c.args.files.now) _ c.in_ok-files.ensures.files
    (sym c.has_bad_time.ensures ∙ c.if-has_bad_time.true)

pub returns-in_err-tree-clause-change : goal.returns-in_err-tree-clause-change
returns-in_err-tree-clause-change c =
    let p = err_from_is_err_and c.from_residual-in_err-tree.result c.from_residual-in_err-tree.ensures.1 in
    let files = c.in_ok-files.ensures.files ∙ ap (λ (fs : List PathFile). Ok (map file_view fs)) (sym c.deref.ensures.value) in
    rw (p.1, p.2) (λ other. none_stored c.args.view.now.repo (facts_view c.args.facts.now) c.args.cut.bytes (map given_view c.args.files.now) (map file_view c.deref.result.now) files _
    (sym c.has_bad_time.ensures ∙ c.if-has_bad_time.false)
    (c.in_err-tree.ensures other))

pub returns-then-facet_filled-clause-change : goal.returns-then-facet_filled-clause-change
returns-then-facet_filled-clause-change c _ =
    let files = c.in_ok-files.ensures.files ∙ ap (λ (fs : List PathFile). Ok (map file_view fs)) (sym c.deref.ensures.value) in
    snapshot_there c.args.view.now.repo (facts_view c.args.facts.now) c.args.cut.bytes (map given_view c.args.files.now) (map file_view c.deref.result.now) files _ _ c.in_ok-snapshot.snapshot
    (sym c.has_bad_time.ensures ∙ c.if-has_bad_time.false)
    c.in_ok-tree.ensures (c.in_ok-snapshot.ensures ∙ untagged (facts_view c.args.facts.now) c.in_ok-tree.tree)
    (ap (is_there c.args.view.now.repo) (sym c.name.ensures) ∙ sym (filled_there Stored (get c.args.view.now.repo.files c.name.result)) ∙ sym (rw c.repo.ensures at c.facet_filled.ensures) ∙ c.if-facet_filled.true)

pub returns-clause-change : goal.returns-clause-change
returns-clause-change c =
    let files = c.in_ok-files.ensures.files ∙ ap (λ (fs : List PathFile). Ok (map file_view fs)) (sym c.deref.ensures.value) in
    change_made c.args.view.now.repo (facts_view c.args.facts.now) c.args.cut.bytes (map given_view c.args.files.now) (map file_view c.deref.result.now) files _ _ c.in_ok-snapshot.snapshot
    (sym c.has_bad_time.ensures ∙ c.if-has_bad_time.false)
    c.in_ok-tree.ensures (c.in_ok-snapshot.ensures ∙ untagged (facts_view c.args.facts.now) c.in_ok-tree.tree) c.in_ok-change.change
    (ap (is_there c.args.view.now.repo) (sym c.name.ensures) ∙ sym (filled_there Stored (get c.args.view.now.repo.files c.name.result)) ∙ sym (rw c.repo.ensures at c.facet_filled.ensures) ∙ c.if-facet_filled.false)
    c.in_ok-change.ensures

pub returns-clause-planned : goal.returns-clause-planned
returns-clause-planned c =
    let r = c.args.view.now.repo in
    let facts = facts_view c.args.facts.now in
    let given = map given_view c.args.files.now in
    record {
      well_formed = backup_well_formed r facts c.args.cut.bytes given c.in_ok-change.change (returns-clause-change c);
      met = backup_met r facts c.args.cut.bytes given c.in_ok-change.change (returns-clause-change c);
      seen = c.length.ensures;
    }
