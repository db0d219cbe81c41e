use Rattle.std.proofs.Common.{[], map, subst, ap, ◌∙◌}
use Rattle.std.proofs.lemmas.Result.{err_from_is_err_and}
use Rattle.keep_repo.specs.Repository.{Repository}
use Rattle.keep_backup.specs.Files.{file_view}
use Rattle.keep_backup.specs.Folders.{root_folder}
use Rattle.keep_plan.specs.Refusal.{of_catalog}
use Rattle.keep_build.specs.Storing.{Keeps}
use Rattle.keep_backup.specs.Walk.{blobs_of}
use Rattle.keep_build.proofs.Answering.{none_named}
use Rattle.keep_backup.proofs.Planning.{files_refused, files_stored, files_unread}
use Rattle.keep_backup.proofs.backup_plan.store_files.Goals as goal

pub returns-in_err-catalog : goal.returns-in_err-catalog
returns-in_err-catalog c =
    let p = err_from_is_err_and c.from_residual.result c.from_residual.ensures.1 in
    rw (p.1, p.2) (λ other. files_unread c.args.view.now.repo c.args.cut.bytes (map file_view c.args.files.now) c.in_err-catalog.field-0.0 (c.in_err-catalog.ensures.refused (λ memory. other (ap of_catalog memory))))

pub returns-in_err-tree : goal.returns-in_err-tree
returns-in_err-tree c =
    let p = err_from_is_err_and c.from_residual-in_err-tree.result c.from_residual-in_err-tree.ensures.1 in
    rw (p.1, p.2) (λ other. files_refused c.args.view.now.repo c.args.cut.bytes (map file_view c.args.files.now) _ c.in_ok-catalog.ensures.all_read (c.in_err-tree.ensures.refused other))

pub finish-requires : goal.finish-requires
finish-requires c =
    let r = c.args.view.now.repo in
    let At : Repository → Type 0 = λ x. Keeps x [] [] c.new-storing.result in
    rw c.repo.ensures ([], blobs_of c.args.cut.bytes (root_folder (map file_view c.args.files.now)), c.in_ok-tree.ensures.took.kept r [] [] (subst At c.in_ok-catalog.ensures.catalog c.new-storing.ensures))

pub returns : goal.returns
returns c =
    let r = c.args.view.now.repo in
    let At : Repository → Type 0 = λ x. Keeps x [] [] c.new-storing.result in
    let keeps = c.in_ok-tree.ensures.took.kept r [] [] (subst At c.in_ok-catalog.ensures.catalog c.new-storing.ensures) in
    let files = map file_view c.args.files.now in
    files_stored r c.args.cut.bytes files c.in_ok-tree.tree c.in_ok-stored.stored c.in_ok-catalog.ensures.all_read c.in_ok-tree.ensures.within keeps.fits c.in_ok-tree.ensures.root
    ((rw c.repo.ensures at c.in_ok-stored.ensures) [] (blobs_of c.args.cut.bytes (root_folder files)) keeps ∙ none_named r (blobs_of c.args.cut.bytes (root_folder files)))
