-- All was given to an empty archive.
use Rattle.std.proofs.lemmas.Result.{IfOk-weaker}
use Rattle.keep_archive.specs.Archive.{archive_view}
use Rattle.keep_sources.specs.Walked.{archive_of, skipped_of}
use Rattle.keep_backups.proofs.Tied.{is_tree_if}
use Rattle.keep_backups.proofs.backing_up.fill.Goals as goal

pub returns-clause-tree : goal.returns-clause-tree
returns-clause-tree g c =
    let cut = c.args.wish.now.cut in
    IfOk-weaker c.walk.result _ _
    (λ filled took. is_tree_if cut.bytes cut.in_range.0 g.R.Source.told c.args.wish.now.job.now (archive_view (archive_of c.in_ok-taking.taking).archive) (archive_view filled.archive)
    (skipped_of c.in_ok-taking.taking) filled.skipped.items (rw c.in_ok-taking.ensures.archive c.new-intake.ensures) c.in_ok-taking.ensures.skipped took)
    c.walk.ensures
