use Rattle.keep_archive.specs.Archive.{carried_view}
use Rattle.keep_archive.specs.Steps.{Closes, close_refusal}
use Rattle.keep_sources.specs.Given.{ClosedFolder}
use Rattle.keep_backups.proofs.GivenSo.{given_so}
use Rattle.keep_backups.proofs.giving.IntakeReceives.close_folder.Goals as goal

pub returns : goal.returns
returns g c =
    let others = carried_view c.in_ok-others.others in
    given_so (ClosedFolder c.args.sight.now) close_refusal (Closes others) c.args.self.now.archive c.close_folder-done.new.self c.heed.new.self.archive
    c.close_folder-done.result c.heed.result (λ a b closes. (others, c.in_ok-others.ensures, closes))
    c.close_folder-done.ensures c.heed.ensures.done c.heed.ensures.archive
