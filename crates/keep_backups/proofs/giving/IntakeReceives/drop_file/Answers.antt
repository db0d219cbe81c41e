use Rattle.keep_archive.specs.Steps.{DropsFile, never}
use Rattle.keep_sources.specs.Given.{DroppedFile}
use Rattle.keep_backups.proofs.GivenSo.{given_so}
use Rattle.keep_backups.proofs.giving.IntakeReceives.drop_file.Goals as goal

pub returns : goal.returns
returns g c =
    given_so DroppedFile never DropsFile c.args.self.now.archive c.drop_file-done.new.self c.heed.new.self.archive
    c.drop_file-done.result c.heed.result (λ a b drops. drops)
    c.drop_file-done.ensures c.heed.ensures.done c.heed.ensures.archive
