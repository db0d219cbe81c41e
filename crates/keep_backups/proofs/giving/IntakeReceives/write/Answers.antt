use Rattle.keep_archive.specs.Steps.{WritesFile, never}
use Rattle.keep_sources.specs.Given.{Wrote}
use Rattle.keep_backups.proofs.GivenSo.{given_so}
use Rattle.keep_backups.proofs.giving.IntakeReceives.write.Goals as goal

pub returns : goal.returns
returns g c =
    given_so (Wrote c.args.bytes.now) never (WritesFile c.args.bytes.now) c.args.self.now.archive c.write-done.new.self c.heed.new.self.archive
    c.write-done.result c.heed.result (λ a b writes. writes)
    c.write-done.ensures c.heed.ensures.done c.heed.ensures.archive
