use Rattle.std.proofs.Common.{string_bytes, subst}
use Rattle.keep_archive.specs.Steps.{Opens, open_refusal}
use Rattle.keep_sources.specs.Given.{OpenedFolder}
use Rattle.keep_backups.proofs.GivenSo.{given_so}
use Rattle.keep_backups.proofs.giving.IntakeReceives.open_folder.Goals as goal

pub returns : goal.returns
returns g c =
    let name = string_bytes c.in_ok-name.name in
    given_so (OpenedFolder c.args.name.now) (open_refusal name) (Opens name) c.args.self.now.archive c.open_folder-done.new.self c.heed.new.self.archive
    c.open_folder-done.result c.heed.result (λ a b opens. subst (λ n. Opens n a b) c.in_ok-name.ensures opens)
    c.open_folder-done.ensures c.heed.ensures.done c.heed.ensures.archive
