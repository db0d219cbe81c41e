use Rattle.std.proofs.Common.{string_bytes, subst}
use Rattle.keep_archive.specs.Archive.{carried_view}
use Rattle.keep_archive.specs.Steps.{EndsFile, node_refusal}
use Rattle.keep_sources.specs.Given.{EndedFile}
use Rattle.keep_backups.proofs.GivenSo.{given_so}
use Rattle.keep_backups.proofs.giving.IntakeReceives.end_file.Goals as goal

pub returns : goal.returns
returns g c =
    let name = string_bytes c.in_ok-name.name in
    let others = carried_view c.in_ok-others.others in
    given_so (EndedFile c.args.name.now c.args.sight.now) (node_refusal name) (EndsFile name others) c.args.self.now.archive c.end_file-done.new.self c.heed.new.self.archive
    c.end_file-done.result c.heed.result (λ a b ends. (others, c.in_ok-others.ensures, subst (λ n. EndsFile n others a b) c.in_ok-name.ensures ends))
    c.end_file-done.ensures c.heed.ensures.done c.heed.ensures.archive
