use Rattle.std.proofs.Common.{string_bytes, subst}
use Rattle.keep_archive.specs.Archive.{carried_view}
use Rattle.keep_archive.specs.Steps.{SamesFile, node_refusal}
use Rattle.keep_sources.specs.Given.{GotSame}
use Rattle.keep_backups.proofs.GivenSo.{given_so}
use Rattle.keep_backups.proofs.giving.IntakeReceives.same_file.Goals as goal

pub returns : goal.returns
returns g c =
    let name = string_bytes c.in_ok-name.name in
    let others = carried_view c.in_ok-others.others in
    let content = c.args.content.now in
    given_so (GotSame c.args.name.now content c.args.sight.now) (node_refusal name) (SamesFile name content others) c.args.self.now.archive c.same_file-done.new.self c.heed.new.self.archive
    c.same_file-done.result c.heed.result (λ a b sames. (others, c.in_ok-others.ensures, subst (λ n. SamesFile n content others a b) c.in_ok-name.ensures sames))
    c.same_file-done.ensures c.heed.ensures.done c.heed.ensures.archive
