use Rattle.std.proofs.Common.{◌≡◌, ◌∙◌, string_bytes, subst}
use Rattle.keep_archive.specs.Archive.{carried_view}
use Rattle.keep_archive.specs.Steps.{AddsOther, other_refusal}
use Rattle.keep_quoted.specs.Quote.{quoted}
use Rattle.keep_sources.specs.Given.{GotOther}
use Rattle.keep_backups.proofs.GivenSo.{given_so}
use Rattle.keep_backups.specs.Sighted.{type_name_of}
use Rattle.keep_backups.proofs.giving.IntakeReceives.add_other.Goals as goal

pub returns : goal.returns
returns g c =
    let name = string_bytes c.in_ok-name.name in
    let word = string_bytes c.in_ok-type_name.type_name in
    let others = carried_view c.in_ok-others.others in
    let kind : word ≡ type_name_of c.args.sight.now.kind = c.in_ok-type_name.ensures.ok ∙ c.type_name_of.ensures in
    given_so (GotOther c.args.name.now c.args.sight.now) (other_refusal name word) (AddsOther name word others) c.args.self.now.archive c.add_other-done.new.self c.heed.new.self.archive
    c.add_other-done.result c.heed.result
    (λ a b adds. (others, c.in_ok-others.ensures, subst (λ w. AddsOther (quoted c.args.name.now) w others a b) kind (subst (λ n. AddsOther n word others a b) c.in_ok-name.ensures adds)))
    c.add_other-done.ensures c.heed.ensures.done c.heed.ensures.archive
