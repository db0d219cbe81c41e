-- Something is found where some member's facet ties.
use Rattle.std.proofs.Common.{sym, ap, ◌∙◌}
use Rattle.std.specs.Prelude.{is_some}
use Rattle.keep_repo.specs.Facet.{facet_cmp}
use Rattle.keep_repo.specs.contracts.facet.FacetOrd.TheImpl.Laws.{total-law}
use Rattle.keep_change.proofs.Sorted.{is_some-find, is_some-option_copied}
use Rattle.keep_change.proofs.member.contains.Goals as goal

pub returns : goal.returns
returns g c =
    c.is_some.ensures ∙ sym (is_some-option_copied c.find.result) ∙ ap is_some c.find.ensures
    ∙ is_some-find facet_cmp total-law g.M.Member.facet_of c.args.facet c.args.members.now
