-- One that doesn't stand once is enough.
use Rattle.std.proofs.Common.{◌∙◌, ap}
use Rattle.std.specs.Prelude.{count_by}
use Rattle.keep_repo.specs.Facet.{facet_eq}
use Rattle.keep_repo.specs.declared.facet.Facet.{Facet}
use Rattle.keep_change.specs.Form.{is_once}
use Rattle.keep_change.specs.Touch.{facets}
use Rattle.keep_change.proofs.Once.{list_all-fails, eqb-apart}
use Rattle.keep_change.proofs.change.Change.has_each_once.Goals as goal

pub returns-then-times-ne1 : goal.returns-then-times-ne1
returns-then-times-ne1 g c =
    list_all-fails (λ member. is_once c.args.self.now (g.M.Member.facet_of member)) c.args.members.now c.loop-member.member-index c.member-item.result
    c.loop-member-test.true c.member-item.is
    (eqb-apart _ _ (λ one. c.if-times-ne1.true (c.times.ensures ∙ ap (λ (f : Facet). count_by (facet_eq f) (facets c.args.self.now)) c.facet.ensures ∙ one)))
