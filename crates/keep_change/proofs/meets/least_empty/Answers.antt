-- A member that is as asked changes nothing, and another one is taken with the least before it.
use Rattle.std.proofs.Common.{not, Some, sym, ap, ◌∙◌}
use Rattle.std.specs.Prelude.{is_some}
use Rattle.keep_repo.specs.declared.facet.Facet.{Facet}
use Rattle.keep_change.specs.Form.{lesser}
use Rattle.keep_change.proofs.Least.{least_taken, least_kept}
use Rattle.keep_change.proofs.meets.least_empty.Goals as goal
use Rattle.keep_change.proofs.meets.least_empty.Goals.{then-not-is_filled, else-not-is_filled}

pub loop-member-preserved : goal.loop-member-preserved
loop-member-preserved g c =
    elim c.if-not-is_filled.branch [
      | then-not-is_filled w ↦
          least_taken g.M.Member.facet_of (λ member. not (is_some (g.H.Holder.holding c.args.holder.now (g.M.Member.facet_of member)))) c.args.members.now c.loop-member.member-index c.member-item.result c.loop-member.least _
          (w.least-is ∙ w.lesser-least.ensures ∙ ap (λ (f : Facet). lesser c.loop-member.least (Some f)) c.facet-facet.ensures) c.loop-member-test.true c.member-item.is
          (ap (λ (f : Facet). not (is_some (g.H.Holder.holding c.args.holder.now f))) (sym c.facet-facet.ensures) ∙ ap not (sym c.is_filled.ensures ∙ w.if-not-is_filled.true))
          c.loop-member.invariant
      | else-not-is_filled w ↦
          least_kept g.M.Member.facet_of (λ member. not (is_some (g.H.Holder.holding c.args.holder.now (g.M.Member.facet_of member)))) c.args.members.now c.loop-member.member-index c.member-item.result c.loop-member.least _
          w.least-is c.loop-member-test.true c.member-item.is
          (ap (λ (f : Facet). not (is_some (g.H.Holder.holding c.args.holder.now f))) (sym c.facet-facet.ensures) ∙ ap not (sym c.is_filled.ensures ∙ w.if-not-is_filled.false))
          c.loop-member.invariant
    ]
