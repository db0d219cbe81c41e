use Rattle.std.proofs.Common.{◌∙◌, refl, subst, sym}
use Rattle.std.proofs.lemmas.List.{nil_from_length}
use mathlib.Core.List.{IsPrefix}
use Rattle.keep_register.specs.Registered.{Registered}
use Rattle.keep_desk.proofs.Counting.{all_taken, none_taken, one_taken}
use Rattle.keep_desk.proofs.gathering.gather.Goals as goal

pub loop-pass-init : goal.loop-pass-init
loop-pass-init g c = (none_taken _ _ _ _ c.requires.0 c.requires.1, refl)

pub loop-pass-preserved : goal.loop-pass-preserved
loop-pass-preserved g c = (
  rw (c.merge.ensures.parts, c.close-share.ensures.parts, c.merge.ensures.amount, c.close-share.ensures.amount)
      (one_taken _ _ _ _ _ _ c.in-Some.pass c.loop-pass.invariant.0 c.in-Some.ensures.items
      (subst (λ (r : Registered). IsPrefix c.in-Some.pass.seen r.events) c.loop-pass.invariant.1 c.close-share.ensures.begins)),
  c.close-share.ensures.same ∙ c.loop-pass.invariant.1,
)

pub returns-clause-begins : goal.returns-clause-begins
returns-clause-begins g c =
    (all_taken c.args.register.now.events c.args.passes.items _ _ _ c.loop-pass.invariant.0
    (nil_from_length c.loop-pass.passes.items (sym c.loop-pass.passes.ok.0 ∙ (rw c.in_default.is at c.pop.ensures.cases).0))).begins
