-- The least facet that isn't as asked is that of the two parts of the change.
use Rattle.std.proofs.Common.{◌≡◌, Some, None, refl}
use Rattle.keep_change.specs.Form.{least_unmet}
use Rattle.keep_change.proofs.Least.{least_unmet_parts, met_least}
use Rattle.keep_change.proofs.change.Change.meets.Goals as goal

pub returns-in-Some-clause-least : goal.returns-in-Some-clause-least
returns-in-Some-clause-least g c =
    let found : least_unmet (g.H.Holder.holding c.args.holder.now) c.args.self.now ≡ Some c.in-Some.facet = cc (least_unmet_parts (g.H.Holder.holding c.args.holder.now) c.args.self.now, c.in-Some.ensures) in
    rw found refl

pub returns-in-Some-clause-met : goal.returns-in-Some-clause-met
returns-in-Some-clause-met g c =
    let found : least_unmet (g.H.Holder.holding c.args.holder.now) c.args.self.now ≡ Some c.in-Some.facet = cc (least_unmet_parts (g.H.Holder.holding c.args.holder.now) c.args.self.now, c.in-Some.ensures) in
    let none = (met_least (g.H.Holder.holding c.args.holder.now) c.args.self.now).0 in
    (λ h. cc h, λ met. cc (none met))

pub returns-in-None-clause-least : goal.returns-in-None-clause-least
returns-in-None-clause-least g c =
    let none : least_unmet (g.H.Holder.holding c.args.holder.now) c.args.self.now ≡ None = cc (least_unmet_parts (g.H.Holder.holding c.args.holder.now) c.args.self.now, c.in-None.ensures) in
    rw none refl

pub returns-in-None-clause-met : goal.returns-in-None-clause-met
returns-in-None-clause-met g c =
    let none : least_unmet (g.H.Holder.holding c.args.holder.now) c.args.self.now ≡ None = cc (least_unmet_parts (g.H.Holder.holding c.args.holder.now) c.args.self.now, c.in-None.ensures) in
    (λ _. (met_least (g.H.Holder.holding c.args.holder.now) c.args.self.now).1 none, λ _. refl)
