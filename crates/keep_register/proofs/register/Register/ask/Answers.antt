use Rattle.std.proofs.Common.{◌≡◌, ℕ, ◌+◌, ◌++◌, Bool, true, false, List, length, ap, refl, sym, ◌∙◌, subst, MatchBool}
use Rattle.keep_journal.specs.Journal.{Journal}
use Rattle.keep_journal.specs.declared.event.Event.{Event}
use Rattle.keep_ledger.specs.Ends.{failures_after}
use Rattle.keep_chronicle.specs.Chronicle.{last_events}
use Rattle.keep_register.specs.Allowed.{MayFollow}
use Rattle.keep_register.specs.Asked.{WasAsked, counted_after, is_in}
use Rattle.keep_register.specs.Registered.{Registered}
use Rattle.keep_register.proofs.Allowing.{allowed_after}
use Rattle.keep_register.proofs.Recording.{recorded}
use Rattle.keep_register.proofs.register.Register.ask.Goals as goal

pub invariant_of-self : goal.invariant_of-self
invariant_of-self g c =
    let on = c.self.inside.chronicle in
    let now = c.write.new.self in
    let after = g.K.Keeper.ledger c.ask-reply.new.self in
    let yes : is_in c.ask-reply.result ≡ true = sym c.event_is_in.ensures ∙ c.if-event_is_in.true in
    let written : now ≡ on ++ last_events after.events =
    c.write.ensures ∙ ap (λ (j : Journal). on ++ last_events j) c.history.ensures.events in
    let r = recorded g.B.Naming.hooks.vetoes g.B.Naming.opening c.args.request on now after c.self.invariant.1
    (g.K.Keeper.ledger c.self.inside.keeper) c.self.invariant.0 _ (ap (λ h. h.vetoes) c.self.invariant.2) c.ask-reply.result
    c.ask-reply.ensures.replies c.ask-reply.ensures.ledger c.ask-reply.ensures.unsettled
    (subst (λ (v : Bool). MatchBool v (now ≡ on ++ last_events after.events) (now ≡ on)) (sym yes) written) in (
      r.ledger,
      r.history,
      c.ask-reply.ensures.hooks ∙ c.self.invariant.2,
      c.ask-reply.ensures.sums,
      c.add.ensures.total
          ∙ (ap (λ n. n + 1) c.self.invariant.4 ∙ sym (r.counted ∙ ap (λ v. counted_after v (length on)) yes)),
      allowed_after g.B.Naming.allows g.B.Naming.hooks.vetoes g.B.Naming.opening c.args.request on now
          (subst (λ (es : List Event). MayFollow g.B.Naming.allows es c.args.request) (sym (ap (λ (r : Registered). r.events) c.self.view_is)) c.requires.may) c.self.invariant.5
          c.ask-reply.result r.asked,
    )

pub returns-then-event_is_in-clause-asked : goal.returns-then-event_is_in-clause-asked
returns-then-event_is_in-clause-asked g c =
    let on = c.self.inside.chronicle in
    let now = c.write.new.self in
    let after = g.K.Keeper.ledger c.ask-reply.new.self in
    let yes : is_in c.ask-reply.result ≡ true = sym c.event_is_in.ensures ∙ c.if-event_is_in.true in
    let written : now ≡ on ++ last_events after.events =
    c.write.ensures ∙ ap (λ (j : Journal). on ++ last_events j) c.history.ensures.events in
    let r = recorded g.B.Naming.hooks.vetoes g.B.Naming.opening c.args.request on now after c.self.invariant.1
    (g.K.Keeper.ledger c.self.inside.keeper) c.self.invariant.0 _ (ap (λ h. h.vetoes) c.self.invariant.2) c.ask-reply.result
    c.ask-reply.ensures.replies c.ask-reply.ensures.ledger c.ask-reply.ensures.unsettled
    (subst (λ (v : Bool). MatchBool v (now ≡ on ++ last_events after.events) (now ≡ on)) (sym yes) written) in
    subst (λ (es : List Event). WasAsked g.B.Naming.hooks.vetoes g.B.Naming.opening c.args.request c.ask-reply.result es now)
    (ap (λ (r : Registered). r.events) c.self.view_is) r.asked

pub returns-then-event_is_in-clause-legal : goal.returns-then-event_is_in-clause-legal
returns-then-event_is_in-clause-legal g c =
    let on = c.self.inside.chronicle in
    let now = c.write.new.self in
    let after = g.K.Keeper.ledger c.ask-reply.new.self in
    let yes : is_in c.ask-reply.result ≡ true = sym c.event_is_in.ensures ∙ c.if-event_is_in.true in
    let written : now ≡ on ++ last_events after.events =
    c.write.ensures ∙ ap (λ (j : Journal). on ++ last_events j) c.history.ensures.events in
    let r = recorded g.B.Naming.hooks.vetoes g.B.Naming.opening c.args.request on now after c.self.invariant.1
    (g.K.Keeper.ledger c.self.inside.keeper) c.self.invariant.0 _ (ap (λ h. h.vetoes) c.self.invariant.2) c.ask-reply.result
    c.ask-reply.ensures.replies c.ask-reply.ensures.ledger c.ask-reply.ensures.unsettled
    (subst (λ (v : Bool). MatchBool v (now ≡ on ++ last_events after.events) (now ≡ on)) (sym yes) written) in
    r.history.legal

pub returns-else-event_is_in-clause-asked : goal.returns-else-event_is_in-clause-asked
returns-else-event_is_in-clause-asked g c =
    let on = c.self.inside.chronicle in
    let after = g.K.Keeper.ledger c.ask-reply.new.self in
    let no : is_in c.ask-reply.result ≡ false = sym c.event_is_in.ensures ∙ c.if-event_is_in.false in
    let r = recorded g.B.Naming.hooks.vetoes g.B.Naming.opening c.args.request on on after c.self.invariant.1
    (g.K.Keeper.ledger c.self.inside.keeper) c.self.invariant.0 _ (ap (λ h. h.vetoes) c.self.invariant.2) c.ask-reply.result
    c.ask-reply.ensures.replies c.ask-reply.ensures.ledger c.ask-reply.ensures.unsettled
    (subst (λ (v : Bool). MatchBool v (on ≡ on ++ last_events after.events) (on ≡ on)) (sym no) refl) in
    subst (λ (es : List Event). WasAsked g.B.Naming.hooks.vetoes g.B.Naming.opening c.args.request c.ask-reply.result es on)
    (ap (λ (r : Registered). r.events) c.self.view_is) r.asked

pub returns-then-event_is_in-clause-failures : goal.returns-then-event_is_in-clause-failures
returns-then-event_is_in-clause-failures g c =
    c.ask-reply.ensures.failures
    ∙ ap (λ (n : ℕ). failures_after c.ask-reply.result n) (ap (λ (r : Registered). r.failures) c.self.view_is)

pub returns-else-event_is_in-clause-failures : goal.returns-else-event_is_in-clause-failures
returns-else-event_is_in-clause-failures g c =
    c.ask-reply.ensures.failures
    ∙ ap (λ (n : ℕ). failures_after c.ask-reply.result n) (ap (λ (r : Registered). r.failures) c.self.view_is)
