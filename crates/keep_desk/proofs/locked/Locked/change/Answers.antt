use Rattle.std.proofs.Common.{ℕ, List, inl, inr, subst}
use mathlib.Core.List.{IsPrefix}
use Rattle.keep_journal.specs.declared.event.Event.{Event}
use Rattle.keep_crew.specs.Answered.{Tells}
use Rattle.keep_desk.specs.Held.{FailuresAfter}
use Rattle.keep_desk.proofs.Answering.{nothing_asked}
use Rattle.keep_desk.proofs.locked.Locked.change.Goals as goal

pub change_once-requires-clause-may : goal.change_once-requires-clause-may
change_once-requires-clause-may g c κs within = (
  c.args.pass.now.seen,
  subst (λ (es : List Event). IsPrefix c.args.pass.now.seen es) c.in_default.ensures.seen c.catch_up.ensures.begins,
  c.requires,
)

pub returns-in-Err-clause-answered : goal.returns-in-Err-clause-answered
returns-in-Err-clause-answered g c =
    nothing_asked g.B.Naming.hooks.vetoes g.B.Naming.opening c.args.request c.args.pass.now c.catch_up.new.pass c.args.self.now
    c.in-Err.ensures.same c.catch_up.ensures.within c.in-Err.ensures.late

pub returns-clause-answered : goal.returns-clause-answered
returns-clause-answered g c = record {
  on = c.catch_up.new.self.journal;
  begins = subst (λ (es : List Event). IsPrefix c.args.pass.now.seen es) c.in_default.ensures.seen c.catch_up.ensures.begins;
  tells = inl c.change_once.ensures.tells;
}

pub returns-in-Err-clause-asked : goal.returns-in-Err-clause-asked
returns-in-Err-clause-asked g c = inr c.in-Err.ensures.late

pub returns-clause-asked : goal.returns-clause-asked
returns-clause-asked g c =
    inl (subst (λ (es : List Event). Tells g.B.Naming.hooks.vetoes g.B.Naming.opening c.args.request c.change_once.result es c.change_once.new.pass.seen)
    c.catch_up.ensures.journal c.change_once.ensures.tells)

pub returns-clause-failures : goal.returns-clause-failures
returns-clause-failures g c =
    subst (λ (n : ℕ). FailuresAfter c.change_once.result n c.change_once.new.self.failures) c.catch_up.ensures.failures c.change_once.ensures.failures
