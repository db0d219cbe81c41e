-- What a desk answers, by what the book answered.
use Rattle.std.proofs.Common.{◌≡◌, ◌∙◌, ℕ, List, [], ◌∷◌, ◌++◌, Option, Some, None, Result, Ok, Err, ap, inl, inr, refl, subst, sym}
use mathlib.Core.List.{IsPrefix}
use Rattle.logbook.specs.Pages.{Book}
use Rattle.keep_journal.specs.declared.event.Event.{Event}
use Rattle.keep_hooks.specs.Guards.{Rule}
use Rattle.keep_ledger.specs.LedgerState.{LedgerState}
use Rattle.keep_ledger.specs.Made.{event_of}
use Rattle.keep_ledger.specs.declared.reply.Refusal.{Refusal}
use Rattle.keep_ledger.specs.declared.reply.Refusal.TheVariants.{Fault, Memory, Unsettled}
use Rattle.keep_journal.specs.declared.request.Told.{Told}
use Rattle.keep_journal.specs.declared.request.Request.{Request}
use Rattle.keep_chronicle.proofs.Prefixes.{prefix_self}
use Rattle.keep_pages.specs.Histories.{state_of, IsHistory}
use Rattle.keep_register.specs.Known.{Known}
use Rattle.keep_register.specs.Asked.{WasAsked}
use Rattle.keep_register.specs.Pages.{PageState, StepState, events_on}
use Rattle.keep_crew.specs.Answered.{IsAnswered, IsHeldUp, number_in}
use Rattle.keep_desk.specs.Held.{Held, IsBehind, IsUpTo}
use Rattle.keep_crew.specs.declared.answers.DeskError.TheVariants.{Refused}

-- what isn't some number is none
pub none_of : (o : Option ℕ) → ((n : ℕ) → o ≡ Some n → ⊥) → o ≡ None
none_of None other = refl
none_of (Some n) other = absurd (other n refl)

-- an event that isn't published holds up whoever has seen a beginning of all
pub held_up : (rules : List Rule) (opening : LedgerState) (seen : List Event) (held : Held) → IsPrefix seen held.journal
    → IsBehind rules opening held → IsHeldUp rules opening seen
held_up rules opening seen held within behind = record {
  front = held.published;
  late = behind.late;
  begins = subst (λ (es : List Event). IsPrefix seen es) (sym behind.last) within;
  history = subst (λ (es : List Event). IsHistory rules opening es) (sym behind.last) behind.history;
}

module _ (rules : List Rule) (opening : LedgerState) (request : Request) where
  -- nothing was asked
  pub nothing_asked : (before after : Known) (held : Held) → after.seen ≡ before.seen → IsPrefix before.seen held.journal
      → IsBehind rules opening held → IsAnswered rules opening request before after (Err (Refused Memory))
  nothing_asked before after held same within behind =
      record { on = before.seen; begins = prefix_self before.seen; tells = inr (refl, same, held_up rules opening before.seen held within behind) }

  module _ (on now : List Event) where
    -- where none is named, the list stays
    pub unchanged : (answer : Result Told Refusal) → number_in answer ≡ None → WasAsked rules opening request answer on now → now ≡ on
    unchanged (Ok told) is asked = absurd (cc is)
    unchanged (Err (Unsettled n)) is asked = absurd (cc is)
    unchanged (Err Fault) is asked = asked
    unchanged (Err refusal) is asked = asked.1

    -- the list is at most one event longer than the page that had all
    pub up_to : (book : Book) (p : PageState) (pending : List StepState) → events_on p ≡ on → pending ≡ []
        → (answer : Result Told Refusal) → WasAsked rules opening request answer on now → IsUpTo book now p pending
    up_to book p pending all none (Ok told) asked =
        let e : Event = event_of (state_of opening on) request in
        inr (e, ap (λ es. es ++ e ∷ []) all ∙ sym asked.0.1, inl none)
    up_to book p pending all none (Err (Unsettled n)) asked =
        let e : Event = event_of (state_of opening on) request in
        inr (e, ap (λ es. es ++ e ∷ []) all ∙ sym asked.0.1, inl none)
    up_to book p pending all none (Err Fault) asked = inl (all ∙ sym asked, none)
    up_to book p pending all none (Err refusal) asked = inl (all ∙ sym asked.1, none)
