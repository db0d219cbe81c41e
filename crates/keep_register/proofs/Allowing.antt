-- The list of the events that are in, with one more that may come after them.
use Rattle.std.proofs.Common.{List, [], ◌∷◌, ◌++◌, Result, Ok, Err, append-nil, append_assoc, refl, subst, sym}
use Rattle.keep_change.specs.declared.change.Planned.{Planned}
use Rattle.keep_hooks.specs.Guards.{Rule}
use Rattle.keep_journal.specs.declared.event.Event.{Event}
use Rattle.keep_journal.specs.declared.request.Request.{Request}
use Rattle.keep_journal.specs.declared.request.Request.TheVariants.{Commit, Undo, Redo, Empty}
use Rattle.keep_journal.specs.declared.request.Told.{Told}
use Rattle.keep_ledger.specs.LedgerState.{LedgerState}
use Rattle.keep_ledger.specs.Made.{event_of}
use Rattle.keep_ledger.specs.declared.reply.Refusal.{Refusal}
use Rattle.keep_ledger.specs.declared.reply.Refusal.TheVariants.{Fault, Unsettled}
use Rattle.keep_pages.specs.Histories.{state_of}
use Rattle.keep_register.specs.Allowed.{AreAllowed, IsAllowed, MayAsk, MayFollow}
use Rattle.keep_register.specs.Asked.{IsIn, WasAsked}

module _ (allows : List Event → Planned → Type 0) (rules : List Rule) (opening : LedgerState) where
  allowed_more : (on es : List Event) (e : Event) → AreAllowed allows rules opening on es
      → IsAllowed allows rules opening (on ++ es) e → AreAllowed allows rules opening on (es ++ e ∷ [])
  allowed_more on [] e all one = (subst (λ (xs : List Event). IsAllowed allows rules opening xs e) (append-nil on) one, tt)
  allowed_more on (x ∷ es) e all one = (
    all.0,
    allowed_more (on ++ x ∷ []) es e all.1
        (subst (λ (xs : List Event). IsAllowed allows rules opening xs e) (sym (append_assoc on (x ∷ []) es)) one),
  )

  module _ (request : Request) (on now : List Event) (may : MayFollow allows on request) (all : AreAllowed allows rules opening [] on) where
    entered : IsIn rules opening request on now → AreAllowed allows rules opening [] now
    entered is =
        let e : Event = event_of (state_of opening on) request in
        let one : IsAllowed allows rules opening on e = record { accepted = record { request = request; reply = is.0; event = refl }; may = may } in
        subst (AreAllowed allows rules opening []) (sym is.1) (allowed_more [] on e all one)

    -- whatever is answered
    pub allowed_after : (answer : Result Told Refusal) → WasAsked rules opening request answer on now
        → AreAllowed allows rules opening [] now
    allowed_after (Ok told) asked = entered asked.0
    allowed_after (Err (Unsettled n)) asked = entered asked.0
    allowed_after (Err Fault) asked = subst (AreAllowed allows rules opening []) (sym asked) all
    allowed_after (Err refusal) asked = subst (AreAllowed allows rules opening []) (sym asked.1) all

-- ---- where more may be committed

module _ (allows more : List Event → Planned → Type 0) (rules : List Rule) (opening : LedgerState)
    (so : (seen : List Event) (planned : Planned) → allows seen planned → more seen planned) where
  ask_as : (seen : List Event) (request : Request) → MayAsk allows seen request → MayAsk more seen request
  ask_as seen (Commit planned) may = so seen planned may
  ask_as seen (Undo n) may = tt
  ask_as seen (Redo n) may = tt
  ask_as seen (Empty n) may = tt

  pub allowed_as : (on es : List Event) → AreAllowed allows rules opening on es → AreAllowed more rules opening on es
  allowed_as on [] all = tt
  allowed_as on (e ∷ es) all =
      let one = all.0 in
      let may = one.may in (
        record { accepted = one.accepted; may = (may.0, may.1, ask_as may.0 one.accepted.request may.2) },
        allowed_as (on ++ e ∷ []) es all.1,
      )
