-- A page that is at most one event behind.
use Rattle.std.proofs.Common.{◌≡◌, ◌≢◌, ◌∙◌, ℕ, ◌+◌, List, [], ◌∷◌, ◌++◌, OnErr, Result, Ok, Err, length, ap, arith, inl, inr, length-append, subst, sym}
use Rattle.logbook.specs.Pages.{Book}
use Rattle.keep_journal.specs.History.{length_of}
use Rattle.keep_journal.specs.declared.event.Event.{Event}
use Rattle.keep_hooks.specs.Guards.{Rule}
use Rattle.keep_ledger.specs.LedgerState.{LedgerState}
use Rattle.keep_pages.specs.Histories.{length_at, IsHistory}
use Rattle.keep_pages.proofs.Histories.{length_at-all}
use Rattle.keep_register.specs.Pages.{IsPage, PageState, StepState, events_on}
use Rattle.keep_desk.specs.Held.{Held, IsBehind, IsUpTo, Waits}
use Rattle.keep_register.proofs.Paging.{page_length}

-- what holds holds where a call failed
pub at_err : {A E P : Type 0} (r : Result A E) → P → OnErr r P
at_err (Ok done) holds = tt
at_err (Err error) holds = holds

-- an event that came late
pub record IsLate (book : Book) (es : List Event) (p : PageState) (pending : List StepState) : Type 0 where
  pub event : Event
  pub goes_on : events_on p ++ event ∷ [] ≡ es
  pub waits : Waits book es event pending

module _ (book : Book) (rules : List Rule) (opening : LedgerState) (es : List Event) (p : PageState) (pending : List StepState)
    (is : IsPage book rules opening p) where
  -- as many events are all
  pub all_there : IsUpTo book es p pending → length_of p.sheet.events ≡ length_at opening es → events_on p ≡ es
  all_there (inl all) same = all.0
  all_there (inr late) same =
      absurd (omega (arith, same, page_length book rules opening p is, length_at-all opening es, ap length late.1, length-append (events_on p) (late.0 ∷ [])))

  -- else the last of them came late
  pub one_late : IsUpTo book es p pending → length_of p.sheet.events ≢ length_at opening es → IsLate book es p pending
  one_late (inl all) other =
      absurd (other (page_length book rules opening p is ∙ (ap (λ (xs : List Event). length_of opening.events + length xs) all.0 ∙ sym (length_at-all opening es))))
  one_late (inr late) other = record { event = late.0; goes_on = late.1; waits = late.2 }

  -- and what lies under the lock is behind by it
  pub behind : (held : Held) (failures : ℕ) → record { journal = es; published = events_on p; failures = failures } ≡ held → IsUpTo book es p pending
      → length_of p.sheet.events ≢ length_at opening es → IsHistory rules opening es → IsBehind rules opening held
  behind held failures is_held up other history =
      let late = one_late up other in
      subst (IsBehind rules opening) is_held (record { late = late.event; last = late.goes_on; history = history })

-- where the page has all events, nothing waits
pub nothing_waits : (book : Book) (es : List Event) (p : PageState) (pending : List StepState) → IsUpTo book es p pending
    → events_on p ≡ es → pending ≡ []
nothing_waits book es p pending (inl all) same = all.1
nothing_waits book es p pending (inr late) same =
    absurd (omega (arith, ap length late.1, ap length same, length-append (events_on p) (late.0 ∷ [])))
