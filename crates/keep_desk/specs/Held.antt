-- What lies under the lock.
use Rattle.std.specs.Prelude.{◌≡◌, ℕ, List, [], ◌∷◌, ◌++◌, Result, Ok, Err, ◌⊎◌}
use Rattle.logbook.specs.Pages.{Book}
use Rattle.keep_hooks.specs.Guards.{Rule}
use Rattle.keep_journal.specs.declared.event.Event.{Event}
use Rattle.keep_journal.specs.declared.request.Told.{Told}
use Rattle.keep_shelf.specs.Shelved.{risen}
use Rattle.keep_ledger.specs.Ends.{failures_after}
use Rattle.keep_ledger.specs.LedgerState.{LedgerState}
use Rattle.keep_pages.specs.Histories.{IsHistory}
use Rattle.keep_register.specs.Pages.{PageState, StepState, events_on, IsStep}
use Rattle.keep_crew.specs.declared.answers.DeskError.{DeskError}
use Rattle.keep_crew.specs.declared.answers.DeskError.TheVariants.{Late, Refused}

-- the events that are in, those that are published, and how often the shelf has failed
pub record Held : Type 0 where
  pub journal : List Event
  pub published : List Event
  pub failures : ℕ

-- the events that are in are a history, and the last of them isn't published
pub record IsBehind (rules : List Rule) (opening : LedgerState) (held : Held) : Type 0 where
  pub late : Event
  pub last : held.published ++ late ∷ [] ≡ held.journal
  pub history : IsHistory rules opening held.journal

-- what waits to be published is the step to the page of these events
abbrev pub HasStep : Book → List Event → Event → List StepState → Type 0
HasStep book es event pending = (s : StepState) × (pending ≡ s ∷ []) × IsStep book es event s

-- it does, or nothing waits
abbrev pub Waits : Book → List Event → Event → List StepState → Type 0
Waits book es event pending = (pending ≡ []) ⊎ HasStep book es event pending

-- the page has all of these events, and nothing waits; or it has all but the last, which came late
abbrev pub IsUpTo : Book → List Event → PageState → List StepState → Type 0
IsUpTo book es p pending =
    ((events_on p ≡ es) × (pending ≡ []))
    ⊎ ((event : Event) × (events_on p ++ event ∷ [] ≡ es) × Waits book es event pending)

-- the count of the shelf's failures after an answer: one more just where it is a fault or an unsettled change. Of an event
-- that is late it isn't told whether its moves are made
abbrev pub FailuresAfter : Result Told DeskError → ℕ → ℕ → Type 0
FailuresAfter (Ok told) before after = after ≡ before
FailuresAfter (Err (Late n)) before after = (after ≡ before) ⊎ (after ≡ risen before)
FailuresAfter (Err (Refused refusal)) before after = after ≡ failures_after (Err refusal) before
