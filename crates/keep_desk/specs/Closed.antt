-- What closing a desk tells.
use Rattle.std.specs.Prelude.{◌≡◌, ℕ, ◌+◌, ◌≤◌, List, [], length}
use Rattle.std.specs.List.{All}
use mathlib.Core.List.{IsPrefix}
use Rattle.keep_change.specs.declared.change.Planned.{Planned}
use Rattle.keep_journal.specs.History.{length_of}
use Rattle.keep_journal.specs.declared.event.Event.{Event}
use Rattle.keep_hooks.specs.Guards.{Rule}
use Rattle.keep_ledger.specs.LedgerState.{LedgerState}
use Rattle.keep_pages.specs.Histories.{state_of, IsHistory}
use Rattle.keep_register.specs.Known.{Known}
use Rattle.keep_register.specs.Allowed.{AreAllowed}
use Rattle.keep_crew.specs.Asking.{count_of}
use Rattle.keep_desk.specs.declared.answers.NotOpened.{NotOpened}
use Rattle.keep_desk.specs.declared.answers.NotOpened.TheVariants.{Memory, NoPass}

-- the book is what a legal list of events left of the one that the desk was opened with; each commit among them was
-- allowed to one who had seen a beginning of those before it; what each pass has seen begins that list, and its events
-- were counted by the passes: by these, if they are all
pub record IsClosed (allows : List Event → Planned → Type 0) (rules : List Rule) (opening : LedgerState) (parts : ℕ)
    (passes : List Known) (now : LedgerState) : Type 0 where
  pub since : List Event
  pub state : now ≡ state_of opening since
  pub history : IsHistory rules opening since
  pub allowed : AreAllowed allows rules opening [] since
  pub begins : All (λ p. IsPrefix p.seen since) passes
  pub longer : length_of now.events ≡ length_of opening.events + length since
  pub least : count_of passes ≤ length since
  pub whole : length passes ≡ parts → length since ≡ count_of passes

-- what is handed back
abbrev pub keeper_of : {K : Type 0} → NotOpened K → K
keeper_of (Memory keeper) = keeper
keeper_of (NoPass keeper) = keeper
