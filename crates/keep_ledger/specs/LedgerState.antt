-- What a ledger says, as a value, and what a commit has just left.
use Rattle.std.specs.Prelude.{◌≡◌, ℕ, ◌+◌, []}
use Rattle.keep_repo.specs.Repository.{Repository}
use Rattle.keep_change.specs.declared.change.Change.{Change}
use Rattle.keep_journal.specs.Event.{committing}
use Rattle.keep_journal.specs.History.{last_change, length_of}
use Rattle.keep_journal.specs.Journal.{Journal, posted}
use Rattle.keep_journal.specs.Opening.{IsOpen, opening_under}
use Rattle.keep_touch.specs.Mentions.{AreNoted}
use Rattle.keep_touch.specs.declared.touch.Touch.{Touch}

-- the repository that the kept changes are made of, the events, and the repository that is there now
pub record LedgerState : Type 0 where
  pub opening : Repository
  pub events : Journal
  pub live : Repository

-- a ledger over this repository, without changes
abbrev pub new_ledger : Repository → LedgerState
new_ledger repository = record {
  opening = repository;
  events = record { base = 0; entries = [] };
  live = repository;
}

-- the ledger of these events that made this repository: its opening is what is left where they are taken back
abbrev pub ledger_of_live : Journal → Repository → LedgerState
ledger_of_live j live = record { opening = opening_under j live; events = j; live = live }

-- the events make the live repository of the opening, and their committed changes are noted
pub record IsConsistent (j : Journal) (live : Repository) (touch : Touch) : Type 0 where
  pub is_open : IsOpen (opening_under j live) j live
  pub noted : AreNoted touch j

-- the ledger is what an accepted commit, of change n, has just left of the one before it
pub record JustCommitted (before : LedgerState) (n : ℕ) (now : LedgerState) : Type 0 where
  pub is_open : IsOpen before.opening before.events before.live
  pub change : Change
  pub next : n ≡ last_change before.events + 1
  pub events : now.events ≡ posted before.events (length_of before.events + 1) (committing n change)
  pub opening : now.opening ≡ before.opening
