-- What it means that a finding is right.
use Rattle.std.specs.Prelude.{◌≡◌, ℕ}
use Rattle.keep_journal.specs.Journal.{Journal}
use Rattle.keep_repo.specs.Repository.{Repository}
use Rattle.keep_shelf.specs.declared.key.Key.{Key}
use Rattle.keep_shelf.specs.declared.key.Key.TheVariants.{Entry}
use Rattle.keep_moves.specs.Move.{Stand}
use Rattle.keep_reading.specs.Reads.{Reads}
use Rattle.keep_reading.specs.Settled.{settled}
use Rattle.keep_damage.specs.declared.finding.Finding.{Finding}
use Rattle.keep_damage.specs.declared.finding.Finding.TheVariants.{NoEntry, Misplaced, OtherBytes, Untold, Missing, Unmade}

-- the entries of the other are the same
abbrev pub SameEntries : Stand → Stand → Type 0
SameEntries stand other = (k : ℕ) → other (Entry k) ≡ stand (Entry k)

-- as long as the entries stay and what is under the key stays, once the last event's moves are made, nothing is read,
-- whatever stands under other keys
abbrev pub IsWrongAt : Stand → Key → Type 0
IsWrongAt stand q =
    (other : Stand) (o : Repository) (j : Journal)
    → SameEntries stand other → settled j other q ≡ settled j stand q → Reads other o j → ⊥

-- as long as what the finding names stays as it is, nothing is read, whatever else stands there
abbrev pub IsToBlame : Stand → Finding → Type 0
IsToBlame stand (NoEntry k) = (other : Stand) (o : Repository) (j : Journal) → other (Entry k) ≡ stand (Entry k) → Reads other o j → ⊥
IsToBlame stand (Misplaced k) = (other : Stand) (o : Repository) (j : Journal) → SameEntries stand other → Reads other o j → ⊥
IsToBlame stand (OtherBytes q e) = IsWrongAt stand q
IsToBlame stand (Untold q) = IsWrongAt stand q
IsToBlame stand (Missing q) = IsWrongAt stand q
IsToBlame stand Unmade = (o : Repository) (j : Journal) → Reads stand o j → ⊥
