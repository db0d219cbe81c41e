-- What is opened of a shelf, why nothing is, and what is given back then.
use Rattle.std.specs.Prelude.{◌≡◌, ◌≢◌, ℕ, ◌+◌, ◌<◌, ◌≤◌, ◌⊎◌, Bool, true, false, List, [], ◌++◌, drop, length, map, take, Option, Some, None}
use Rattle.std.specs.FinMap as finite
use Rattle.std.specs.List.{AllByRecursion, filter_map, list_all}
use Rattle.keep_names.specs.declared.file_name.FileName.{FileName}
use Rattle.keep_repo.specs.Repository.{Repository}
use Rattle.keep_journal.specs.Journal.{Journal}
use Rattle.keep_journal.specs.Opening.{IsOpen}
use Rattle.keep_shelf.specs.Shelved.{Content, Shelved, failed, risen}
use Rattle.keep_shelf.specs.declared.key.Key.{Key}
use Rattle.keep_shelf.specs.declared.key.Key.TheVariants.{Live, Trash, Entry}
use Rattle.keep_moves.specs.Calls.{Make, looks, played}
use Rattle.keep_reading.specs.Reads.{Reads}
use Rattle.keep_opening.specs.Opened.{IsRefused}
use Rattle.keep_opening.specs.declared.open_error.OpenError.{OpenError}
use Rattle.keep_opening.specs.declared.open_error.OpenError.TheVariants.{BadEntry, Fault, Memory}
use Rattle.keep_opening.specs.Remaining.{due_in}
use Rattle.keep_ledger.specs.LedgerState.{new_ledger}
use Rattle.keep_ledger.specs.OnShelf.{OnShelf}

-- the ledger is what the shelf says: the keys were listed and the bytes under each were read, and then the moves that
-- were left of the last event were made
pub record IsOpened (s : Shelved) (b : OnShelf) : Type 0 where
  pub reads : Reads (finite.get s.content) b.state.opening b.state.events
  pub is_open : IsOpen b.state.opening b.state.events b.state.live
  pub due : b.due ≡ []
  pub shelf : b.shelf ≡ played (looks (1 + length (finite.keys s.content)) ++ map Make (due_in b.state.events s.content)) s

-- before these moves were made: the shelf was only read, and they are due
pub record IsReadOf (s : Shelved) (b : OnShelf) : Type 0 where
  pub reads : Reads (finite.get s.content) b.state.opening b.state.events
  pub is_open : IsOpen b.state.opening b.state.events b.state.live
  pub due : b.due ≡ due_in b.state.events s.content
  pub shelf : b.shelf ≡ played (looks (1 + length (finite.keys s.content))) s

-- why it isn't opened: what stands there says nothing, which is told by that number, or memory ran out, or the shelf failed
abbrev pub IsNotOpened : Shelved → OpenError → Type 0
IsNotOpened s (BadEntry k) = IsRefused (finite.get s.content) k
IsNotOpened s Fault = Unit {0}
IsNotOpened s Memory = Unit {0}

-- ---- what is given back where nothing is opened

-- one of the reads failed, the keys' list or what is under a key
abbrev pub FaultsAtReads : Shelved → Shelved → Type 0
FaultsAtReads s left = (i : ℕ) × (i < 1 + length (finite.keys s.content)) × (left ≡ failed (played (looks i) s))

-- all were made, and then one of the moves failed that were left of the last event of what stands there
pub record FaultsAtRest (s left : Shelved) : Type 0 where
  pub opening : Repository
  pub events : Journal
  pub reads : Reads (finite.get s.content) opening events
  pub made : ℕ
  pub within : made < length (due_in events s.content)
  pub shelf : left ≡ failed (played (looks (1 + length (finite.keys s.content)) ++ map Make (take made (due_in events s.content))) s)

-- which calls were made: all reads where what stands there says nothing; some reads where memory ran out; and where a call failed it is the last one
abbrev pub StopsOpening : Shelved → OpenError → Shelved → Type 0
StopsOpening s (BadEntry k) left = left ≡ played (looks (1 + length (finite.keys s.content))) s
StopsOpening s Fault left = FaultsAtReads s left ⊎ FaultsAtRest s left
StopsOpening s Memory left = (i : ℕ) × (i ≤ 1 + length (finite.keys s.content)) × (left ≡ played (looks i) s)

-- the shelf's count of failures: one more, up to the last value, just where that is why
abbrev pub failures_left : OpenError → ℕ → ℕ
failures_left (BadEntry k) n = n
failures_left Fault n = risen n
failures_left Memory n = n

-- the content says what was said before, where something was
abbrev pub SaysStill : Content → Content → Type 0
SaysStill before content = (opening : Repository) (events : Journal) → Reads (finite.get before) opening events → Reads (finite.get content) opening events

-- what becomes of a shelf that isn't opened
pub record IsGivenBack (s : Shelved) (error : OpenError) (left : Shelved) : Type 0 where
  pub calls : StopsOpening s error left
  pub failures : left.failures ≡ failures_left error s.failures
  -- where no call failed, all that stands there is as it was
  pub same : error ≢ Fault → left.content ≡ s.content
  -- and if one did, it says what it said, as does what each call left
  pub says : SaysStill s.content left.content
  pub stops : AllByRecursion (SaysStill s.content) (drop (length s.calls) left.calls)

-- ---- a shelf that has live files alone

-- whether it is the key of a live file
abbrev pub is_live : Key → Bool
is_live (Live name) = true
is_live (Trash n name) = false
is_live (Entry k) = false

-- the live file under the key, with these bytes
abbrev pub live_file : Key → List ℕ → Option (FileName × List ℕ)
live_file (Live name) bytes = Some (name, bytes)
live_file (Trash n name) bytes = None
live_file (Entry k) bytes = None

-- the repository of the live files on a shelf, without marks
abbrev pub live_on : Content → Repository
live_on content = record {
  files = finite.from_entries (filter_map (λ e. live_file e.0 e.1) (finite.entries content));
  marks = finite.empty;
}

-- it is opened as a ledger without events over these files, and is never refused for what stands there
pub record FilesAloneAreOpened : Type 0 where
  pub fresh : (s : Shelved) (b : OnShelf) → list_all is_live (finite.keys s.content) ≡ true → IsOpened s b → b.state ≡ new_ledger (live_on s.content)
  pub taken : (s : Shelved) (k : ℕ) → list_all is_live (finite.keys s.content) ≡ true → IsNotOpened s (BadEntry k) → ⊥
