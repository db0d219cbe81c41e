-- The laws of moves, and the counts of calls.
use Rattle.std.specs.Prelude.{◌≡◌, ℕ, ◌+◌, ◌*◌, ◌<◌, true, List, ◌∷◌, ◌++◌, drop, is_some, length, map, take, Some}
use Rattle.std.specs.FinMap as finite
use Rattle.std.specs.List.{AllByRecursion}
use Rattle.keep_repo.specs.Repository.{Repository, held}
use Rattle.keep_change.specs.Change.{is_ready}
use Rattle.keep_change.specs.Form.{HasNoFacetTwice}
use Rattle.keep_change.specs.Law.{HaveNoFacetTwice}
use Rattle.keep_change.specs.Result.{result_of, reverse_of}
use Rattle.keep_change.specs.declared.change.Change.{Change}
use Rattle.keep_change.specs.declared.change.PackMark.{PackMark}
use Rattle.keep_journal.specs.Event.{committing, emptying, redoing, undoing}
use Rattle.keep_journal.specs.History.{change_of, committed, final_number, ComesNext, IsLegal, IsNumbered}
use Rattle.keep_journal.specs.Journal.{Journal, posted}
use Rattle.keep_journal.specs.declared.event.Event.{Event}
use Rattle.keep_shelf.specs.Shelved.{Content, Shelved}
use Rattle.keep_journal.specs.Lasting.{lasting}
use Rattle.keep_shelf.specs.declared.key.Key.TheVariants.{Entry}
use Rattle.keep_moves.specs.Behind.{IsBehind}
use Rattle.keep_moves.specs.Calls.{Call, Make, looks, made_in, played}
use Rattle.keep_moves.specs.Course.{calls_of, with_entry}
use Rattle.keep_moves.specs.Lists.{moves_of, swept_keys}
use Rattle.keep_moves.specs.Move.{AllApart, CanMake, Stand, finished_all, moved, moved_all, remains}
use Rattle.keep_moves.specs.Standing.{HoldsFiles}
use Rattle.keep_moves.specs.declared.moves.Move.{Move}

-- of moves without a key in common, one that remains is made, wherever it stands among them: what is left once all are made is the same
abbrev pub OneIsMade : Type 0
OneIsMade =
    (before : List Move) (m : Move) (later : List Move) (stand : Stand)
    → AllApart (before ++ m ∷ later) → remains stand m ≡ true
    → finished_all (before ++ m ∷ later) (moved m stand) ≡ finished_all (before ++ m ∷ later) stand

-- where all are still to be made, to finish them is to make them in turn
abbrev pub AllAreMade : Type 0
AllAreMade = (ms : List Move) (stand : Stand) → CanMake ms stand → finished_all ms stand ≡ moved_all ms stand

-- what a move that remains leaves of a content is what stands there then
abbrev pub MovesAreMade : Type 0
MovesAreMade =
    (m : Move) (content : Content) → remains (finite.get content) m ≡ true
    → finite.get (made_in m content) ≡ moved m (finite.get content)

-- wherever the making of the moves that are due stops, the shelf is behind by those that are left
abbrev pub StopsStayBehind : Type 0
StopsStayBehind =
    (j : Journal) (live : Repository) (due : List Move) (i : ℕ) (s : Shelved)
    → IsBehind j live due (finite.get s.content)
    → IsBehind j live (drop i due) (finite.get (played (map Make (take i due)) s).content)

-- each call that didn't fail is in the record, once
abbrev pub CallsAreRecorded : Type 0
CallsAreRecorded = (calls : List Call) (s : Shelved) → length (played calls s).calls ≡ length s.calls + length calls

-- reads change nothing of what stands there
abbrev pub ReadsLeaveAll : Type 0
ReadsLeaveAll = (k : ℕ) (s : Shelved) → (played (looks k) s).content ≡ s.content

-- how many calls an event makes
pub record CallsAreCounted (j : Journal) (k n : ℕ) : Type 0 where
  pub commit : (c : Change) → length (calls_of j k (committing n c)) ≡ 1 + length c.adds + length c.drops
  pub undo : (c : Change) → change_of j n ≡ Some c → length (calls_of j k (undoing n)) ≡ 1 + length c.adds + 2 * length c.drops
  pub redo : (c : Change) → change_of j n ≡ Some c → length (calls_of j k (redoing n)) ≡ 1 + 2 * length c.adds + length c.drops
  pub empty : (marks : List PackMark) → length (calls_of j k (emptying n marks)) ≡ 1 + length (swept_keys j n)

-- no move is left to be made
abbrev pub IsSettled : Journal → Repository → Stand → Type 0
IsSettled j live stand = HoldsFiles j live stand

-- once the event's entry is put where no move was left, all of the event's moves can be made, and they lead to what stands there for the journal with the event and for this repository
abbrev pub IsBegun : Journal → ℕ → Event → Repository → Stand → Type 0
IsBegun j k e live stand = IsBehind (posted j k e) live (moves_of j e) (with_entry k e stand)

-- so it is with a commit of a change that is ready
abbrev pub CommitIsBegun : Type 0
CommitIsBegun =
    (j : Journal) (k n : ℕ) (c : Change) (live : Repository) (stand : Stand)
    → IsNumbered j → ComesNext j (record { at = k; event = committing n c }) → HasNoFacetTwice c → is_ready (held live) c ≡ true
    → IsSettled j live stand → IsBegun j k (committing n c) (result_of c live) stand

-- with an undo, where what the change wrote is still there
abbrev pub UndoIsBegun : Type 0
UndoIsBegun =
    (j : Journal) (k n : ℕ) (c : Change) (live : Repository) (stand : Stand)
    → IsNumbered j → ComesNext j (record { at = k; event = undoing n }) → change_of j n ≡ Some c → HasNoFacetTwice c → is_ready (held live) (reverse_of c) ≡ true
    → IsSettled j live stand → IsBegun j k (undoing n) (result_of (reverse_of c) live) stand

-- and with a redo of a change that is ready
abbrev pub RedoIsBegun : Type 0
RedoIsBegun =
    (j : Journal) (k n : ℕ) (c : Change) (live : Repository) (stand : Stand)
    → IsNumbered j → ComesNext j (record { at = k; event = redoing n }) → change_of j n ≡ Some c → HasNoFacetTwice c → is_ready (held live) c ≡ true
    → IsSettled j live stand → IsBegun j k (redoing n) (result_of c live) stand

-- something stands under the number of each entry that still tells something
abbrev pub EntriesStand : Journal → Stand → Type 0
EntriesStand j stand = AllByRecursion (λ e. is_some (stand (Entry e.at)) ≡ true) (lasting j).entries

-- and with an emptying that moves the final number up, where each entry that it erases stands: it changes no live file
abbrev pub EmptyIsBegun : Type 0
EmptyIsBegun =
    (j : Journal) (k n : ℕ) (marks : List PackMark) (live : Repository) (stand : Stand)
    → IsLegal j → ComesNext j (record { at = k; event = emptying n marks }) → final_number j < n → HaveNoFacetTwice (committed j)
    → EntriesStand j stand → IsSettled j live stand → IsBegun j k (emptying n marks) live stand

-- and once all calls of an event that is begun so are made, no move is left
abbrev pub EventsAreSettled : Type 0
EventsAreSettled =
    (j : Journal) (k : ℕ) (e : Event) (live : Repository) (s : Shelved)
    → IsBegun j k e live (finite.get s.content)
    → IsSettled (posted j k e) live (finite.get (played (calls_of j k e) s).content)
