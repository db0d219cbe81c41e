-- Wherever the calls of an event stop, what stands on the shelf says what was so before the event, or what is so after
-- it.
use Rattle.std.specs.Prelude.{◌≡◌, ℕ, ◌<◌, Bool, true, false, List, [], ◌∷◌, ◌++◌, drop, map, take}
use Rattle.std.specs.FinMap as finite
use Rattle.std.specs.List.{AllByRecursion}
use Rattle.keep_repo.specs.Repository.{Repository}
use Rattle.keep_change.specs.declared.change.PackMark.{PackMark}
use Rattle.keep_journal.specs.Event.{emptying}
use Rattle.keep_journal.specs.History.{final_number, ComesNext, IsLegal}
use Rattle.keep_journal.specs.Journal.{Journal, posted}
use Rattle.keep_journal.specs.Opening.{IsOpen}
use Rattle.keep_journal.specs.declared.event.Event.{Event}
use Rattle.keep_journal.specs.declared.event.EventKind.{EventKind}
use Rattle.keep_journal.specs.declared.event.EventKind.TheVariants.{Empty}
use Rattle.keep_journal.specs.Lasting.{lasting}
use Rattle.keep_entries.specs.Entry.{Fits}
use Rattle.keep_shelf.specs.Shelved.{Content, Shelved}
use Rattle.keep_moves.specs.Calls.{Call, Make, left_by, played}
use Rattle.keep_moves.specs.Course.{with_entry}
use Rattle.keep_moves.specs.Laws.{IsBegun, IsSettled}
use Rattle.keep_moves.specs.Lists.{moves_of}
use Rattle.keep_moves.specs.Move.{CanMake, Stand, moved, remains}
use Rattle.keep_moves.specs.declared.moves.Move.{Move}
use Rattle.keep_reading.specs.Reads.{Reads}
use Rattle.keep_reading.specs.Due.{IsMoveOf, IsRead}

-- a move of the last event that remains changes nothing of what the shelf says, whichever it is
abbrev pub AMoveReads : Type 0
AMoveReads =
    (stand : Stand) (opening : Repository) (j : Journal) (m : Move)
    → Reads stand opening j → IsMoveOf j m → remains stand m ≡ true → Reads (moved m stand) opening j

-- what each of these calls leaves
abbrev pub contents_along : List Call → Content → List Content
contents_along [] content = []
contents_along (call ∷ calls) content = left_by content call ∷ contents_along calls (left_by content call)

-- the record of a shelf has just these after those that it had
abbrev pub CallsAreAdded : Type 0
CallsAreAdded = (calls : List Call) (s : Shelved) → (played calls s).calls ≡ s.calls ++ contents_along calls s.content

-- so each of them does, where moves that are due are made in turn, and the others are still due
abbrev pub MovesRead : Type 0
MovesRead =
    (opening : Repository) (j : Journal) (due : List Move) (s : Shelved) (i : ℕ)
    → IsRead opening j due (finite.get s.content) → CanMake due (finite.get s.content)
    → AllByRecursion (λ content. Reads (finite.get content) opening (lasting j)) (contents_along (map Make (take i due)) s.content)
    × IsRead opening j (drop i due) (finite.get (played (map Make (take i due)) s).content)

abbrev pub is_emptying : EventKind → Bool
is_emptying (Empty marks) = true
is_emptying _ = false

-- the entry of a commit, an undo or a redo is put where no move was due: what stands there then says that the event is
-- in, and all its moves are due
abbrev pub EventBegins : Type 0
EventBegins =
    (opening live : Repository) (j : Journal) (k : ℕ) (e : Event) (stand : Stand)
    → is_emptying e.kind ≡ false → IsLegal j → ComesNext j (record { at = k; event = e }) → Fits e
    → IsOpen opening (posted j k e) live → IsBegun j k e live stand
    → IsRead opening j [] stand → IsRead opening (posted j k e) (moves_of j e) (with_entry k e stand)

-- and so it is with the entry of an emptying, which moves the opening
abbrev pub EmptyingBegins : Type 0
EmptyingBegins =
    (opening next live : Repository) (j : Journal) (k n : ℕ) (marks : List PackMark) (stand : Stand)
    → IsLegal j → ComesNext j (record { at = k; event = emptying n marks }) → final_number j < n → Fits (emptying n marks)
    → IsOpen next (posted j k (emptying n marks)) live → IsSettled j live stand
    → IsRead opening j [] stand → IsRead next (posted j k (emptying n marks)) (moves_of j (emptying n marks)) (with_entry k (emptying n marks) stand)
