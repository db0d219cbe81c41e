-- Which entry is the first with which something is wrong.
use Rattle.std.specs.Prelude.{◌≡◌, ℕ, ◌+◌, ◌==◌, nat_le, nat_lt, Bool, true, ◌&&◌, ◌||◌, not, List, [], ◌∷◌, ◌++◌, Option, Some, None, if◌then◌else◌}
use Rattle.std.specs.Option.{option_map_or}
use Rattle.keep_repo.specs.Repository.{Repository}
use Rattle.keep_journal.specs.History.{final_number, is_in_force, last_change}
use Rattle.keep_journal.specs.Journal.{Journal}
use Rattle.keep_journal.specs.declared.event.Entry as the_entry
use Rattle.keep_journal.specs.declared.event.Event.{Event}
use Rattle.keep_journal.specs.declared.event.EventKind.{EventKind}
use Rattle.keep_journal.specs.declared.event.EventKind.TheVariants.{Commit, Undo, Redo, Empty}
use Rattle.keep_journal.specs.Lasting.{lasts, lasting_among}
use Rattle.keep_moves.specs.Move.{Stand}
use Rattle.keep_reading.specs.Checks.{TellAJournal}
use Rattle.keep_reading.specs.Leaves.{AreLeaves, entries_of}
use Rattle.keep_reading.specs.Reads.{Reads, all_of}
use Rattle.keep_reading.specs.declared.leaf.Leaf.{Leaf}

-- whether a told event fits the journal: a commit has the next number, an undo is of a change in force, a redo of one
-- that is undone; the emptying that is told is the one that the journal begins with
abbrev pub fits_by : Journal → ℕ → EventKind → Bool
fits_by j n (Commit c) = n == last_change j + 1
fits_by j n Undo = nat_lt (final_number j) n && (nat_le n (last_change j) && is_in_force j n)
fits_by j n Redo = nat_lt (final_number j) n && (nat_le n (last_change j) && not (is_in_force j n))
fits_by j n (Empty marks) = true

-- what the entries tell where changes up to f are final
abbrev pub lasting_by : ℕ → List the_entry.Entry → Journal
lasting_by f entries = record { base = f; entries = lasting_among f entries }

-- whether the event is wrong after this journal, where the last emptying so far was of changes up to top: it is of one
-- of them, or it is told and doesn't fit
abbrev pub is_misfit : ℕ → ℕ → Journal → Event → Bool
is_misfit f top j e = nat_le e.number top || (lasts f e && not (fits_by j e.number e.kind))

-- whether something is wrong with the leaf there: it is no entry, or a misfit
abbrev pub is_wrong : ℕ → ℕ → Journal → Leaf → Bool
is_wrong f top j leaf = option_map_or (is_misfit f top j) leaf.event true

-- whether something is wrong with the leaf that comes after these entries
abbrev pub is_bad : ℕ → List the_entry.Entry → Leaf → Bool
is_bad f before leaf = is_wrong f (final_number (all_of before)) (lasting_by f before) leaf

-- the number of the first leaf with which something is wrong
abbrev pub first_bad_after : ℕ → List the_entry.Entry → List Leaf → Option ℕ
first_bad_after f before [] = None
first_bad_after f before (leaf ∷ leaves) =
    if is_bad f before leaf then Some leaf.at
    else first_bad_after f (before ++ entries_of (leaf ∷ [])) leaves

-- the number of the first bad leaf of all: what is told depends on the last emptying that can be read
abbrev pub first_bad : List Leaf → Option ℕ
first_bad leaves = first_bad_after (final_number (all_of (entries_of leaves))) [] leaves

-- where nothing is wrong the leaves are the entries of a journal
abbrev pub NoneIsBad : Type 0
NoneIsBad =
    (stand : Stand) (leaves : List Leaf)
    → AreLeaves stand leaves → first_bad leaves ≡ None → TellAJournal stand (entries_of leaves)

-- and where something is, there is no reading
abbrev pub OneIsBad : Type 0
OneIsBad =
    (stand : Stand) (leaves : List Leaf) (k : ℕ) (o : Repository) (j : Journal)
    → AreLeaves stand leaves → first_bad leaves ≡ Some k → Reads stand o j → ⊥
