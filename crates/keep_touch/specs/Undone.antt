-- A journal with some of its changes undone, in turn.
use Rattle.std.specs.Prelude.{◌≡◌, ℕ, ◌+◌, ◌&&◌, not, List, [], ◌∷◌}
use Rattle.keep_change.specs.Fold.{Numbered}
use Rattle.keep_journal.specs.Event.{undoing}
use Rattle.keep_journal.specs.History.{length_of}
use Rattle.keep_journal.specs.Journal.{Journal, posted}
use Rattle.keep_journal.specs.Kept.{chosen, is_kept, kept}
use Rattle.keep_touch.specs.Taken.{is_one_of}

-- the journal with an undo of each of these changes, one after another
abbrev pub undone_in : Journal → List ℕ → Journal
undone_in j [] = j
undone_in j (m ∷ ms) = undone_in (posted j (length_of j + 1) (undoing m)) ms

-- the changes in force that aren't final, without these
abbrev pub kept_without : Journal → List ℕ → List Numbered
kept_without j numbers = chosen (λ k. is_kept j k && not (is_one_of numbers k)) j

-- once some changes are undone, the others of those in force are left
abbrev pub UndosLeaveTheOthers : Type 0
UndosLeaveTheOthers = (j : Journal) (numbers : List ℕ) → kept (undone_in j numbers) ≡ kept_without j numbers
