-- The moves of a shelf's last event that are still to be made.
use Rattle.std.specs.Prelude.{◌≡◌, ℕ, nat_le, Bool, true, false, not, List, [], map, filter, is_some}
use Rattle.std.specs.FinMap as finite
use Rattle.std.specs.List.{AllByRecursion}
use Rattle.std.specs.Option.{option_map_or}
use Rattle.keep_repo.specs.Repository.{Repository}
use Rattle.keep_journal.specs.Journal.{Journal}
use Rattle.keep_journal.specs.declared.event.EventKind.{EventKind}
use Rattle.keep_journal.specs.declared.event.EventKind.TheVariants.{Commit, Undo, Redo, Empty}
use Rattle.keep_journal.specs.Lasting.{entry_at}
use Rattle.keep_shelf.specs.Shelved.{Content}
use Rattle.keep_shelf.specs.declared.key.Key.{Key}
use Rattle.keep_shelf.specs.declared.key.Key.TheVariants.{Live, Trash, Entry}
use Rattle.keep_moves.specs.Lists.{moves_by}
use Rattle.keep_moves.specs.Move.{CanMake, Stand, moved_all, remains}
use Rattle.keep_moves.specs.declared.moves.Move.{Move}
use Rattle.keep_moves.specs.declared.moves.Move.TheVariants.{Erase}
use Rattle.keep_reading.specs.Reads.{Reads}
use Rattle.keep_reading.specs.Settled.{last_event, settled}
use Rattle.keep_reading.specs.Due.{IsMoveOf}
use Rattle.keep_opening.specs.Wanted.{is_files}

-- whether what is under the key says nothing any more, where changes up to n are final and entries of these numbers
-- still tell something
abbrev pub over_test : ℕ → (ℕ → Bool) → Key → Bool
over_test n told (Live name) = false
over_test n told (Trash m name) = nat_le m n
over_test n told (Entry k) = not (told k)

-- whether what is under the key says nothing any more, where changes up to n are final and this journal is told
abbrev pub is_over : ℕ → Journal → Key → Bool
is_over n j key = over_test n (λ k. is_some (entry_at j.entries k)) key

-- the moves of an event of this kind, the journal's last, that are still to be made
abbrev pub due_by : Journal → ℕ → EventKind → Content → List Move
due_by j n (Commit c) content = filter (remains (finite.get content)) (moves_by j n (Commit c))
due_by j n Undo content = filter (remains (finite.get content)) (moves_by j n Undo)
due_by j n Redo content = filter (remains (finite.get content)) (moves_by j n Redo)
due_by j n (Empty marks) content = map Erase (filter (is_over n j) (finite.keys content))

abbrev pub due_in : Journal → Content → List Move
due_in j content = option_map_or (λ e. due_by j e.number e.kind content) (last_event j) []

-- the moves can all be made, belong to the journal's last event, and lead to the files that the reading is told by
pub record IsDue (j : Journal) (due : List Move) (stand : Stand) : Type 0 where
  pub can : CanMake due stand
  pub belong : AllByRecursion (IsMoveOf j) due
  pub files : (q : Key) → is_files q ≡ true → moved_all due stand q ≡ settled j stand q

abbrev pub WhatIsDueLeadsOn : Type 0
WhatIsDueLeadsOn =
    (content : Content) (opening : Repository) (j : Journal)
    → Reads (finite.get content) opening j → IsDue j (due_in j content) (finite.get content)
