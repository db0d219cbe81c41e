-- A shelf that says something while moves of the last event are left to be made.
use Rattle.std.specs.Prelude.{◌≡◌, ℕ, ◌≤◌, false, List, ◌∷◌, ◌++◌, Option, Some, None}
use Rattle.std.specs.List.{AllByRecursion}
use Rattle.keep_repo.specs.Repository.{Repository}
use Rattle.keep_journal.specs.Journal.{Journal}
use Rattle.keep_journal.specs.declared.event.Event.{Event}
use Rattle.keep_journal.specs.declared.event.EventKind.{EventKind}
use Rattle.keep_journal.specs.declared.event.EventKind.TheVariants.{Commit, Undo, Redo, Empty}
use Rattle.keep_journal.specs.Lasting.{entry_at, lasting}
use Rattle.keep_shelf.specs.declared.key.Key.{Key}
use Rattle.keep_shelf.specs.declared.key.Key.TheVariants.{Live, Trash, Entry}
use Rattle.keep_moves.specs.Lists.{moves_by}
use Rattle.keep_moves.specs.Move.{AllApart, Stand, uses}
use Rattle.keep_moves.specs.declared.moves.Move.{Move}
use Rattle.keep_moves.specs.declared.moves.Move.TheVariants.{Put, Shift, Erase}
use Rattle.keep_reading.specs.Reads.{Reads}
use Rattle.keep_reading.specs.Settled.{last_event}

-- the move is one of these, no two of which use one key, and it uses no entry's
pub record IsAmong (ms : List Move) (m : Move) : Type 0 where
  pub before : List Move
  pub later : List Move
  pub is : ms ≡ before ++ m ∷ later
  pub apart : AllApart ms
  pub off : (k : ℕ) → uses m (Entry k) ≡ false

-- what stands under the key says nothing any more, where changes up to n are final and the journal tells all that is
-- still told: it is the trash of such a change, or an entry that isn't the journal's
abbrev pub IsOver : ℕ → Journal → Key → Type 0
IsOver n j (Live name) = ⊥
IsOver n j (Trash m name) = m ≤ n
IsOver n j (Entry k) = entry_at j.entries k ≡ None

-- the move erases something of that kind
abbrev pub IsErasure : ℕ → Journal → Move → Type 0
IsErasure n j (Put key bytes) = ⊥
IsErasure n j (Shift from to) = ⊥
IsErasure n j (Erase key) = IsOver n j key

-- the move belongs to an event of this kind, the last one of the journal: it is one of its moves, and for an emptying
-- any erasure of what is over
abbrev pub BelongsBy : Journal → ℕ → EventKind → Move → Type 0
BelongsBy j n (Commit c) m = IsAmong (moves_by j n (Commit c)) m
BelongsBy j n Undo m = IsAmong (moves_by j n Undo) m
BelongsBy j n Redo m = IsAmong (moves_by j n Redo) m
BelongsBy j n (Empty marks) m = IsErasure n j m

abbrev pub BelongsTo : Journal → Option Event → Move → Type 0
BelongsTo j None m = ⊥
BelongsTo j (Some e) m = BelongsBy j e.number e.kind m

-- the move belongs to the journal's last event
abbrev pub IsMoveOf : Journal → Move → Type 0
IsMoveOf j m = BelongsTo j (last_event j) m

-- what stands on the shelf says what the journal still tells, over this opening, and the moves that are due are its
-- last event's
pub record IsRead (opening : Repository) (j : Journal) (due : List Move) (stand : Stand) : Type 0 where
  pub reads : Reads stand opening (lasting j)
  pub belong : AllByRecursion (IsMoveOf (lasting j)) due
