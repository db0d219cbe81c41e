-- The rule of a chronicle, and what its steps tell. Each note says which pen writes the next one, and to write it
-- spends that pen: so who has it knows that nothing was written since.
use Rattle.std.specs.Prelude.{◌≡◌, ℕ, ◌<◌, true, List, [], ◌∷◌, ◌++◌, length}
use Rattle.logbook.specs.Pages.{Cell, Step, View, cell, may_make}
use Rattle.keep_chronicle.specs.Chronicle.{events_of}
use Rattle.keep_chronicle.specs.declared.note.Note.{Note}

-- the last note says that the pen of this cell writes next
abbrev pub EndsAt : List Note → ℕ → Type 0
EndsAt [] key = ⊥
EndsAt (n ∷ []) key = n.turn ≡ key
EndsAt (n ∷ m ∷ ns) key = EndsAt (m ∷ ns) key

-- the pen that each note but the last names is spent: its cell is at home
abbrev pub AreSpent : List Cell → List Note → Type 0
AreSpent cells [] = Unit {0}
AreSpent cells (n ∷ []) = Unit {0}
AreSpent cells (n ∷ m ∷ ns) = ((cell cells n.turn).1 ≡ true) × AreSpent cells (m ∷ ns)

-- the first word is at home, and is 0 at most while nothing is written; and those pens are spent
pub record IsKept (cells : List Cell) (log : List Note) : Type 0 where
  pub head : (0 < length cells) × ((cell cells 0).1 ≡ true)
  pub blank : (cell cells 0).0 ≡ 0 → log ≡ []
  pub spent : AreSpent cells log

-- where the word was 0, the first note stands there, and names the pen that was made
abbrev pub Begins : Step Note → View Note ℕ → ℕ → View Note ℕ → Type 0
Begins s v found w =
    found ≡ 0 → (w.1.0.right ≡ may_make) × (w.0 ≡ record { events = []; turn = w.1.0.key } ∷ [])

-- a pen was made
abbrev pub Cuts : Step Note → View Note ℕ → ℕ → View Note ℕ → Type 0
Cuts s v found w = w.1.0.right ≡ may_make

-- the note was added to all that had been seen
abbrev pub Writes : Step Note → View Note ℕ → ℕ → View Note ℕ → Type 0
Writes s v found w = w.0 ≡ v.0 ++ s.ask ∷ []

-- the pen stays, and the events that were asked about are all
abbrev pub Looks : Step Note → View Note ℕ → ℕ → View Note ℕ → Type 0
Looks s v found w = (w.1.0 ≡ v.1.0) × (events_of w.0 ≡ s.ask.events)
