-- Which pen writes next.
use Rattle.std.proofs.Common.{◌≡◌, ℕ, true, false, List, [], ◌∷◌, ◌++◌, refl, ap, sym, ◌∙◌}
use mathlib.Core.List.{IsPrefix}
use Rattle.logbook.specs.Pages.{Cell, cell}
use Rattle.keep_chronicle.specs.Rules.{AreSpent, EndsAt}
use Rattle.keep_chronicle.specs.declared.note.Note.{Note}

-- pens that are spent stay so where no cell that is at home leaves it
pub spent_rises : (cs ds : List Cell) (log : List Note) → ((k : ℕ) → (cell cs k).1 ≡ true → (cell ds k).1 ≡ true)
    → AreSpent cs log → AreSpent ds log
spent_rises cs ds [] rises spent = tt
spent_rises cs ds (n ∷ []) rises spent = tt
spent_rises cs ds (n ∷ m ∷ ns) rises spent = (rises n.turn spent.0, spent_rises cs ds (m ∷ ns) rises spent.1)

-- a note behind the others, once the pen that the last one names is spent
pub spent_push : (cs : List Cell) (log : List Note) (key : ℕ) (n : Note) → EndsAt log key → (cell cs key).1 ≡ true
    → AreSpent cs log → AreSpent cs (log ++ n ∷ [])
spent_push cs [] key n ends home spent = absurd ends
spent_push cs (m ∷ []) key n ends home spent = (rw ends home, tt)
spent_push cs (m ∷ l ∷ ls) key n ends home spent = (spent.0, spent_push cs (l ∷ ls) key n ends home spent.1)

-- then that note's pen writes next
pub ends_push : (log : List Note) (n : Note) → EndsAt (log ++ n ∷ []) n.turn
ends_push [] n = refl
ends_push (m ∷ []) n = refl
ends_push (m ∷ l ∷ ls) n = ends_push (l ∷ ls) n

-- whose pen writes next, and isn't spent, has seen all
pub all_seen : (cs : List Cell) (v log : List Note) (key : ℕ) → EndsAt v key → (cell cs key).1 ≡ false → AreSpent cs log
    → IsPrefix v log → v ≡ log
all_seen cs [] log key ends away spent p = absurd ends
all_seen cs (n ∷ []) [] key ends away spent p = absurd (cc (p.1))
all_seen cs (n ∷ []) (x ∷ []) key ends away spent p = cc (p.1)
all_seen cs (n ∷ []) (x ∷ y ∷ ys) key ends away spent p =
    let same : n ≡ x = cc (p.1) in
    let turn : x.turn ≡ key = ap (λ (m : Note). m.turn) (sym same) ∙ ends in
    let home : (cell cs key).1 ≡ true = rw (← turn) spent.0 in
    absurd (cc (home, away))
all_seen cs (n ∷ m ∷ ns) [] key ends away spent p = absurd (cc (p.1))
all_seen cs (n ∷ m ∷ ns) (x ∷ []) key ends away spent p = absurd (cc (p.1))
all_seen cs (n ∷ m ∷ ns) (x ∷ y ∷ ys) key ends away spent p =
    let rest = all_seen cs (m ∷ ns) (y ∷ ys) key ends away spent.1 (p.0, cc (p.1)) in
    cc (p.1, rest)
