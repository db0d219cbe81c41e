-- Each step keeps the rule.
use Rattle.std.proofs.Common.{◌≡◌, ◌≢◌, ℕ, ◌<◌, ◌==◌, Bool, true, false, List, [], ◌∷◌, ◌++◌, length, refl, ap, sym, ◌∙◌, subst, arith, inl, length-append, length-set, None}
use Rattle.std.specs.Prelude.{slice_set}
use Rattle.std.proofs.lemmas.List.{append-nil}
use Rattle.std.proofs.lemmas.Bool.Decides.{nat_tests}
use mathlib.Core.List.{IsPrefix}
use prog.Atomic.{either}
use Rattle.logbook.specs.Pages.{Cell, Nib, Step, adds, cell, gives, keeps, may_write, no_nib, Goes, Moves}
use Rattle.keep_chronicle.specs.Chronicle.{events_of}
use Rattle.keep_chronicle.specs.Rules.{Begins, Cuts, EndsAt, IsKept, Looks, Writes}
use Rattle.keep_chronicle.specs.declared.note.Note.{Note}
use Rattle.keep_chronicle.proofs.Cells.{new_first, new_rises, put_back, same, set_first, set_home, set_rises, set_zero, unmoved}
use Rattle.keep_chronicle.proofs.Prefixes.{prefix_trans}
use Rattle.keep_chronicle.proofs.Turns.{all_seen, spent_push, spent_rises}

abbrev pub shown : List Note → List Note
shown log = []

abbrev pub moved : List Note → List Note → ℕ → Type 0
moved before after answer = Unit {0}

-- what an exchange of 0 by 1 makes of a number
abbrev pub begun : ℕ → ℕ
begun n = either (n == 0) 1 n

-- a cell is added
grown : (cs : List Cell) (log : List Note) → IsKept cs log → IsKept (cs ++ (0, false) ∷ []) log
grown cs log kept = record {
  head = (omega (arith, length-append cs ((0, false) ∷ []), kept.head.0), new_rises cs 0 kept.head.1);
  blank = λ none. kept.blank (ap (λ (c : Cell). c.0) (sym (new_first cs kept.head.0)) ∙ none);
  spent = spent_rises cs (cs ++ (0, false) ∷ []) log (new_rises cs) kept.spent;
}

-- the pen that the last note names is spent for one more note
written : (cs : List Cell) (log : List Note) (key value : ℕ) (n : Note) → IsKept cs log → EndsAt log key
    → key < length cs → (cell cs key).1 ≡ false → IsKept (slice_set cs key (value, true)) (log ++ n ∷ [])
written cs log key value n kept ends within away =
    let other : key ≢ 0 = λ (e : key ≡ 0). let home : (cell cs key).1 ≡ true = rw e kept.head.1 in absurd (cc (home, away)) in
    let left : List Cell = slice_set cs key (value, true) in
    record {
      head = (omega (arith, length-set cs key (value, true), kept.head.0), set_rises cs key value 0 kept.head.1);
      blank = λ none. absurd (subst (λ (l : List Note). EndsAt l key)
          (kept.blank (ap (λ (c : Cell). c.0) (sym (set_first cs key value other)) ∙ none)) ends);
      spent = spent_push left log key n ends (set_home cs key value within)
          (spent_rises cs left log (set_rises cs key value) kept.spent);
    }

-- the first note
first_written : (cs : List Cell) (n : Note) → 0 < length cs → (cell cs 0).1 ≡ true
    → IsKept (slice_set cs 0 (1, true) ++ (0, false) ∷ []) (n ∷ [])
first_written cs n some home =
    let left : List Cell = slice_set cs 0 (1, true) in
    let long : 0 < length left = omega (arith, length-set cs 0 (1, true)) in
    record {
      head = (omega (arith, length-append left ((0, false) ∷ [])), new_rises left 0 (set_rises cs 0 1 0 home));
      blank = λ none. absurd (omega (arith, ap (λ (c : Cell). c.0) (new_first left long), set_zero cs 1 some, none));
      spent = tt;
    }

begin_goes : (s : Step Note) (cs : List Cell) (log : List Note) → IsKept cs log → (b : Bool) → ((cell cs 0).0 == 0) ≡ b
    → Goes IsKept shown moved 0 ([], (no_nib, None)) begun (Begins s ([], (no_nib, None))) cs log
begin_goes s cs log kept true is =
    let empty : (cell cs 0).0 ≡ 0 = grind (arith, nat_tests) in
    let none : log ≡ [] = kept.blank empty in
    let n : Note = record { events = []; turn = length cs } in (
      adds,
      n ∷ [],
      None,
      tt,
      rw (is, none) (first_written cs n kept.head.0 kept.head.1),
      inl (refl, refl),
      λ found. (refl, ap (λ l. l ++ n ∷ []) none),
    )
begin_goes s cs log kept false is = (
  keeps,
  [],
  None,
  tt,
  rw (is, put_back cs kept.head.1, append-nil log) kept,
  inl (refl, refl),
  λ found. absurd (grind (arith, nat_tests)),
)

-- the step that begins
pub begin_moves : (s : Step Note) → Moves IsKept shown moved 0 ([], (no_nib, None)) begun (Begins s ([], (no_nib, None)))
begin_moves s cs log kept pre away = (kept.head.0, kept.head.1, begin_goes s cs log kept ((cell cs 0).0 == 0) refl)

-- the step that makes a pen
pub cut_moves : (v : List Note) (s : Step Note)
    → Moves IsKept shown moved 0 (v, (no_nib, None)) same (Cuts s (v, (no_nib, None)))
cut_moves v s cs log kept pre away = (
  kept.head.0,
  kept.head.1,
  (
    adds,
    [],
    None,
    tt,
    rw (unmoved cs kept.head.1, append-nil log) (grown cs log kept),
    inl (refl, refl),
    refl,
  ),
)

-- the step that writes, by the pen that the last note names
pub write_moves : (v : List Note) (p : Nib) (s : Step Note) → p.right ≡ may_write → EndsAt v p.key
    → Moves IsKept shown moved 0 (v, (p, None)) same (Writes s (v, (p, None)))
write_moves v p s right ends cs log kept pre away =
    let there = away right in
    let whole : v ≡ log = all_seen cs v log p.key ends there.1 kept.spent pre in
    let last : EndsAt log p.key = subst (λ (l : List Note). EndsAt l p.key) whole ends in (
      kept.head.0,
      kept.head.1,
      (
        gives,
        s.ask ∷ [],
        None,
        right,
        rw (unmoved cs kept.head.1) (written cs log p.key p.value s.ask kept last there.0 there.1),
        inl (refl, refl),
        ap (λ l. l ++ s.ask ∷ []) (sym whole),
      ),
    )

-- the step that finds that all was seen
pub look_moves : (v w : List Note) (p : Nib) (s : Step Note) → p.right ≡ may_write → EndsAt w p.key → IsPrefix w v
    → s.ask.events ≡ events_of w → Moves IsKept shown moved 0 (v, (p, None)) same (Looks s (v, (p, None)))
look_moves v w p s right ends begins asked cs log kept pre away =
    let there = away right in
    let whole : w ≡ log = all_seen cs w log p.key ends there.1 kept.spent (prefix_trans w v log begins pre) in (
      kept.head.0,
      kept.head.1,
      (
        keeps,
        [],
        None,
        tt,
        rw (unmoved cs kept.head.1, append-nil log) kept,
        inl (refl, refl),
        (refl, rw (append-nil log) (ap events_of (sym whole) ∙ sym asked)),
      ),
    )
