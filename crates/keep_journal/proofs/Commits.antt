-- The numbers of the commits, and what one more event makes of them.
use Rattle.std.proofs.Common.{◌≡◌, ℕ, zero, suc, ◌+◌, ◌-◌, ◌<◌, ◌≤◌, ◌==◌, ◌&&◌, nat_lt, nat_le, Bool, true, false, inl, inr, List, [], ◌∷◌, ◌++◌, length, Option, Some, None, refl, sym, ap, ◌∙◌, arith}
use Rattle.std.proofs.lemmas.Bool.{and_right, cases_lt, eq-eqb, le-leb, le-ltb, lt-leb, lt-ltb, ne_eqb}
use Rattle.std.proofs.lemmas.Bool.Decides.{nat_tests}
use Rattle.std.proofs.lemmas.Grind.{fold-append}
use Rattle.std.proofs.lemmas.List.{append_assoc, length_push, append-nil}
use Rattle.std.proofs.lemmas.List.Folds.{find-append}
use Rattle.std.proofs.lemmas.List.Elements.{filter_map-append}
use Rattle.std.specs.List.{find, filter_map, fold, slice_get}
use Rattle.std.specs.Option.{is_some, option_map, option_or}
use Rattle.keep_change.specs.Fold.{Numbered}
use Rattle.keep_change.specs.declared.change.Change.{Change}
use Rattle.keep_change.specs.declared.change.PackMark.{PackMark}
use Rattle.keep_journal.specs.Event.{commit_of, committing, undoing, redoing, emptying}
use Rattle.keep_journal.specs.History.{committed, last_change, change_of, in_force_after, is_in_force, final_after, final_number, last_marks, length_of, marks_after, AscendFrom, ComeInTurn, ComesNext, CountsFrom, FitsBy, IsLegal, IsNumbered}
use Rattle.keep_journal.specs.Journal.{Journal, posted}
use Rattle.keep_journal.specs.declared.event.Entry.{Entry}
use Rattle.keep_journal.specs.declared.event.Event.{Event}
use Rattle.keep_journal.specs.declared.event.EventKind.{EventKind}
use Rattle.keep_journal.specs.declared.event.EventKind.TheVariants.{Commit, Undo, Redo, Empty}

-- ---- one more event

pub committed-Commit : (j : Journal) (k n : ℕ) (c : Change)
    → committed (posted j k (committing n c)) ≡ committed j ++ record { number = n; change = c } ∷ []
committed-Commit j k n c = filter_map-append (λ e. commit_of e.event) j.entries (record { at = k; event = committing n c } ∷ [])

pub committed-Undo : (j : Journal) (k n : ℕ) → committed (posted j k (undoing n)) ≡ committed j
committed-Undo j k n = filter_map-append (λ e. commit_of e.event) j.entries (record { at = k; event = undoing n } ∷ []) ∙ append-nil (committed j)

pub committed-Redo : (j : Journal) (k n : ℕ) → committed (posted j k (redoing n)) ≡ committed j
committed-Redo j k n = filter_map-append (λ e. commit_of e.event) j.entries (record { at = k; event = redoing n } ∷ []) ∙ append-nil (committed j)

pub committed-Empty : (j : Journal) (k n : ℕ) (marks : List PackMark) → committed (posted j k (emptying n marks)) ≡ committed j
committed-Empty j k n marks = filter_map-append (λ e. commit_of e.event) j.entries (record { at = k; event = emptying n marks } ∷ []) ∙ append-nil (committed j)

pub last_change-Commit : (j : Journal) (k n : ℕ) (c : Change) → last_change (posted j k (committing n c)) ≡ last_change j + 1
last_change-Commit j k n c =
    let longer = ap length (committed-Commit j k n c) ∙ length_push (committed j) (record { number = n; change = c }) in
    omega (arith, longer)

pub last_change-Undo : (j : Journal) (k n : ℕ) → last_change (posted j k (undoing n)) ≡ last_change j
last_change-Undo j k n = ap (λ ns. j.base + length ns) (committed-Undo j k n)

pub last_change-Redo : (j : Journal) (k n : ℕ) → last_change (posted j k (redoing n)) ≡ last_change j
last_change-Redo j k n = ap (λ ns. j.base + length ns) (committed-Redo j k n)

pub last_change-Empty : (j : Journal) (k n : ℕ) (marks : List PackMark) → last_change (posted j k (emptying n marks)) ≡ last_change j
last_change-Empty j k n marks = ap (λ ns. j.base + length ns) (committed-Empty j k n marks)

pub is_in_force-push : (j : Journal) (k : ℕ) (e : Event) (m : ℕ)
    → is_in_force (posted j k e) m ≡ in_force_after m (is_in_force j m) e
is_in_force-push j k e m = fold-append (λ before x. in_force_after m before x.event) false j.entries (record { at = k; event = e } ∷ [])

pub last_marks-push : (j : Journal) (k : ℕ) (e : Event) → last_marks (posted j k e) ≡ marks_after (last_marks j) e
last_marks-push j k e = fold-append (λ before x. marks_after before x.event) None j.entries (record { at = k; event = e } ∷ [])

pub final_number-push : (j : Journal) (k : ℕ) (e : Event) → final_number (posted j k e) ≡ final_after (final_number j) e
final_number-push j k e = fold-append (λ before x. final_after before x.event) j.base j.entries (record { at = k; event = e } ∷ [])

-- the last event's number is that of the event just posted
pub length_of-push : (j : Journal) (k : ℕ) (e : Event) → length_of (posted j k e) ≡ k
length_of-push j k e = fold-append (λ before x. x.at) 0 j.entries (record { at = k; event = e } ∷ [])

-- ---- numbers

-- one more, with the next number
CountsFrom-push : (k : ℕ) (ns : List Numbered) (n : Numbered) → CountsFrom k ns → n.number ≡ k + length ns → CountsFrom k (ns ++ n ∷ [])
CountsFrom-push k [] n h e = (omega arith, tt)
CountsFrom-push k (m ∷ ns) n h e = (h.0, CountsFrom-push (k + 1) ns n h.1 (omega arith))

-- none of them has a lower number
find-below : (k : ℕ) (ns : List Numbered) (n : ℕ) → CountsFrom k ns → n < k → find (λ c. c.number == n) ns ≡ None
find-below k [] n h lt = refl
find-below k (m ∷ ns) n h lt =
    let first : m.number ≡ k = h.0 in
    rw (ne_eqb m.number n (λ e. omega arith)) (find-below (k + 1) ns n h.1 (omega arith))

-- one more above the last
AscendFrom-push : (k : ℕ) (es : List Entry) (e : Entry) → AscendFrom k es → fold (λ before x. x.at) k es < e.at → AscendFrom k (es ++ e ∷ [])
AscendFrom-push k [] e h above = (above, tt)
AscendFrom-push k (x ∷ es) e h above = (h.0, AscendFrom-push x.at es e h.1 above)

-- the one with number k + i is at place i
pub find-slice_get : (k : ℕ) (ns : List Numbered) (i n : ℕ) → CountsFrom k ns → n ≡ k + i → find (λ c. c.number == n) ns ≡ slice_get ns i
find-slice_get k [] i n h e = refl
find-slice_get k (m ∷ ns) zero n h e =
    let first : m.number ≡ k = h.0 in
    rw (eq-eqb m.number n (omega arith)) refl
find-slice_get k (m ∷ ns) (suc i) n h e =
    let first : m.number ≡ k = h.0 in
    rw (ne_eqb m.number n (λ same. omega arith)) (find-slice_get (k + 1) ns i n h.1 (omega arith))

is_some-slice_get : (ns : List Numbered) (i : ℕ) → is_some (slice_get ns i) ≡ nat_lt i (length ns)
is_some-slice_get [] i = sym (le-ltb i 0 (omega arith))
is_some-slice_get (n ∷ ns) zero = sym (lt-ltb 0 (suc (length ns)) (omega arith))
is_some-slice_get (n ∷ ns) (suc i) = grind (arith, nat_tests, is_some-slice_get ns i)

is_some-option_map : (o : Option Numbered) → is_some (option_map (λ (c : Numbered). c.change) o) ≡ is_some o
is_some-option_map None = refl
is_some-option_map (Some n) = refl

-- the journal has change n just where n is above what was final when it began, and not above the last change
pub is_some-change_of : (j : Journal) (n : ℕ) → IsNumbered j → is_some (change_of j n) ≡ (nat_lt j.base n && nat_le n (last_change j))
is_some-change_of j n h = elim (cases_lt j.base n) [
  | inl above ↦
      let given = is_some-option_map (find (λ c. c.number == n) (committed j)) in
      let at = ap is_some (find-slice_get (j.base + 1) (committed j) (n - j.base - 1) n h.commits (omega arith)) in
      let within = is_some-slice_get (committed j) (n - j.base - 1) in
      let low : nat_lt j.base n ≡ true = lt-ltb j.base n above in
      let same : nat_lt (n - j.base - 1) (length (committed j)) ≡ nat_le n (last_change j) = same_bound j.base n (length (committed j)) above in
      rw low (given ∙ at ∙ within ∙ same)
  | inr below ↦
      let none = ap is_some (find-below (j.base + 1) (committed j) n h.commits (omega arith)) in
      let low : nat_lt j.base n ≡ false = le-ltb j.base n below in
      rw low (is_some-option_map (find (λ c. c.number == n) (committed j)) ∙ none)
]
  where
    same_bound : (b n l : ℕ) → b < n → nat_lt (n - b - 1) l ≡ nat_le n (b + l)
    same_bound b n l above = grind (arith, nat_tests)

-- ---- the change with a number

-- of two answers, the first where there is one
first_one : (o p : Option Numbered) (c : Change) → option_map (λ (c : Numbered). c.change) o ≡ Some c
    → option_map (λ (c : Numbered). c.change) (option_or o p) ≡ Some c
first_one None p c h = cc h
first_one (Some n) p c h = h

-- and the other where there is none
other_one : (o p : Option Numbered) → is_some (option_map (λ (c : Numbered). c.change) o) ≡ false
    → option_map (λ (c : Numbered). c.change) (option_or o p) ≡ option_map (λ c. c.change) p
other_one None p h = refl
other_one (Some m) p h = cc h

none_from_is_some : (o : Option Change) → is_some o ≡ false → o ≡ None
none_from_is_some None h = refl
none_from_is_some (Some c) h = cc h

some_from_is_some : (o : Option Change) → is_some o ≡ true → (c : Change) × (o ≡ Some c)
some_from_is_some None h = cc h
some_from_is_some (Some c) h = (c, refl)

pub no_change : (j : Journal) (n : ℕ) → IsNumbered j → (nat_lt j.base n && nat_le n (last_change j)) ≡ false → change_of j n ≡ None
no_change j n h absent = none_from_is_some (change_of j n) (is_some-change_of j n h ∙ absent)

pub some_change : (j : Journal) (n : ℕ) → IsNumbered j → j.base < n → n ≤ last_change j → (c : Change) × (change_of j n ≡ Some c)
some_change j n h above within =
    some_from_is_some (change_of j n) (is_some-change_of j n h ∙ both (lt-ltb j.base n above) (le-leb n (last_change j) within))
  where
    both : {a b : Bool} → a ≡ true → b ≡ true → (a && b) ≡ true
    both p q = rw (p, q) refl

-- the number of a change of the journal
pub within_journal : (j : Journal) (n : ℕ) (c : Change) → IsNumbered j → change_of j n ≡ Some c → (j.base < n) × (n ≤ last_change j)
within_journal j n c h is_c =
    let there : (nat_lt j.base n && nat_le n (last_change j)) ≡ true = sym (is_some-change_of j n h) ∙ ap is_some is_c in
    (grind (arith, nat_tests), grind (arith, nat_tests))

-- the changes so far keep their numbers
pub change_of-push : (j : Journal) (k : ℕ) (e : Event) (n : ℕ) (c : Change) → change_of j n ≡ Some c → change_of (posted j k e) n ≡ Some c
change_of-push j k e n c h =
    let one : List Entry = record { at = k; event = e } ∷ [] in
    let same = ap (λ ns. find (λ c. c.number == n) ns) (filter_map-append (λ x. commit_of x.event) j.entries one) in
    let parts = find-append (λ (c : Numbered). c.number == n) (committed j) (filter_map (λ x. commit_of x.event) one) in
    rw (same, parts) (first_one (find (λ c. c.number == n) (committed j)) (find (λ c. c.number == n) (filter_map (λ x. commit_of x.event) one)) c h)

pub change_of-Commit : (j : Journal) (k n : ℕ) (c : Change) → IsNumbered j → n ≡ last_change j + 1
    → change_of (posted j k (committing n c)) n ≡ Some c
change_of-Commit j k n c h next =
    let absent : (nat_lt j.base n && nat_le n (last_change j)) ≡ false = rw (lt-leb n (last_change j) (omega arith)) (and_right (nat_lt j.base n) false refl) in
    let is_there = is_some-change_of j n h in
    let same = ap (λ ns. find (λ c. c.number == n) ns) (committed-Commit j k n c) in
    let parts = find-append (λ (c : Numbered). c.number == n) (committed j) (record { number = n; change = c } ∷ []) in
    rw (same, parts, eq-eqb n n refl) (other_one (find (λ c. c.number == n) (committed j)) (Some (record { number = n; change = c })) (is_there ∙ absent))

-- ---- an emptying that moves the final number up

pub fits-Empty : (j : Journal) (n : ℕ) (marks : List PackMark) → final_number j < n → n ≤ last_change j → FitsBy j n (Empty marks)
fits-Empty j n marks above within = (omega arith, omega arith, within, λ same. absurd (omega arith))

-- ---- a history stays numbered

pub IsNumbered-push : (j : Journal) (e : Entry) → IsNumbered j → ComesNext j e → IsNumbered (posted j e.at e.event)
IsNumbered-push j e h next = record {
  events = AscendFrom-push 0 j.entries e h.events next.above;
  commits = commits e.event.number e.event.kind next.fits;
  first_final = first_final e.event.number e.event.kind next.fits;
  last_final = last_final e.event.number e.event.kind next.fits;
}
  where
    commits : (n : ℕ) (kind : EventKind) → FitsBy j n kind → CountsFrom (j.base + 1) (committed (posted j e.at (record { number = n; kind = kind })))
    commits n (Commit c) fits =
        rw (committed-Commit j e.at n c) (CountsFrom-push (j.base + 1) (committed j) (record { number = n; change = c }) h.commits (omega arith))
    commits n Undo fits = rw (committed-Undo j e.at n) h.commits
    commits n Redo fits = rw (committed-Redo j e.at n) h.commits
    commits n (Empty marks) fits = rw (committed-Empty j e.at n marks) h.commits

    first_final : (n : ℕ) (kind : EventKind) → FitsBy j n kind → j.base ≤ final_number (posted j e.at (record { number = n; kind = kind }))
    first_final n (Commit c) fits = rw (final_number-push j e.at (committing n c)) h.first_final
    first_final n Undo fits = rw (final_number-push j e.at (undoing n)) h.first_final
    first_final n Redo fits = rw (final_number-push j e.at (redoing n)) h.first_final
    first_final n (Empty marks) fits = rw (final_number-push j e.at (emptying n marks)) (omega (arith, h.first_final, fits.1))

    last_final : (n : ℕ) (kind : EventKind) → FitsBy j n kind → final_number (posted j e.at (record { number = n; kind = kind })) ≤ last_change (posted j e.at (record { number = n; kind = kind }))
    last_final n (Commit c) fits = rw (final_number-push j e.at (committing n c), last_change-Commit j e.at n c) (omega (arith, h.last_final))
    last_final n Undo fits = rw (final_number-push j e.at (undoing n), last_change-Undo j e.at n) h.last_final
    last_final n Redo fits = rw (final_number-push j e.at (redoing n), last_change-Redo j e.at n) h.last_final
    last_final n (Empty marks) fits = rw (final_number-push j e.at (emptying n marks), last_change-Empty j e.at n marks) fits.2

-- ---- a history stays legal

-- one more that can come next
ComeInTurn-push : (j : Journal) (es : List Entry) (e : Entry) → ComeInTurn j es → ComesNext (record { base = j.base; entries = j.entries ++ es }) e → ComeInTurn j (es ++ e ∷ [])
ComeInTurn-push j [] e h next = (rw (append-nil j.entries) at next, tt)
ComeInTurn-push j (x ∷ es) e h next =
    (h.0, ComeInTurn-push (posted j x.at x.event) es e h.1 (rw (append_assoc j.entries (x ∷ []) es) next))

pub IsLegal-push : (j : Journal) (e : Entry) → IsLegal j → ComesNext j e → IsLegal (posted j e.at e.event)
IsLegal-push j e h next = ComeInTurn-push (record { base = j.base; entries = [] }) j.entries e h next
