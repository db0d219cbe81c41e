-- What one more event makes of the changes that can still be undone.
use Rattle.std.proofs.Common.{◌≡◌, ℕ, ◌+◌, ◌<◌, ◌≤◌, ◌==◌, nat_lt, Bool, true, false, ◌&&◌, ◌||◌, not, cond, List, [], ◌∷◌, ◌++◌, Some, refl, ap, ◌∙◌, arith}
use Rattle.std.proofs.lemmas.Bool.{and_right, eq-eqb, lt-ltb, ne_eqb, or_right}
use Rattle.std.proofs.lemmas.Bool.Decides.{nat_tests}
use Rattle.keep_repo.specs.Repository.{Repository}
use Rattle.keep_change.specs.Fold.{Numbered, fold_of}
use Rattle.keep_change.specs.Result.{result_of}
use Rattle.keep_change.specs.declared.change.Change.{Change}
use Rattle.keep_change.specs.declared.change.PackMark.{PackMark}
use Rattle.keep_journal.specs.History.{last_change, change_of, final_number, is_in_force, IsNumbered}
use Rattle.keep_journal.specs.Kept.{above, chosen, earlier, is_kept, kept, kept_with, later, others, up_to}
use Rattle.keep_journal.specs.Journal.{Journal, posted}
use Rattle.keep_journal.specs.Event.{committing, undoing, redoing, emptying}
use Rattle.keep_journal.proofs.Chosen.{chosen-Commit, chosen-Empty, chosen-Redo, chosen-Undo, chosen_agree, chosen_agree_on, chosen_around, chosen_around_as, chosen_below, chosen_next, chosen_past, chosen_split}
use Rattle.keep_journal.proofs.Commits.{final_number-push, is_in_force-push}

-- ---- tests, f whether a change is in force and k whether it is kept

committed_test : (f : Bool) (top n m : ℕ) → n ≡ m → top < m → ((n == m || f) && nat_lt top m) ≡ true
committed_test f top n m same above = rw (eq-eqb n m same, lt-ltb top m above) refl

other_test : (f : Bool) (n m : ℕ) → (n ≡ m → ⊥) → (n == m || f) ≡ f
other_test f n m other = rw (ne_eqb n m other) refl

undone_test : (f : Bool) (top n m : ℕ) → ((not (n == m) && f) && nat_lt top m) ≡ ((f && nat_lt top m) && not (m == n))
undone_test true top n m = grind (arith, nat_tests)
undone_test false top n m = grind (arith, nat_tests)

redone_test : (f : Bool) (top n m : ℕ) → top < n → ((n == m || f) && nat_lt top m) ≡ ((f && nat_lt top m) || m == n)
redone_test true top n m above = grind (arith, nat_tests)
redone_test false top n m above = grind (arith, nat_tests)

emptied_test : (f : Bool) (top n m : ℕ) → top ≤ n → (f && nat_lt n m) ≡ ((f && nat_lt top m) && nat_lt n m)
emptied_test true top n m above = grind (arith, nat_tests)
emptied_test false top n m above = refl

itself_out : (k : Bool) (n : ℕ) → (k && not (n == n)) ≡ false
itself_out k n = rw (eq-eqb n n refl) (and_right k false refl)

itself_in : (k : Bool) (n : ℕ) → (k || n == n) ≡ true
itself_in k n = rw (eq-eqb n n refl) (or_right k true refl)

without_below : (k : Bool) (m n : ℕ) → ((k && not (m == n)) && nat_lt m n) ≡ (k && nat_lt m n)
without_below true m n = grind (arith, nat_tests)
without_below false m n = refl

without_above : (k : Bool) (m n : ℕ) → ((k && not (m == n)) && nat_lt n m) ≡ (k && nat_lt n m)
without_above true m n = grind (arith, nat_tests)
without_above false m n = refl

with_below : (k : Bool) (m n : ℕ) → ((k || m == n) && nat_lt m n) ≡ (k && nat_lt m n)
with_below true m n = refl
with_below false m n = grind (arith, nat_tests)

with_above : (k : Bool) (m n : ℕ) → ((k || m == n) && nat_lt n m) ≡ (k && nat_lt n m)
with_above true m n = refl
with_above false m n = grind (arith, nat_tests)

-- ---- whether a change is kept, after one more event

pub is_kept-Commit : (j : Journal) (k n : ℕ) (c : Change) (m : ℕ)
    → is_kept (posted j k (committing n c)) m ≡ ((n == m || is_in_force j m) && nat_lt (final_number j) m)
is_kept-Commit j k n c m = rw (is_in_force-push j k (committing n c) m, final_number-push j k (committing n c)) refl

pub is_kept-Undo : (j : Journal) (k n m : ℕ) → is_kept (posted j k (undoing n)) m ≡ (is_kept j m && not (m == n))
is_kept-Undo j k n m = rw (is_in_force-push j k (undoing n) m, final_number-push j k (undoing n)) (undone_test (is_in_force j m) (final_number j) n m)

pub is_kept-Redo : (j : Journal) (k n m : ℕ) → final_number j < n → is_kept (posted j k (redoing n)) m ≡ (is_kept j m || m == n)
is_kept-Redo j k n m above = rw (is_in_force-push j k (redoing n) m, final_number-push j k (redoing n)) (redone_test (is_in_force j m) (final_number j) n m above)

pub is_kept-Empty : (j : Journal) (k n : ℕ) (marks : List PackMark) (m : ℕ) → final_number j ≤ n → is_kept (posted j k (emptying n marks)) m ≡ (is_kept j m && nat_lt n m)
is_kept-Empty j k n marks m above = rw (is_in_force-push j k (emptying n marks) m, final_number-push j k (emptying n marks)) (emptied_test (is_in_force j m) (final_number j) n m above)

-- ---- the kept ones, after one more event

pub kept-Undo : (j : Journal) (k n : ℕ) → kept (posted j k (undoing n)) ≡ others j n
kept-Undo j k n =
    chosen-Undo (is_kept (posted j k (undoing n))) j k n
    ∙ chosen_agree (is_kept (posted j k (undoing n))) (λ m. is_kept j m && not (m == n)) j (is_kept-Undo j k n)

pub kept-Redo : (j : Journal) (k n : ℕ) → final_number j < n → kept (posted j k (redoing n)) ≡ kept_with j n
kept-Redo j k n above =
    chosen-Redo (is_kept (posted j k (redoing n))) j k n
    ∙ chosen_agree (is_kept (posted j k (redoing n))) (λ m. is_kept j m || m == n) j (λ m. is_kept-Redo j k n m above)

pub kept-Empty : (j : Journal) (k n : ℕ) (marks : List PackMark) → final_number j ≤ n → kept (posted j k (emptying n marks)) ≡ later j n
kept-Empty j k n marks above =
    chosen-Empty (is_kept (posted j k (emptying n marks))) j k n marks
    ∙ chosen_agree (is_kept (posted j k (emptying n marks))) (λ m. is_kept j m && nat_lt n m) j (λ m. is_kept-Empty j k n marks m above)

pub kept-Commit : (j : Journal) (k n : ℕ) (c : Change) → IsNumbered j → n ≡ last_change j + 1
    → kept (posted j k (committing n c)) ≡ kept j ++ record { number = n; change = c } ∷ []
kept-Commit j k n c h next =
    let top = h.last_final in
    let new : is_kept (posted j k (committing n c)) n ≡ true = is_kept-Commit j k n c n ∙ committed_test (is_in_force j n) (final_number j) n n refl (omega arith) in
    let old = chosen_agree_on (is_kept (posted j k (committing n c))) (is_kept j) j h
    (λ m low high. is_kept-Commit j k n c m ∙ ap (λ f. f && nat_lt (final_number j) m) (other_test (is_in_force j m) n m (λ e. omega arith))) in
    chosen-Commit (is_kept (posted j k (committing n c))) j k n c
    ∙ ap (λ b. chosen (is_kept (posted j k (committing n c))) j ++ cond b (record { number = n; change = c } ∷ []) []) new
    ∙ ap (λ xs. xs ++ record { number = n; change = c } ∷ []) old

-- those up to n, and then those above n
pub kept_split : (j : Journal) (n : ℕ) → IsNumbered j → kept j ≡ up_to j n ++ later j n
kept_split j n h = chosen_split (is_kept j) j n h

-- ---- around one change

abbrev the_one : ℕ → Change → List Numbered
the_one n c = record { number = n; change = c } ∷ []

pub kept_around : (j : Journal) (n : ℕ) (c : Change) → IsNumbered j → change_of j n ≡ Some c → is_kept j n ≡ true
    → kept j ≡ earlier j n ++ record { number = n; change = c } ∷ later j n
kept_around j n c h is_c in_force =
    chosen_around (is_kept j) j n c h is_c
    ∙ ap (λ b. earlier j n ++ (cond b (the_one n c) [] ++ later j n)) in_force

pub others_around : (j : Journal) (n : ℕ) (c : Change) → IsNumbered j → change_of j n ≡ Some c
    → others j n ≡ earlier j n ++ later j n
others_around j n c h is_c =
    chosen_around_as (λ m. is_kept j m && not (m == n)) (is_kept j) false j n c h is_c (itself_out (is_kept j n) n)
    (λ m. without_below (is_kept j m) m n) (λ m. without_above (is_kept j m) m n)

pub kept_around_undone : (j : Journal) (n : ℕ) (c : Change) → IsNumbered j → change_of j n ≡ Some c → is_kept j n ≡ false
    → kept j ≡ earlier j n ++ later j n
kept_around_undone j n c h is_c undone =
    chosen_around (is_kept j) j n c h is_c
    ∙ ap (λ b. earlier j n ++ (cond b (the_one n c) [] ++ later j n)) undone

pub kept_with_around : (j : Journal) (n : ℕ) (c : Change) → IsNumbered j → change_of j n ≡ Some c
    → kept_with j n ≡ earlier j n ++ record { number = n; change = c } ∷ later j n
kept_with_around j n c h is_c =
    chosen_around_as (λ m. is_kept j m || m == n) (is_kept j) true j n c h is_c (itself_in (is_kept j n) n)
    (λ m. with_below (is_kept j m) m n) (λ m. with_above (is_kept j m) m n)

-- ---- the later ones, one by one

pub later_next : (j : Journal) (n k : ℕ) (c : Change) → IsNumbered j → k ≡ n + 1 → change_of j k ≡ Some c
    → later j n ≡ cond (is_kept j k) (record { number = k; change = c } ∷ []) [] ++ later j k
later_next j n k c h next is_c = chosen_next (is_kept j) j n k c h next is_c

-- a number up to which all was final when the history began is no change's
pub later_below : (j : Journal) (n k : ℕ) → IsNumbered j → k ≡ n + 1 → k ≤ j.base → later j n ≡ later j k
later_below j n k h next below = chosen_below (is_kept j) j n k h next below

pub later_none : (j : Journal) (n : ℕ) → IsNumbered j → last_change j ≤ n → later j n ≡ []
later_none j n h end = chosen_past (is_kept j) j n h end

-- ---- folds

pub fold_of-append : (ms ns : List Numbered) (r : Repository) → fold_of (ms ++ ns) r ≡ fold_of ns (fold_of ms r)
fold_of-append [] ns r = refl
fold_of-append (m ∷ ms) ns r = fold_of-append ms ns (result_of m.change r)

-- ---- those above a number, undone ones too

pub above-next : (j : Journal) (n k : ℕ) (c : Change) → IsNumbered j → k ≡ n + 1 → change_of j k ≡ Some c
    → above j n ≡ record { number = k; change = c } ∷ above j k
above-next j n k c h next is_c = chosen_next (λ m. true) j n k c h next is_c

pub above-below : (j : Journal) (n k : ℕ) → IsNumbered j → k ≡ n + 1 → k ≤ j.base → above j n ≡ above j k
above-below j n k h next below = chosen_below (λ m. true) j n k h next below

pub above-past : (j : Journal) (n : ℕ) → IsNumbered j → last_change j ≤ n → above j n ≡ []
above-past j n h end = chosen_past (λ m. true) j n h end

-- the kept changes are those above the final number that are in force
pub kept_later : (j : Journal) → later j (final_number j) ≡ kept j
kept_later j = chosen_agree (λ m. is_kept j m && nat_lt (final_number j) m) (is_kept j) j (λ m. twice (is_in_force j m) (nat_lt (final_number j) m))
  where
    twice : (a b : Bool) → ((a && b) && b) ≡ (a && b)
    twice true true = refl
    twice true false = refl
    twice false b = refl
