-- What one more event makes of the changes that aren't final.
use Rattle.std.proofs.Common.{◌≡◌, ℕ, ◌+◌, ◌<◌, nat_lt, Bool, true, false, ◌&&◌, cond, List, [], ◌∷◌, ◌++◌, None, refl, sym, ap, ◌∙◌, arith}
use Rattle.std.specs.Prelude.{nat_le}
use Rattle.std.specs.List.{filter}
use Rattle.std.proofs.lemmas.Bool.{lt-ltb}
use Rattle.std.proofs.lemmas.Bool.Decides.{nat_tests}
use Rattle.keep_repo.specs.Repository.{Repository, held}
use Rattle.keep_change.specs.Change.{is_met}
use Rattle.keep_change.specs.Fold.{Numbered, first_break}
use Rattle.keep_change.specs.Result.{result_of}
use Rattle.keep_change.specs.declared.change.Change.{Change}
use Rattle.keep_change.specs.declared.change.PackMark.{PackMark}
use Rattle.keep_change.proofs.Law.{no_break}
use Rattle.keep_journal.specs.Event.{committing, emptying, redoing, undoing}
use Rattle.keep_journal.specs.History.{committed, final_number, is_in_force, last_change, IsNumbered}
use Rattle.keep_journal.specs.Journal.{Journal, posted}
use Rattle.keep_journal.specs.Kept.{above, chosen, kept, unfinal, up_to}
use Rattle.keep_journal.proofs.Chosen.{chosen-Commit, chosen-Empty, chosen-Redo, chosen-Undo, chosen_agree, chosen_split}
use Rattle.keep_journal.proofs.Commits.{final_number-push}
use Rattle.keep_journal.proofs.Filters.{filter-filter}

-- ---- one more event

pub unfinal-Commit : (j : Journal) (k n : ℕ) (c : Change) → IsNumbered j → n ≡ last_change j + 1
    → unfinal (posted j k (committing n c)) ≡ unfinal j ++ record { number = n; change = c } ∷ []
unfinal-Commit j k n c h next =
    ap (above (posted j k (committing n c))) (final_number-push j k (committing n c))
    ∙ chosen-Commit (nat_lt (final_number j)) j k n c
    ∙ ap (λ b. unfinal j ++ cond b (record { number = n; change = c } ∷ []) []) (lt-ltb (final_number j) n (omega (arith, h.last_final)))

pub unfinal-Undo : (j : Journal) (k n : ℕ) → unfinal (posted j k (undoing n)) ≡ unfinal j
unfinal-Undo j k n = ap (above (posted j k (undoing n))) (final_number-push j k (undoing n)) ∙ chosen-Undo (nat_lt (final_number j)) j k n

pub unfinal-Redo : (j : Journal) (k n : ℕ) → unfinal (posted j k (redoing n)) ≡ unfinal j
unfinal-Redo j k n = ap (above (posted j k (redoing n))) (final_number-push j k (redoing n)) ∙ chosen-Redo (nat_lt (final_number j)) j k n

pub unfinal-Empty : (j : Journal) (k n : ℕ) (marks : List PackMark) → unfinal (posted j k (emptying n marks)) ≡ above j n
unfinal-Empty j k n marks = ap (above (posted j k (emptying n marks))) (final_number-push j k (emptying n marks)) ∙ chosen-Empty (nat_lt n) j k n marks

-- ---- those that an emptying makes final

-- they come first
abbrev pub becoming_final : Journal → ℕ → List Numbered
becoming_final j n = chosen (λ m. nat_lt (final_number j) m && nat_le m n) j

above_both : (f n m : ℕ) → f < n → (nat_lt f m && nat_lt n m) ≡ nat_lt n m
above_both f n m lt = grind (arith, nat_tests)

pub unfinal_split : (j : Journal) (n : ℕ) → IsNumbered j → final_number j < n → unfinal j ≡ becoming_final j n ++ above j n
unfinal_split j n h lt =
    chosen_split (nat_lt (final_number j)) j n h
    ∙ ap (λ ns. becoming_final j n ++ ns) (chosen_agree (λ m. nat_lt (final_number j) m && nat_lt n m) (nat_lt n) j (λ m. above_both (final_number j) n m lt))

-- ---- those in force

turned_round : (a b : Bool) → (a && b) ≡ (b && a)
turned_round true true = refl
turned_round true false = refl
turned_round false true = refl
turned_round false false = refl

last_first : (a b c : Bool) → ((a && b) && c) ≡ ((b && c) && a)
last_first true b c = turned_round true (b && c)
last_first false b c = turned_round false (b && c)

pub kept_selected : (j : Journal) → kept j ≡ filter (λ n. is_in_force j n.number) (unfinal j)
kept_selected j =
    chosen_agree (λ m. is_in_force j m && nat_lt (final_number j) m) (λ m. nat_lt (final_number j) m && is_in_force j m) j
    (λ m. turned_round (is_in_force j m) (nat_lt (final_number j) m))
    ∙ sym (filter-filter (λ (n : Numbered). is_in_force j n.number) (λ n. nat_lt (final_number j) n.number) (committed j))

pub up_to_selected : (j : Journal) (n : ℕ) → up_to j n ≡ filter (λ m. is_in_force j m.number) (becoming_final j n)
up_to_selected j n =
    chosen_agree (λ m. (is_in_force j m && nat_lt (final_number j) m) && nat_le m n) (λ m. (nat_lt (final_number j) m && nat_le m n) && is_in_force j m) j
    (λ m. last_first (is_in_force j m) (nat_lt (final_number j) m) (nat_le m n))
    ∙ sym (filter-filter (λ (m : Numbered). is_in_force j m.number) (λ m. nat_lt (final_number j) m.number && nat_le m.number n) (committed j))

-- ---- folds

-- what has no break has none in its front
pub break_front : (xs ys : List Numbered) (r : Repository) → first_break (xs ++ ys) r ≡ None → first_break xs r ≡ None
break_front [] ys r none = refl
break_front (x ∷ xs) ys r none =
    let parts = no_break (is_met (held r) x.change) (first_break (xs ++ ys) (result_of x.change r)) x.number none in
    let rest = break_front xs ys (result_of x.change r) parts.1 in
    rw (parts.0, rest) refl
