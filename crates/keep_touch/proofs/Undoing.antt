-- What a journal says once some of its changes are undone.
use Rattle.std.proofs.Common.{◌≡◌, ℕ, ◌+◌, ◌==◌, Bool, true, false, ◌&&◌, ◌||◌, not, List, [], ◌∷◌, refl, ap, ◌∙◌, arith}
use Rattle.std.specs.List.{filter, find}
use Rattle.std.specs.Option.{option_map}
use Rattle.std.proofs.lemmas.Bool.Decides.{nat_tests}
use Rattle.keep_change.specs.Fold.{Numbered}
use Rattle.keep_journal.specs.Event.{undoing}
use Rattle.keep_journal.specs.History.{change_of, committed, length_of}
use Rattle.keep_journal.specs.Journal.{Journal, posted}
use Rattle.keep_journal.specs.Kept.{chosen, is_kept}
use Rattle.keep_journal.proofs.Chosen.{chosen_agree}
use Rattle.keep_journal.proofs.Commits.{committed-Undo}
use Rattle.keep_journal.proofs.Kept.{is_kept-Undo}
use Rattle.keep_touch.specs.Taken.{is_one_of}
use Rattle.keep_touch.specs.Undone.{undone_in, UndosLeaveTheOthers}

-- ---- tests

eq_swap : (a b : ℕ) → (a == b) ≡ (b == a)
eq_swap a b = grind (arith, nat_tests)

and_true : (a : Bool) → a ≡ (a && true)
and_true true = refl
and_true false = refl

neither : (k e r : Bool) → ((k && not e) && not r) ≡ (k && not (e || r))
neither true true r = refl
neither true false r = refl
neither false e r = refl

-- ---- what is said of each change

pub committed-undone : (j : Journal) (numbers : List ℕ) → committed (undone_in j numbers) ≡ committed j
committed-undone j [] = refl
committed-undone j (m ∷ ms) =
    committed-undone (posted j (length_of j + 1) (undoing m)) ms ∙ committed-Undo j (length_of j + 1) m

pub change_of-undone : (j : Journal) (numbers : List ℕ) (m : ℕ) → change_of (undone_in j numbers) m ≡ change_of j m
change_of-undone j numbers m = ap (λ ns. option_map (λ c. c.change) (find (λ c. c.number == m) ns)) (committed-undone j numbers)

-- ---- which changes are kept

pub is_kept-undone : (j : Journal) (numbers : List ℕ) (m : ℕ) → is_kept (undone_in j numbers) m ≡ (is_kept j m && not (is_one_of numbers m))
is_kept-undone j [] m = and_true (is_kept j m)
is_kept-undone j (x ∷ xs) m =
    is_kept-undone (posted j (length_of j + 1) (undoing x)) xs m
    ∙ ap (λ b. b && not (is_one_of xs m)) (is_kept-Undo j (length_of j + 1) x m ∙ ap (λ b. is_kept j m && not b) (eq_swap m x))
    ∙ neither (is_kept j m) (x == m) (is_one_of xs m)

pub chosen-undone : (test : ℕ → Bool) (j : Journal) (numbers : List ℕ) → chosen test (undone_in j numbers) ≡ chosen test j
chosen-undone test j numbers = ap (filter (λ (c : Numbered). test c.number)) (committed-undone j numbers)

pub kept-undone : UndosLeaveTheOthers
kept-undone j numbers =
    chosen-undone (is_kept (undone_in j numbers)) j numbers
    ∙ chosen_agree (is_kept (undone_in j numbers)) (λ m. is_kept j m && not (is_one_of numbers m)) j (is_kept-undone j numbers)
