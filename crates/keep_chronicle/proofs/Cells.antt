-- The cells of a book, where one is brought home or a new one is added.
use Rattle.std.proofs.Common.{◌≡◌, ◌≢◌, ℕ, zero, suc, ◌<◌, ◌==◌, Bool, true, false, List, [], ◌∷◌, ◌++◌, length, refl, arith}
use Rattle.std.specs.Prelude.{slice_set}
use Rattle.std.proofs.lemmas.Bool.Decides.{nat_tests}
use prog.Atomic.{either}
use Rattle.logbook.specs.Pages.{Cell, cell}

-- what an exchange of 1 by 1 makes of a number
abbrev pub same : ℕ → ℕ
same n = either (n == 1) 1 n

same_is : (n : ℕ) (b : Bool) → (n == 1) ≡ b → same n ≡ n
same_is n true is = let one : n ≡ 1 = grind (arith, nat_tests) in rw (is, one) refl
same_is n false is = rw is refl

-- the first cell with its own value, at home
pub put_back : (cs : List Cell) → (cell cs 0).1 ≡ true → slice_set cs 0 ((cell cs 0).0, true) ≡ cs
put_back [] home = refl
put_back (c ∷ cs) home = rw (← home) refl

-- what such an exchange leaves of the cells
pub unmoved : (cs : List Cell) → (cell cs 0).1 ≡ true → slice_set cs 0 (same (cell cs 0).0, true) ≡ cs
unmoved cs home = rw (same_is (cell cs 0).0 ((cell cs 0).0 == 1) refl) (put_back cs home)

-- what is at home stays there where a cell is brought home
pub set_rises : (cs : List Cell) (i n k : ℕ) → (cell cs k).1 ≡ true → (cell (slice_set cs i (n, true)) k).1 ≡ true
set_rises [] i n k home = home
set_rises (c ∷ cs) zero n zero home = refl
set_rises (c ∷ cs) zero n (suc k) home = home
set_rises (c ∷ cs) (suc i) n zero home = home
set_rises (c ∷ cs) (suc i) n (suc k) home = set_rises cs i n k home

-- the one that is brought home is there
pub set_home : (cs : List Cell) (i n : ℕ) → i < length cs → (cell (slice_set cs i (n, true)) i).1 ≡ true
set_home [] i n within = absurd (omega arith)
set_home (c ∷ cs) zero n within = refl
set_home (c ∷ cs) (suc i) n within = set_home cs i n (omega arith)

-- any but the first leaves the first as it is
pub set_first : (cs : List Cell) (i n : ℕ) → i ≢ 0 → cell (slice_set cs i (n, true)) 0 ≡ cell cs 0
set_first [] i n other = refl
set_first (c ∷ cs) zero n other = absurd (other refl)
set_first (c ∷ cs) (suc i) n other = refl

-- what is at home stays there where a cell is added
pub new_rises : (cs : List Cell) (k : ℕ) → (cell cs k).1 ≡ true → (cell (cs ++ (0, false) ∷ []) k).1 ≡ true
new_rises [] zero home = absurd cc
new_rises [] (suc k) home = absurd cc
new_rises (c ∷ cs) zero home = home
new_rises (c ∷ cs) (suc k) home = new_rises cs k home

-- it leaves the first
pub new_first : (cs : List Cell) → 0 < length cs → cell (cs ++ (0, false) ∷ []) 0 ≡ cell cs 0
new_first [] some = absurd (omega arith)
new_first (c ∷ cs) some = refl

-- the first with another value
pub set_zero : (cs : List Cell) (n : ℕ) → 0 < length cs → (cell (slice_set cs 0 (n, true)) 0).0 ≡ n
set_zero [] n some = absurd (omega arith)
set_zero (c ∷ cs) n some = refl
