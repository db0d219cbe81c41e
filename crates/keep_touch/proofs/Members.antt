-- The changes that are taken back, and lists of numbers that fall.
use Rattle.std.proofs.Common.{◌≡◌, ℕ, ◌+◌, ◌<◌, ◌≤◌, ◌==◌, nat_lt, true, List, [], ◌∷◌, Option, Some, None, ◌⊎◌, inl, inr, is_some, refl, sym, ap, ap₂, arith}
use Rattle.std.proofs.lemmas.Bool.{and_parts, eq-eqb, eqb-true, false≢true, ltb-true, or_cases, or_left, or_right}
use Rattle.keep_journal.specs.History.{final_number, is_change, is_in_force, last_change, IsNumbered}
use Rattle.keep_journal.specs.Journal.{Journal}
use Rattle.keep_journal.specs.Kept.{is_kept, kept_change}
use Rattle.keep_journal.proofs.Commits.{some_change, within_journal}
use Rattle.keep_journal.proofs.Later.{a_kept_change}
use Rattle.keep_journal.proofs.Numbers.{is_change_parts}
use Rattle.keep_touch.specs.Taken.{is_one_of, itself, leaning, FallFrom, IsTaken, OneListIsTaken, TakenIsLeast}

-- ---- numbers of a list

pub one_cases : (x : ℕ) (xs : List ℕ) (m : ℕ) → is_one_of (x ∷ xs) m ≡ true → (x ≡ m) ⊎ (is_one_of xs m ≡ true)
one_cases x xs m h = elim (or_cases (x == m) (is_one_of xs m) h) [
  | inl here ↦ inl (eqb-true x m here)
  | inr there ↦ inr there
]

pub one_itself : (m : ℕ) (xs : List ℕ) → is_one_of (m ∷ xs) m ≡ true
one_itself m xs = or_left (m == m) (is_one_of xs m) (eq-eqb m m refl)

pub one_more : (x : ℕ) (xs : List ℕ) (m : ℕ) → is_one_of xs m ≡ true → is_one_of (x ∷ xs) m ≡ true
one_more x xs m h = or_right (x == m) (is_one_of xs m) h

-- all numbers of a list that falls from k are below k
pub fall_below : (k : ℕ) (xs : List ℕ) → FallFrom k xs → (m : ℕ) → is_one_of xs m ≡ true → m < k
fall_below k [] falls m h = absurd (false≢true h)
fall_below k (x ∷ xs) falls m h = elim (one_cases x xs m h) [
  | inl here ↦ omega (arith, falls.0)
  | inr there ↦ omega (arith, falls.0, fall_below x xs falls.1 m there)
]

pub fall_higher : (k l : ℕ) (xs : List ℕ) → k ≤ l → FallFrom k xs → FallFrom l xs
fall_higher k l [] le falls = tt
fall_higher k l (x ∷ xs) le falls = (omega (arith, falls.0), falls.1)

-- of two falling lists of the same numbers the first ones are the same
same_first : (x y : ℕ) (xs ys : List ℕ) → FallFrom x xs → FallFrom y ys → is_one_of (y ∷ ys) x ≡ true → is_one_of (x ∷ xs) y ≡ true → x ≡ y
same_first x y xs ys f g there back = elim (one_cases y ys x there) [
  | inl same ↦ sym same
  | inr below ↦ elim (one_cases x xs y back) [
    | inl same ↦ same
    | inr other ↦ absurd (omega (arith, fall_below y ys g x below, fall_below x xs f y other))
  ]
]

-- and a number below it is in the rest of both
in_rest : (x y : ℕ) (xs ys : List ℕ) → x ≡ y → FallFrom x xs → ((m : ℕ) → is_one_of (x ∷ xs) m ≡ true → is_one_of (y ∷ ys) m ≡ true)
    → (m : ℕ) → is_one_of xs m ≡ true → is_one_of ys m ≡ true
in_rest x y xs ys same f there m h = elim (one_cases y ys m (there m (one_more x xs m h))) [
  | inl first ↦ absurd (omega (arith, fall_below x xs f m h))
  | inr rest ↦ rest
]

-- two falling lists of the same numbers are one
same_numbers : (k l : ℕ) (xs ys : List ℕ) → FallFrom k xs → FallFrom l ys
    → ((m : ℕ) → is_one_of xs m ≡ true → is_one_of ys m ≡ true) → ((m : ℕ) → is_one_of ys m ≡ true → is_one_of xs m ≡ true) → xs ≡ ys
same_numbers k l [] [] f g there back = refl
same_numbers k l [] (y ∷ ys) f g there back = absurd (false≢true (back y (one_itself y ys)))
same_numbers k l (x ∷ xs) [] f g there back = absurd (false≢true (there x (one_itself x xs)))
same_numbers k l (x ∷ xs) (y ∷ ys) f g there back =
    let same : x ≡ y = same_first x y xs ys f.1 g.1 (there x (one_itself x xs)) (back y (one_itself y ys)) in
    ap₂ (λ (z : ℕ) (zs : List ℕ). z ∷ zs) same
    (same_numbers x y xs ys f.1 g.1 (in_rest x y xs ys same f.1 there) (in_rest y x ys xs (sym same) g.1 back))

-- ---- the changes that are taken back

pub taken_is_least : TakenIsLeast
taken_is_least j n has first closed _ itself = first
taken_is_least j n has first closed _ (leaning k m taken leans) = closed k m (taken_is_least j n has first closed k taken) leans

pub one_list : OneListIsTaken
one_list j n xs ys one other =
    same_numbers (last_change j + 1) (last_change j + 1) xs ys one.down other.down
    (λ m h. other.all m (one.each m h)) (λ m h. one.all m (other.each m h))

-- where n is in force and not final, they all are
pub taken_kept : (j : Journal) (n : ℕ) → is_some (kept_change j n) ≡ true → (m : ℕ) → IsTaken j n m → is_some (kept_change j m) ≡ true
taken_kept j n first _ itself = first
taken_kept j n first _ (leaning k m taken leans) = ap is_some leans.is_m

some_of : {X : Type 0} (o : Option X) → is_some o ≡ true → (x : X) × (o ≡ Some x)
some_of None h = absurd (false≢true h)
some_of (Some x) h = (x, refl)

-- a change in force is none after the last one
pub kept_within : (j : Journal) (m : ℕ) → IsNumbered j → is_some (kept_change j m) ≡ true → m ≤ last_change j
kept_within j m numbered h =
    let it = some_of (kept_change j m) h in
    (within_journal j m it.0 numbered (a_kept_change j m it.0 it.1).1).1

pub kept_is_there : (j : Journal) (n : ℕ) → IsNumbered j → is_change j n ≡ true → is_kept j n ≡ true → is_some (kept_change j n) ≡ true
kept_is_there j n numbered change kept =
    let above : nat_lt (final_number j) n ≡ true = (and_parts (is_in_force j n) (nat_lt (final_number j) n) kept).1 in
    let it = some_change j n numbered (omega (arith, ltb-true (final_number j) n above, numbered.first_final)) (is_change_parts j n change).1 in
    rw kept (ap is_some it.1)
