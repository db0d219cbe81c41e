-- What the first line of some bytes is, where they come in two pieces.
use Rattle.std.proofs.Common.{◌≡◌, ℕ, ◌+◌, ◌<◌, ◌≤◌, true, not, nat_lt, Some, None, inl, inr, List, ◌++◌, length, refl, sym, ◌∙◌, arith}
use Rattle.std.proofs.lemmas.Grind.{common_steps}
use Rattle.std.proofs.lemmas.Bool.Decides.{nat_tests}
use Rattle.std.proofs.lemmas.List.Sums.{prefix_len-le-length, position_or_len_is}
use Rattle.std.proofs.lemmas.List.Quantifiers.{position-Some}
use Rattle.std.proofs.Math.Seq.{drop-append-add, take-append-add}
use Rattle.std.proofs.lemmas.Bool.{cases_lt}
use Rattle.std.proofs.lemmas.List.Folds.{prefix_len-append}
use Rattle.std.specs.List.{after_first, before_first, position, position_or_len}
use Rattle.keep_script.specs.Line.{HasLineEnd, is_line_end}

-- the first place is within the bytes
pub position_or_len-le : (xs : List ℕ) → position_or_len is_line_end xs ≤ length xs
position_or_len-le xs = prefix_len-le-length (λ b. not (is_line_end b)) xs

-- a first piece without a line end is passed by
pub position_or_len-past : (xs ys : List ℕ) → position_or_len is_line_end xs ≡ length xs → position_or_len is_line_end (xs ++ ys) ≡ length xs + position_or_len is_line_end ys
position_or_len-past xs ys none =
    let split = prefix_len-append (λ b. not (is_line_end b)) xs ys in
    grind (arith, nat_tests, split, none)

-- a first piece with a line end has the first one
pub position_or_len-within : (xs ys : List ℕ) → HasLineEnd xs → position_or_len is_line_end (xs ++ ys) ≡ position_or_len is_line_end xs
position_or_len-within xs ys some =
    let split = prefix_len-append (λ b. not (is_line_end b)) xs ys in
    grind (arith, nat_tests, split, some)

pub before_first-past : (xs ys : List ℕ) → position_or_len is_line_end xs ≡ length xs → before_first is_line_end (xs ++ ys) ≡ xs ++ before_first is_line_end ys
before_first-past xs ys none = rw (position_or_len-past xs ys none) (take-append-add xs ys (position_or_len is_line_end ys))

pub after_first-past : (xs ys : List ℕ) → position_or_len is_line_end xs ≡ length xs → after_first is_line_end (xs ++ ys) ≡ after_first is_line_end ys
after_first-past xs ys none =
    let further : length xs + position_or_len is_line_end ys + 1 ≡ length xs + (position_or_len is_line_end ys + 1) = omega arith in
    rw (position_or_len-past xs ys none) (rw further (drop-append-add xs ys (position_or_len is_line_end ys + 1)))

pub before_first-within : (xs ys : List ℕ) → HasLineEnd xs → before_first is_line_end (xs ++ ys) ≡ before_first is_line_end xs
before_first-within xs ys some = rw (position_or_len-within xs ys some) (grind (arith, common_steps))

pub after_first-within : (xs ys : List ℕ) → HasLineEnd xs → after_first is_line_end (xs ++ ys) ≡ after_first is_line_end xs ++ ys
after_first-within xs ys some = rw (position_or_len-within xs ys some) (grind (arith, common_steps))

-- the place that a search finds
pub place-found : (xs : List ℕ) (k : ℕ) → position is_line_end xs ≡ Some k → k ≡ position_or_len is_line_end xs
place-found xs k h =
    let at = position-Some is_line_end xs k 0 h in
    let below : k < length xs = at.0 in
    sym (position_or_len_is is_line_end xs k 0 (omega arith) at.2 (λ _. at.1))

-- a search finds none where there is none
pub place-none : (xs : List ℕ) → position is_line_end xs ≡ None → length xs ≡ position_or_len is_line_end xs
place-none xs h =
    let within = position_or_len-le xs in
    elim (cases_lt (position_or_len is_line_end xs) (length xs)) [
      | inl some ↦
          let test : nat_lt (position_or_len is_line_end xs) (length xs) ≡ true = grind (arith, nat_tests) in
          let found : position is_line_end xs ≡ Some (position_or_len is_line_end xs) = rw test refl in
          cc (sym h ∙ found)
      | inr none ↦ omega arith
    ]
