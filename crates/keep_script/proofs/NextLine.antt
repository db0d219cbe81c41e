-- What the next line of known bytes is, where they are gathered piece by piece.
use Rattle.std.proofs.Common.{◌≡◌, ℕ, suc, ◌+◌, ◌<◌, ◌≤◌, List, [], ◌∷◌, ◌++◌, Option, Some, None, length, take, drop, inl, inr, sym, ap, subst, ◌∙◌, append_assoc, arith}
use Rattle.std.proofs.lemmas.Bool.{cases_Bool, cases_lt, eqb-true}
use Rattle.std.proofs.lemmas.List.{take-append-drop}
use Rattle.std.proofs.Math.ListN.{drop_of_length-le}
use Rattle.std.proofs.Math.Seq.{take-length}
use Rattle.std.proofs.lemmas.List.{length-append}
use Rattle.std.proofs.lemmas.List.Folds.{length-prefix_len}
use Rattle.std.specs.Prelude.{IfSome, not}
use Rattle.std.specs.Io.KnownBytes.{Consumes, prepend_known}
use Rattle.std.specs.List.{after_first, before_first, position_or_len}
use Rattle.keep_script.proofs.FirstLine.{position_or_len-le, position_or_len-past, position_or_len-within}
use Rattle.keep_script.specs.Line.{HasLineEnd, is_line_end}

-- without a line end the first place is the end
pub place-at_end : (xs : List ℕ) → (HasLineEnd xs → ⊥) → position_or_len is_line_end xs ≡ length xs
place-at_end xs none =
    let within = position_or_len-le xs in
    elim (cases_lt (position_or_len is_line_end xs) (length xs)) [ inl some ↦ absurd (none some) | inr end ↦ omega (arith, within) ]

-- then all stands before it, and nothing after it
pub before_first-all : (xs : List ℕ) → (HasLineEnd xs → ⊥) → before_first is_line_end xs ≡ xs
before_first-all xs none = rw (place-at_end xs none) (take-length xs)

after_first-none : (xs : List ℕ) → (HasLineEnd xs → ⊥) → after_first is_line_end xs ≡ []
after_first-none xs none = rw (place-at_end xs none) (drop_of_length-le xs (omega arith))

-- bytes with a line end are what stands before it, it, and what comes after
pub cut : (xs : List ℕ) → HasLineEnd xs → xs ≡ before_first is_line_end xs ++ 10 ∷ after_first is_line_end xs
cut [] some = absurd (omega arith)
cut (b ∷ xs) some = elim (cases_Bool (is_line_end b)) [
  | inl end ↦ rw end (ap (λ n. n ∷ xs) (eqb-true b 10 end))
  | inr other ↦
      let n : ℕ = position_or_len is_line_end xs in
      let h = rw other at some in
      let inner : HasLineEnd xs = omega (arith, h) in
      let front : 1 + n ≡ suc n = omega arith in
      let next : suc n + 1 ≡ suc (n + 1) = omega arith in
      rw (other, front, next) (ap (λ l. b ∷ l) (cut xs inner))
]

-- no line end stands before the first one
pub before_first-none : (xs : List ℕ) → HasLineEnd (before_first is_line_end xs) → ⊥
before_first-none xs some =
    let n : ℕ = position_or_len is_line_end xs in
    let within = position_or_len-within (take n xs) (drop n xs) some in
    let whole = ap (position_or_len is_line_end) (take-append-drop n xs) in
    let size = length-prefix_len (λ b. not (is_line_end b)) xs in
    omega (arith, within, whole, size, some)

-- nor in two pieces without one
pub none-append : (xs ys : List ℕ) → (HasLineEnd xs → ⊥) → (HasLineEnd ys → ⊥) → HasLineEnd (xs ++ ys) → ⊥
none-append xs ys none others some =
    let past = position_or_len-past xs ys (place-at_end xs none) in
    let end = place-at_end ys others in
    let size = length-append xs ys in
    omega (arith, past, end, size, some)

-- what a line gets from the unread bytes has none
pub none-gathered : (line unread line' : List ℕ) → (HasLineEnd line → ⊥) → line' ≡ line ++ before_first is_line_end unread → HasLineEnd line' → ⊥
none-gathered line unread line' none moved some = none-append line (before_first is_line_end unread) none (before_first-none unread) (subst HasLineEnd moved some)

-- the line's end was met: the line and its end were taken
pub Consumes-met : (a r : Option (List ℕ)) (line unread line' unread' : List ℕ) → Consumes a (prepend_known unread r) line → HasLineEnd unread
    → line' ≡ line ++ before_first is_line_end unread → unread' ≡ after_first is_line_end unread
    → Consumes a (prepend_known unread' r) (line' ++ 10 ∷ [])
Consumes-met None r line unread line' unread' split some moved rest = tt
Consumes-met (Some xs) None line unread line' unread' split some moved rest = split
Consumes-met (Some xs) (Some ys) line unread line' unread' split some moved rest =
    let regrouped : line ++ ((before_first is_line_end unread ++ 10 ∷ after_first is_line_end unread) ++ ys) ≡ ((line ++ before_first is_line_end unread) ++ 10 ∷ []) ++ (after_first is_line_end unread ++ ys) = simp append_assoc in
    rw (moved, rest) (split ∙ ap (λ u. line ++ (u ++ ys)) (cut unread some) ∙ regrouped)

-- it was not met: the line goes on
pub Consumes-gathered : (a r : Option (List ℕ)) (line unread line' unread' : List ℕ) → Consumes a (prepend_known unread r) line
    → (HasLineEnd unread → ⊥) → line' ≡ line ++ before_first is_line_end unread → unread' ≡ after_first is_line_end unread
    → Consumes a (prepend_known unread' r) line'
Consumes-gathered None r line unread line' unread' split none moved rest = tt
Consumes-gathered (Some xs) None line unread line' unread' split none moved rest = split
Consumes-gathered (Some xs) (Some ys) line unread line' unread' split none moved rest =
    let all = moved ∙ ap (λ l. line ++ l) (before_first-all unread none) in
    let nothing = rest ∙ after_first-none unread none in
    rw (all, nothing) (split ∙ sym (append_assoc line unread ys))

-- then all that was unread is used, and the line has it
pub used-gathered : (line unread line' unread' : List ℕ) → (HasLineEnd unread → ⊥) → line' ≡ line ++ before_first is_line_end unread → unread' ≡ after_first is_line_end unread
    → (unread' ≡ []) × (length line' ≡ length line + length unread)
used-gathered line unread line' unread' none moved rest =
    let size = length-append line unread in
    let all = ap length (moved ∙ ap (λ l. line ++ l) (before_first-all unread none)) in
    (rest ∙ after_first-none unread none, all ∙ size)

-- more bytes put the first place no nearer
place-grows : (xs ys : List ℕ) → position_or_len is_line_end xs ≤ position_or_len is_line_end (xs ++ ys)
place-grows xs ys =
    let within = position_or_len-le xs in
    elim (cases_lt (position_or_len is_line_end xs) (length xs)) [
      | inl some ↦
          let same = position_or_len-within xs ys some in
          omega (arith, same)
      | inr end ↦
          let none : position_or_len is_line_end xs ≡ length xs = omega (arith, within) in
          let past = position_or_len-past xs ys none in
          omega (arith, past, none)
    ]

-- a line that is too long so far is too long
pub too_long_so_far : (a r : Option (List ℕ)) (line unread : List ℕ) (n : ℕ) → Consumes a (prepend_known unread r) line
    → (HasLineEnd line → ⊥) → n < length line + length (before_first is_line_end unread)
    → IfSome a (λ bytes. n < length (before_first is_line_end bytes))
too_long_so_far None r line unread n split none long = tt
too_long_so_far (Some xs) None line unread n split none long = absurd split
too_long_so_far (Some xs) (Some ys) line unread n split none long =
    let place = ap (position_or_len is_line_end) split ∙ position_or_len-past line (unread ++ ys) (place-at_end line none) in
    let size = length-prefix_len (λ b. not (is_line_end b)) xs in
    let piece = length-prefix_len (λ b. not (is_line_end b)) unread in
    let grows = place-grows unread ys in
    omega (arith, place, size, piece, grows, long)
