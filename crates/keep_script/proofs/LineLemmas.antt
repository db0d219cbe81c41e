-- What the lines of some bytes are.
use Rattle.std.proofs.Common.{◌≡◌, ℕ, ◌<◌, List, [], ◌∷◌, ◌++◌, Option, Some, None, IfSome, true, false, length, inl, inr, refl, sym, ap, ◌∙◌, append_assoc, append-nil, arith}
use Rattle.std.proofs.lemmas.Bool.{cases_Bool, cases_lt}
use Rattle.std.specs.Io.KnownBytes.{Consumes, IsAtEnd, prepend_known}
use Rattle.std.specs.List.{AllByRecursion, after_first, before_first, position_or_len}
use Rattle.keep_script.proofs.NextLine.{before_first-all, before_first-none, cut}
use Rattle.keep_script.specs.Line.{HasLineEnd, ended, is_line_end, lines_of, onto_first}

-- the byte in front of others that have no line end isn't one, nor has what follows one
first_other : (b : ℕ) (bytes : List ℕ) → (HasLineEnd (b ∷ bytes) → ⊥) → is_line_end b ≡ true → ⊥
first_other b bytes none end = none (rw end (omega arith))

rest_none : (b : ℕ) (bytes : List ℕ) → (HasLineEnd (b ∷ bytes) → ⊥) → is_line_end b ≡ false → HasLineEnd bytes → ⊥
rest_none b bytes none other some = none (rw other (omega (arith, some)))

-- a line that has its end is the first
pub lines_of-ended : (line rest : List ℕ) → (HasLineEnd line → ⊥) → lines_of (line ++ 10 ∷ rest) ≡ line ∷ lines_of rest
lines_of-ended [] rest none = refl
lines_of-ended (b ∷ line) rest none = elim (cases_Bool (is_line_end b)) [
  | inl end ↦ absurd (first_other b line none end)
  | inr other ↦ rw other (ap (onto_first b) (lines_of-ended line rest (rest_none b line none other)))
]

-- some bytes without a line end are one line
pub lines_of-last : (b : ℕ) (line : List ℕ) → (HasLineEnd (b ∷ line) → ⊥) → lines_of (b ∷ line) ≡ (b ∷ line) ∷ []
lines_of-last b [] none = elim (cases_Bool (is_line_end b)) [
  | inl end ↦ absurd (first_other b [] none end)
  | inr other ↦ rw other refl
]
lines_of-last b (d ∷ line) none = elim (cases_Bool (is_line_end b)) [
  | inl end ↦ absurd (first_other b (d ∷ line) none end)
  | inr other ↦ rw other (ap (onto_first b) (lines_of-last d line (rest_none b (d ∷ line) none other)))
]

-- lines with their ends are the first ones
pub lines_of-front : (lines : List (List ℕ)) (rest : List ℕ) → AllByRecursion (λ line. HasLineEnd line → ⊥) lines → lines_of (ended lines ++ rest) ≡ lines ++ lines_of rest
lines_of-front [] rest each = refl
lines_of-front (line ∷ lines) rest each =
    let regrouped : ((line ++ 10 ∷ []) ++ ended lines) ++ rest ≡ line ++ 10 ∷ (ended lines ++ rest) = simp append_assoc in
    ap lines_of regrouped ∙ lines_of-ended line (ended lines ++ rest) each.0 ∙ ap (λ l. line ∷ l) (lines_of-front lines rest each.1)

-- what stands before the first line end is the first line
pub lines_of-first : (b : ℕ) (bytes : List ℕ) → (more : List (List ℕ)) × (lines_of (b ∷ bytes) ≡ before_first is_line_end (b ∷ bytes) ∷ more)
lines_of-first b bytes = elim (cases_lt (position_or_len is_line_end (b ∷ bytes)) (length (b ∷ bytes))) [
  | inl some ↦
      let line = before_first is_line_end (b ∷ bytes) in
      let rest = after_first is_line_end (b ∷ bytes) in
      (lines_of rest, ap lines_of (cut (b ∷ bytes) some) ∙ lines_of-ended line rest (before_first-none (b ∷ bytes)))
  | inr end ↦
      let none : HasLineEnd (b ∷ bytes) → ⊥ = λ some. omega (arith, some, end) in
      ([], lines_of-last b bytes none ∙ ap (λ l. l ∷ []) (sym (before_first-all (b ∷ bytes) none)))
]

-- known bytes begin with this line
abbrev pub Starts : Option (List ℕ) → List ℕ → Type 0
Starts known line = IfSome known (λ bytes. (more : List (List ℕ)) × (lines_of bytes ≡ line ∷ more))

-- they do where the line was taken with its end
pub Starts-ended : (left ahead : Option (List ℕ)) (line : List ℕ) → (HasLineEnd line → ⊥) → Consumes left ahead (line ++ 10 ∷ []) → Starts left line
Starts-ended None ahead line none taken = tt
Starts-ended (Some xs) None line none taken = absurd taken
Starts-ended (Some xs) (Some ys) line none taken = (lines_of ys, ap lines_of (taken ∙ append_assoc line (10 ∷ []) ys) ∙ lines_of-ended line ys none)

-- or was all that was left
pub Starts-last : (left ahead : Option (List ℕ)) (line : List ℕ) → 0 < length line → (HasLineEnd line → ⊥) → Consumes left ahead line → IsAtEnd ahead → Starts left line
Starts-last None ahead line some none taken end = tt
Starts-last (Some xs) None line some none taken end = absurd taken
Starts-last (Some xs) (Some ys) [] some none taken end = absurd (omega arith)
Starts-last (Some xs) (Some ys) (b ∷ line) some none taken end =
    let all : xs ≡ b ∷ line = taken ∙ ap (λ l. (b ∷ line) ++ l) end ∙ append-nil (b ∷ line) in
    ([], ap lines_of all ∙ lines_of-last b line none)

-- a reader is at its end where nothing is left
pub IsAtEnd-read : (unread : List ℕ) (r : Option (List ℕ)) → IsAtEnd (prepend_known unread r) → IsAtEnd r
IsAtEnd-read unread None h = tt
IsAtEnd-read [] (Some ys) h = h
IsAtEnd-read (x ∷ unread) (Some ys) h = cc h
