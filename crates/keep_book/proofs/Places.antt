-- What stands at the place that a search finds.
use Rattle.std.proofs.Common.{◌≡◌, ◌∙◌, ℕ, ◌+◌, ◌-◌, ◌<◌, ◌≤◌, Bool, true, false, List, [], ◌∷◌, Some, None, ap, arith, cond, get_or, length, map, refl, sym}
use native.Mathlib.Numerals.{unary_clauses}
use Rattle.std.specs.List.{find, position_from}
use Rattle.std.specs.Option.{option_map}
use Rattle.keep_change.specs.declared.outline.Outline.{Outline}
use Rattle.keep_hooks.specs.Guards.{Rule, first_refusing}
use Rattle.keep_hooks.specs.Limits.{refuses}

-- where no place is found, nothing passes
none_found : {X : Type 0} (test : X → Bool) (n : ℕ) (xs : List X) → position_from test n xs ≡ None → find test xs ≡ None
none_found test n [] e = refl
none_found test n (x ∷ xs) e = split (test x) (none_found test (n + 1) xs) e where
  split : (b : Bool) → (position_from test (n + 1) xs ≡ None → find test xs ≡ None)
      → cond b (Some n) (position_from test (n + 1) xs) ≡ None → cond b (Some x) (find test xs) ≡ None
  split true rest h = cc h
  split false rest h = rest h

-- what stands behind the first
get_or-next : {X : Type 0} (x : X) (xs : List X) (k : ℕ) (none : X) → get_or (x ∷ xs) (k + 1) none ≡ get_or xs k none
get_or-next x xs k none = simp unary_clauses refl

-- a place that is found, counted from n, is one of the list's, and what stands there is the first that passes
record Finds {X : Type 0} (test : X → Bool) (n i : ℕ) (xs : List X) : Type 0 where
  pub above : n ≤ i
  pub within : i - n < length xs
  pub first : (none : X) → find test xs ≡ Some (get_or xs (i - n) none)

some_found : {X : Type 0} (test : X → Bool) (n i : ℕ) (xs : List X) → position_from test n xs ≡ Some i → Finds test n i xs
some_found test n i [] e = cc e
some_found {X} test n i (x ∷ xs) e = split (test x) refl (some_found test (n + 1) i xs) e where
  split : (b : Bool) → test x ≡ b → (position_from test (n + 1) xs ≡ Some i → Finds test (n + 1) i xs)
      → cond b (Some n) (position_from test (n + 1) xs) ≡ Some i → Finds test n i (x ∷ xs)
  split true is rest h =
      let here : n ≡ i = cc h in
      let start : 0 ≡ i - n = omega arith in
      record {
        above = omega arith;
        within = omega arith;
        first = λ none. rw is refl ∙ ap (λ k. Some (get_or (x ∷ xs) k none)) start;
      }
  split false is rest h =
      let found = rest h in
      let next : (i - (n + 1)) + 1 ≡ i - n = omega (arith, found.above) in
      record {
        above = omega (arith, found.above);
        within = omega (arith, found.above, found.within);
        first = λ none.
            rw is (found.first none) ∙ ap Some (sym (get_or-next x xs (i - (n + 1)) none)) ∙ ap (λ k. Some (get_or (x ∷ xs) k none)) next;
      }

-- the first that refuses is told of what the rules are stored with
first_of_stored : {X : Type 0} (rule : X → Rule) (o : Outline) (xs : List X)
    → first_refusing (map rule xs) o ≡ option_map (λ x. (rule x).name) (find (λ x. refuses (rule x).limit o) xs)
first_of_stored rule o [] = refl
first_of_stored rule o (x ∷ xs) = split (refuses (rule x).limit o) (first_of_stored rule o xs) where
  split : (b : Bool) → first_refusing (map rule xs) o ≡ option_map (λ y. (rule y).name) (find (λ y. refuses (rule y).limit o) xs)
      → option_map (λ (r : Rule). r.name) (cond b (Some (rule x)) (find (λ (r : Rule). refuses r.limit o) (map rule xs)))
      ≡ option_map (λ y. (rule y).name) (cond b (Some x) (find (λ y. refuses (rule y).limit o) xs))
  split true rest = refl
  split false rest = rest

pub none_refuses : {X : Type 0} (rule : X → Rule) (o : Outline) (xs : List X) → position_from (λ x. refuses (rule x).limit o) 0 xs ≡ None
    → first_refusing (map rule xs) o ≡ None
none_refuses rule o xs e = first_of_stored rule o xs ∙ rw (none_found (λ x. refuses (rule x).limit o) 0 xs e) refl

pub one_refuses : {X : Type 0} (rule : X → Rule) (o : Outline) (i : ℕ) (xs : List X) → position_from (λ x. refuses (rule x).limit o) 0 xs ≡ Some i
    → (i < length xs) × ((none : X) → first_refusing (map rule xs) o ≡ Some (rule (get_or xs i none)).name)
one_refuses rule o i xs e =
    let found = some_found (λ x. refuses (rule x).limit o) 0 i xs e in
    let start : i - 0 ≡ i = omega arith in (
      omega (arith, found.within),
      λ none. first_of_stored rule o xs ∙ rw (found.first none) refl ∙ ap (λ k. Some (rule (get_or xs k none)).name) start,
    )
