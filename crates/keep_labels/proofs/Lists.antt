-- Tests and counts over lists.
use Rattle.std.proofs.Common.{◌≡◌, ◌+◌, Bool, true, false, cond, ◌&&◌, ◌||◌, List, [], ◌∷◌, ◌++◌, filter, count_by, refl, sym, ap, ap₂, ◌∙◌, true≢false}
use Rattle.std.proofs.lemmas.List.Sums.{sum_by-cons}
use Rattle.std.specs.List.{AllByRecursion, list_any}

pub or_false : (b : Bool) → (b || false) ≡ b
or_false true = refl
or_false false = refl

pub and_when : (b u v : Bool) → (b ≡ true → u ≡ v) → (b && u) ≡ (b && v)
and_when true u v h = h refl
and_when false u v h = refl

first_none : (a b : Bool) → (a || b) ≡ false → a ≡ false
first_none true b h = absurd (true≢false h)
first_none false b h = refl

rest_none : (a b : Bool) → (a || b) ≡ false → b ≡ false
rest_none true b h = absurd (true≢false h)
rest_none false b h = h

or_weaker : (a b : Bool) → (a ≡ true → b ≡ true) → (a || b) ≡ b
or_weaker true b h = sym (h refl)
or_weaker false b h = refl

module _ {X : Type 0} where
  pub all_always : (P : X → Type 0) → ((t : X) → P t) → (xs : List X) → AllByRecursion P xs
  all_always P f [] = tt
  all_always P f (x ∷ xs) = (f x, all_always P f xs)

  pub all_with : (P Q : X → Type 0) → ((t : X) → P t → Q t) → (xs : List X) → AllByRecursion P xs → AllByRecursion Q xs
  all_with P Q f [] all = tt
  all_with P Q f (x ∷ xs) all = (f x all.0, all_with P Q f xs all.1)

  pub all_both : (P Q S : X → Type 0) → ((t : X) → P t → Q t → S t) → (xs : List X) → AllByRecursion P xs → AllByRecursion Q xs → AllByRecursion S xs
  all_both P Q S f [] ps qs = tt
  all_both P Q S f (x ∷ xs) ps qs = (f x ps.0 qs.0, all_both P Q S f xs ps.1 qs.1)

  pub all_at : (P : X → Type 0) (xs : List X) (x : X) (ys : List X) → AllByRecursion P (xs ++ x ∷ ys) → P x
  all_at P [] x ys all = all.0
  all_at P (t ∷ xs) x ys all = all_at P xs x ys all.1

  pub any_same : (p q : X → Bool) (xs : List X) → AllByRecursion (λ t. p t ≡ q t) xs → list_any p xs ≡ list_any q xs
  any_same p q [] all = refl
  any_same p q (x ∷ xs) all = ap₂ (λ a b. a || b) all.0 (any_same p q xs all.1)

  pub any_none : (p : X → Bool) (xs : List X) → AllByRecursion (λ t. p t ≡ false) xs → list_any p xs ≡ false
  any_none p [] all = refl
  any_none p (x ∷ xs) all = ap₂ (λ a b. a || b) all.0 (any_none p xs all.1)

  pub none_passes : (p : X → Bool) (xs : List X) → list_any p xs ≡ false → AllByRecursion (λ t. p t ≡ false) xs
  none_passes p [] h = tt
  none_passes p (x ∷ xs) h = (first_none (p x) (list_any p xs) h, none_passes p xs (rest_none (p x) (list_any p xs) h))

  -- where one passes only if the last does, the last decides
  pub last_decides : (p : X → Bool) (xs : List X) (l : X) → AllByRecursion (λ t. p t ≡ true → p l ≡ true) xs → list_any p (xs ++ l ∷ []) ≡ p l
  last_decides p [] l all = or_false (p l)
  last_decides p (x ∷ xs) l all = ap (λ b. p x || b) (last_decides p xs l all.1) ∙ or_weaker (p x) (p l) all.0

  pub count_same : (p q : X → Bool) (xs : List X) → AllByRecursion (λ t. p t ≡ q t) xs → count_by p xs ≡ count_by q xs
  count_same p q [] all = refl
  count_same p q (x ∷ xs) all =
      sum_by-cons (λ t. cond (p t) 1 0) x xs ∙ ap₂ (λ b k. cond b 1 0 + k) all.0 (count_same p q xs all.1)
      ∙ sym (sum_by-cons (λ t. cond (q t) 1 0) x xs)

  pub count_none : (p : X → Bool) (xs : List X) → AllByRecursion (λ t. p t ≡ false) xs → count_by p xs ≡ 0
  count_none p [] all = refl
  count_none p (x ∷ xs) all =
      sum_by-cons (λ t. cond (p t) 1 0) x xs ∙ ap₂ (λ b k. cond b 1 0 + k) all.0 (count_none p xs all.1)

  put_same : (a b : Bool) (x : X) (xs ys : List X) → a ≡ b → xs ≡ ys → cond a (x ∷ xs) xs ≡ cond b (x ∷ ys) ys
  put_same a b x xs ys e h = ap₂ (λ t zs. cond t (x ∷ zs) zs) e h

  pub filter_same : (p q : X → Bool) (xs : List X) → AllByRecursion (λ t. p t ≡ q t) xs → filter p xs ≡ filter q xs
  filter_same p q [] all = refl
  filter_same p q (x ∷ xs) all = put_same (p x) (q x) x (filter p xs) (filter q xs) all.0 (filter_same p q xs all.1)

  any_filter_by : (b : Bool) (p : X → Bool) (x : X) (xs : List X) (r : Bool) → list_any p xs ≡ r → list_any p (cond b (x ∷ xs) xs) ≡ (p x && b || r)
  any_filter_by true p x xs r h = ap₂ (λ a c. a || c) (sym (and_true (p x))) h
    where
      and_true : (b : Bool) → (b && true) ≡ b
      and_true true = refl
      and_true false = refl
  any_filter_by false p x xs r h = h ∙ ap (λ a. a || r) (sym (and_false (p x)))
    where
      and_false : (b : Bool) → (b && false) ≡ false
      and_false true = refl
      and_false false = refl

  -- one that passes among those that pass another test
  pub any_filter : (p q : X → Bool) (xs : List X) → list_any p (filter q xs) ≡ list_any (λ x. p x && q x) xs
  any_filter p q [] = refl
  any_filter p q (x ∷ xs) = any_filter_by (q x) p x (filter q xs) (list_any (λ t. p t && q t) xs) (any_filter p q xs)
