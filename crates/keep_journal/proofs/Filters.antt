-- What a filter leaves of a list.
use Rattle.std.proofs.Common.{◌≡◌, Bool, true, false, ◌&&◌, cond, List, [], ◌∷◌, Some, refl, sym, ap, ap₂, ◌∙◌}
use Rattle.std.specs.List.{filter, find, fold}

-- what holds either way
pub either : {X : Type 0} (P : X → Type 0) (b : Bool) (x y : X) → P x → P y → P (cond b x y)
either P true x y p q = p
either P false x y p q = q

-- one after another
pub filter-filter : {X : Type 0} (p q : X → Bool) (xs : List X) → filter p (filter q xs) ≡ filter (λ x. q x && p x) xs
filter-filter p q [] = refl
filter-filter p q (x ∷ xs) = by (q x) (filter-filter p q xs)
  where
    by : (a : Bool) → filter p (filter q xs) ≡ filter (λ x. q x && p x) xs
        → filter p (cond a (x ∷ filter q xs) (filter q xs)) ≡ cond (a && p x) (x ∷ filter (λ x. q x && p x) xs) (filter (λ x. q x && p x) xs)
    by true rest = ap (λ ys. cond (p x) (x ∷ ys) ys) rest
    by false rest = rest

-- the first one that is left and passes a test
pub find-filter : {X : Type 0} (p q : X → Bool) (xs : List X) → find p (filter q xs) ≡ find (λ x. q x && p x) xs
find-filter p q [] = refl
find-filter p q (x ∷ xs) = by (q x) (find-filter p q xs)
  where
    by : (a : Bool) → find p (filter q xs) ≡ find (λ x. q x && p x) xs
        → find p (cond a (x ∷ filter q xs) (filter q xs)) ≡ cond (a && p x) (Some x) (find (λ x. q x && p x) xs)
    by true rest = ap (cond (p x) (Some x)) rest
    by false rest = rest

-- tests that agree find the same
pub find_agree : {X : Type 0} (p q : X → Bool) → ((x : X) → p x ≡ q x) → (xs : List X) → find p xs ≡ find q xs
find_agree p q agree [] = refl
find_agree p q agree (x ∷ xs) = ap₂ (λ b o. cond b (Some x) o) (agree x) (find_agree p q agree xs)

-- steps that change nothing can be left out
pub fold-filter : {A B : Type 0} (step : A → B → A) (p : B → Bool) → ((a : A) (x : B) → p x ≡ false → step a x ≡ a)
    → (xs : List B) (a : A) → fold step a (filter p xs) ≡ fold step a xs
fold-filter step p idle [] a = refl
fold-filter step p idle (x ∷ xs) a = by (p x) refl (λ b. fold-filter step p idle xs b)
  where
    by : (b : Bool) → p x ≡ b → ((c : _) → fold step c (filter p xs) ≡ fold step c xs)
        → fold step a (cond b (x ∷ filter p xs) (filter p xs)) ≡ fold step (step a x) xs
    by true passes rest = rest (step a x)
    by false fails rest = rest a ∙ ap (λ c. fold step c xs) (sym (idle a x fails))
