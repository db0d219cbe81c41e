-- Lists whose elements are all so, by an order that tells all apart.
use Rattle.std.proofs.Common.{◌≡◌, Bool, true, false, ◌||◌, cond, List, [], ◌∷◌, map, filter, Option, None, Some, Ordering, refl, sym, ap, subst, ◌∙◌}
use Rattle.std.specs.List.{AllByRecursion, cons_option, filter_map, list_any}
use Rattle.std.specs.Ordering.{eq_by_cmp}
use Rattle.keep_names.specs.Laws.{TellsApart}
use Rattle.keep_change.specs.Lists.{AreApart}

module _ {X : Type 0} where
  -- where nothing is asked
  pub each_always : (xs : List X) → AllByRecursion (λ (_ : X). Unit {0}) xs
  each_always [] = tt
  each_always (x ∷ xs) = (tt, each_always xs)

  pub each_so : (P Q : X → Type 0) → ((x : X) → P x → Q x) → (xs : List X) → AllByRecursion P xs → AllByRecursion Q xs
  each_so P Q so [] h = tt
  each_so P Q so (x ∷ xs) h = (so x h.0, each_so P Q so xs h.1)

  pub each_kept : (P : X → Type 0) (p : X → Bool) (xs : List X) → AllByRecursion P xs → AllByRecursion P (filter p xs)
  each_kept P p [] h = tt
  each_kept P p (x ∷ xs) h = cases (each_kept P p xs h.1) (p x) where
    cases : AllByRecursion P (filter p xs) → (b : Bool) → AllByRecursion P (cond b (x ∷ filter p xs) (filter p xs))
    cases rest true = (h.0, rest)
    cases rest false = rest

  pub each_passes : (p : X → Bool) (xs : List X) → AllByRecursion (λ x. p x ≡ true) (filter p xs)
  each_passes p [] = tt
  each_passes p (x ∷ xs) = cases (each_passes p xs) (p x) refl where
    cases : AllByRecursion (λ y. p y ≡ true) (filter p xs) → (b : Bool) → p x ≡ b → AllByRecursion (λ y. p y ≡ true) (cond b (x ∷ filter p xs) (filter p xs))
    cases rest true is = (is, rest)
    cases rest false is = rest

module _ {X Y : Type 0} where
  pub each_mapped : (P : Y → Type 0) (f : X → Y) (xs : List X) → AllByRecursion (λ x. P (f x)) xs → AllByRecursion P (map f xs)
  each_mapped P f [] h = tt
  each_mapped P f (x ∷ xs) h = (h.0, each_mapped P f xs h.1)

  -- what each is made of
  pub each_made : (P : X → Type 0) (Q : Y → Type 0) (f : X → Option Y) → ((x : X) (y : Y) → P x → f x ≡ Some y → Q y) → (xs : List X) → AllByRecursion P xs → AllByRecursion Q (filter_map f xs)
  each_made P Q f so [] h = tt
  each_made P Q f so (x ∷ xs) h = cases (each_made P Q f so xs h.1) (f x) refl where
    cases : AllByRecursion Q (filter_map f xs) → (o : Option Y) → f x ≡ o → AllByRecursion Q (cons_option o (filter_map f xs))
    cases rest None is = rest
    cases rest (Some y) is = (so x y h.0 is, rest)

-- whether one of the mapped passes
pub any_mapped : {X Y : Type 0} (p : Y → Bool) (f : X → Y) (xs : List X) → list_any p (map f xs) ≡ list_any (λ x. p (f x)) xs
any_mapped p f [] = refl
any_mapped p f (x ∷ xs) = ap (λ b. p (f x) || b) (any_mapped p f xs)

module _ {K : Type 0} (R : K → K → Ordering) (apart : TellsApart R) where
  same_refl : (k : K) → eq_by_cmp R k k ≡ true
  same_refl k = (apart k k).1 refl

  -- each of them is among them
  pub each_among : (ks : List K) → AllByRecursion (λ k. list_any (eq_by_cmp R k) ks ≡ true) ks
  each_among [] = tt
  each_among (x ∷ xs) = (
    ap (λ b. b || list_any (eq_by_cmp R x) xs) (same_refl x),
    each_so (λ k. list_any (eq_by_cmp R k) xs ≡ true) (λ k. list_any (eq_by_cmp R k) (x ∷ xs) ≡ true) (λ k h. later k (eq_by_cmp R k x) h) xs (each_among xs),
  ) where
    later : (k : K) (b : Bool) → list_any (eq_by_cmp R k) xs ≡ true → (b || list_any (eq_by_cmp R k) xs) ≡ true
    later k true h = refl
    later k false h = h

  -- what is among them is so
  pub so_at : (P : K → Type 0) (ks : List K) → AllByRecursion P ks → (k : K) → list_any (eq_by_cmp R k) ks ≡ true → P k
  so_at P [] h k among = cc among
  so_at P (x ∷ xs) h k among = cases (so_at P xs h.1 k) (eq_by_cmp R k x) refl among where
    cases : (list_any (eq_by_cmp R k) xs ≡ true → P k) → (b : Bool) → eq_by_cmp R k x ≡ b → (b || list_any (eq_by_cmp R k) xs) ≡ true → P k
    cases rest true same _ = subst P (sym ((apart k x).0 same)) h.0
    cases rest false other found = rest found

  -- what can't be so isn't among them
  pub never_at : (P : K → Type 0) (k : K) → (P k → ⊥) → (ks : List K) → AllByRecursion P ks → list_any (eq_by_cmp R k) ks ≡ false
  never_at P k not_so [] h = refl
  never_at P k not_so (x ∷ xs) h = cases (never_at P k not_so xs h.1) (eq_by_cmp R k x) refl where
    cases : list_any (eq_by_cmp R k) xs ≡ false → (b : Bool) → eq_by_cmp R k x ≡ b → (b || list_any (eq_by_cmp R k) xs) ≡ false
    cases rest true same = absurd (not_so (subst P (sym ((apart k x).0 same)) h.0))
    cases rest false other = rest

  -- two lists, of which nothing is so as both
  pub are_apart : (P Q : K → Type 0) → ((k : K) → P k → Q k → ⊥) → (ks ls : List K) → AllByRecursion P ks → AllByRecursion Q ls → AreApart R ks ls
  are_apart P Q clash ks ls ps qs k has = never_at Q k (clash k (so_at P ks ps k has)) ls qs

  -- where one of them passes, some pass
  pub any_at : (p : K → Bool) (k : K) → p k ≡ true → (ks : List K) → list_any (eq_by_cmp R k) ks ≡ true → list_any p ks ≡ true
  any_at p k passes [] among = cc among
  any_at p k passes (x ∷ xs) among = cases (any_at p k passes xs) (eq_by_cmp R k x) refl among (p x) refl where
    cases : (list_any (eq_by_cmp R k) xs ≡ true → list_any p xs ≡ true) → (b : Bool) → eq_by_cmp R k x ≡ b → (b || list_any (eq_by_cmp R k) xs) ≡ true
        → (t : Bool) → p x ≡ t → (t || list_any p xs) ≡ true
    cases rest b is found true here = refl
    cases rest true same found false here =
        let bad : true ≡ false = sym (ap p (sym ((apart k x).0 same)) ∙ passes) ∙ here in
        (cc bad)
    cases rest false other found false here = rest found
