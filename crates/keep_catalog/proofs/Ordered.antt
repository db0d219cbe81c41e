-- Lists of entries and of keys, and the finite maps that they make.
use Rattle.std.proofs.Common.{◌≡◌, Bool, true, false, ◌||◌, cond, List, [], ◌∷◌, ◌++◌, map, Option, None, Some, is_some, refl, sym, ap, subst, ◌∙◌, Ordering}
use Rattle.std.proofs.lemmas.Map.Views.{tells_apart}
use Rattle.std.specs.Cmp.{IsTotalOrder}
use Rattle.std.specs.FinMap.{IsAntisymmetric, contains_key-keys, find, from_entries, get, get-from_entries}
use Rattle.std.specs.List.{AllByRecursion, list_any}
use Rattle.std.specs.Map.{keys_of}
use Rattle.std.specs.Option.{option_or}
use Rattle.std.specs.Ordering.{eq_by_cmp}
use Rattle.keep_catalog.specs.Ordered.{in_order, keyed}

-- two tests that hold alike are one
pub same_test : (a b : Bool) → (a ≡ true → b ≡ true) → (b ≡ true → a ≡ true) → a ≡ b
same_test true b f g = sym (f refl)
same_test false true f g = g refl
same_test false false f g = refl

-- what holds of each key holds of one of them
module _ {K : Type 0} {R : K → K → Ordering} (exact : IsAntisymmetric R) (P : K → Type 0) where
  pub holds_of_one : (ks : List K) (k : K) → AllByRecursion P ks → list_any (eq_by_cmp R k) ks ≡ true → P k
  holds_of_one [] k all among = cc among
  holds_of_one (x ∷ ks) k all among = cases (holds_of_one ks k all.1) (eq_by_cmp R k x) refl among where
    cases : (list_any (eq_by_cmp R k) ks ≡ true → P k) → (b : Bool) → eq_by_cmp R k x ≡ b → (b || list_any (eq_by_cmp R k) ks) ≡ true → P k
    cases others true same _ = subst P (sym (tells_apart exact k x same)) all.0
    cases others false other rest = others rest

-- ---- entries one after the other

first_or : {A : Type 0} (b : Bool) (x : A) (a c : Option A) → cond b (Some x) (option_or a c) ≡ option_or (cond b (Some x) a) c
first_or true x a c = refl
first_or false x a c = refl

module _ {K X : Type 0} (R : K → K → Ordering) where
  pub find_append : (q : K) (xs ys : List (K × X)) → find R q (xs ++ ys) ≡ option_or (find R q xs) (find R q ys)
  find_append q [] ys = refl
  find_append q (x ∷ xs) ys =
      ap (cond (eq_by_cmp R q x.0) (Some x.1)) (find_append q xs ys) ∙ first_or (eq_by_cmp R q x.0) x.1 (find R q xs) (find R q ys)

-- ---- keys with nothing at them

abbrev pub here : Option (Unit {0})
here = Some tt

either : (a b : Bool) → cond a here (cond b here None) ≡ cond (a || b) here None
either true b = refl
either false b = refl

some_here : (b : Bool) → is_some {T = Unit {0}} (cond b here None) ≡ b
some_here true = refl
some_here false = refl

module _ {K : Type 0} (R : K → K → Ordering) where
  pub found_key : (q : K) (ks : List K) → find R q (map keyed ks) ≡ cond (list_any (eq_by_cmp R q) ks) here None
  found_key q [] = refl
  found_key q (k ∷ ks) = ap (cond (eq_by_cmp R q k) here) (found_key q ks) ∙ either (eq_by_cmp R q k) (list_any (eq_by_cmp R q) ks)

  pub keys_keyed : (ks : List K) → keys_of (map keyed ks) ≡ ks
  keys_keyed [] = refl
  keys_keyed (k ∷ ks) = ap (λ xs. k ∷ xs) (keys_keyed ks)

module _ {K : Type 0} {R : K → K → Ordering} (total : IsTotalOrder R) where
  -- a map of these keys has something at each of them
  pub is_some-keyed : (q : K) (ks : List K) → is_some (get (from_entries {R = R} (map keyed ks)) q) ≡ list_any (eq_by_cmp R q) ks
  is_some-keyed q ks = ap is_some (get-from_entries total (map keyed ks) q ∙ found_key R q ks) ∙ some_here (list_any (eq_by_cmp R q) ks)

  -- keys in order, each once, are the keys
  pub in_order-same : (q : K) (ks : List K) → list_any (eq_by_cmp R q) (in_order R ks) ≡ list_any (eq_by_cmp R q) ks
  in_order-same q ks = sym (contains_key-keys (from_entries {R = R} (map keyed ks)) q) ∙ is_some-keyed q ks
