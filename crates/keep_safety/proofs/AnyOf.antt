-- Whether one of a list passes a test, by how the list is made.
use Rattle.std.proofs.Common.{◌≡◌, Bool, true, false, ◌&&◌, ◌||◌, cond, List, [], ◌∷◌, filter, Option, None, Some, refl, ap, ◌∙◌}
use Rattle.std.proofs.lemmas.List.Folds.{list_any-append}
use Rattle.std.specs.List.{cons_option, filter_map, flat_map, list_any}
use Rattle.std.specs.Option.{option_map_or}

module _ {X Y : Type 0} where
  pub any_flat : (q : Y → Bool) (f : X → List Y) (xs : List X) → list_any q (flat_map f xs) ≡ list_any (λ x. list_any q (f x)) xs
  any_flat q f [] = refl
  any_flat q f (x ∷ xs) = list_any-append q (f x) (flat_map f xs) ∙ ap (λ b. list_any q (f x) || b) (any_flat q f xs)

  pub any_filter_map : (q : Y → Bool) (f : X → Option Y) (xs : List X) → list_any q (filter_map f xs) ≡ list_any (λ x. option_map_or q (f x) false) xs
  any_filter_map q f [] = refl
  any_filter_map q f (x ∷ xs) = cases (f x) ∙ ap (λ b. option_map_or q (f x) false || b) (any_filter_map q f xs) where
    cases : (o : Option Y) → list_any q (cons_option o (filter_map f xs)) ≡ (option_map_or q o false || list_any q (filter_map f xs))
    cases None = refl
    cases (Some y) = refl

module _ {X : Type 0} where
  pub any_filtered : (q t : X → Bool) (xs : List X) → list_any q (filter t xs) ≡ list_any (λ x. t x && q x) xs
  any_filtered q t [] = refl
  any_filtered q t (x ∷ xs) = cases (t x) ∙ ap (λ b. (t x && q x) || b) (any_filtered q t xs) where
    cases : (b : Bool) → list_any q (cond b (x ∷ filter t xs) (filter t xs)) ≡ ((b && q x) || list_any q (filter t xs))
    cases true = refl
    cases false = refl

  -- what follows from each that passes
  pub any_so : {G : Type 0} (q : X → Bool) (xs : List X) → list_any q xs ≡ true → ((x : X) → q x ≡ true → G) → G
  any_so q [] h given = cc h
  any_so {G} q (x ∷ xs) h given = cases (λ later. any_so q xs later given) (q x) refl h where
    cases : (list_any q xs ≡ true → G) → (b : Bool) → q x ≡ b → (b || list_any q xs) ≡ true → G
    cases rest true is _ = given x is
    cases rest false is later = rest later

  -- where one passes, what follows from that passes
  pub any_then : (q t : X → Bool) → ((x : X) → q x ≡ true → t x ≡ true) → (xs : List X) → list_any q xs ≡ true → list_any t xs ≡ true
  any_then q t follows [] h = h
  any_then q t follows (x ∷ xs) h = cases (any_then q t follows xs) (q x) refl h where
    cases : (list_any q xs ≡ true → list_any t xs ≡ true) → (b : Bool) → q x ≡ b → (b || list_any q xs) ≡ true → (t x || list_any t xs) ≡ true
    cases rest true is _ = ap (λ b. b || list_any t xs) (follows x is)
    cases rest false is later = or_second (t x) (rest later) where
      or_second : (a : Bool) → list_any t xs ≡ true → (a || list_any t xs) ≡ true
      or_second true g = refl
      or_second false g = g
