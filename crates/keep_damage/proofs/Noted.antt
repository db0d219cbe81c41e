-- Findings that are noted one after another, up to ten.
use Rattle.std.proofs.Common.{◌≡◌, ◌≤◌, nat_lt, Bool, true, false, cond, List, [], ◌∷◌, ◌++◌, length, map, take, Option, Some, None, refl, sym, ap, ◌∙◌, append-nil, append_assoc, length-append, arith}
use Rattle.std.specs.List.{AllByRecursion, cons_option, filter_map}
use Rattle.std.proofs.lemmas.Bool.{ltb-false, ltb-true}
use Rattle.std.proofs.lemmas.List.{take-append-le, take_all}
use Rattle.keep_damage.specs.Compared.{noted, topped}
use Rattle.keep_damage.specs.declared.finding.Finding.{Finding}

module _ {X : Type 0} (at : X → Option Finding) where
  -- what holds of each that may be found holds of those that are noted
  pub noted_all : (P : Finding → Type 0) (xs : List X) (found : List Finding) → AllByRecursion P found
      → AllByRecursion (λ x. (f : Finding) → at x ≡ Some f → P f) xs → AllByRecursion P (noted at xs found)
  noted_all P [] found all each = all
  noted_all P (x ∷ xs) found all each = noted_all P xs (topped found (at x)) (by (at x) refl) each.1
    where
      more : (ys : List Finding) (f : Finding) → AllByRecursion P ys → P f → AllByRecursion P (ys ++ f ∷ [])
      more [] f h p = (p, tt)
      more (y ∷ ys) f h p = (h.0, more ys f h.1 p)

      within : (b : Bool) (f : Finding) → P f → AllByRecursion P (cond b (found ++ f ∷ []) found)
      within true f p = more found f all p
      within false f p = all

      by : (o : Option Finding) → at x ≡ o → AllByRecursion P (topped found o)
      by None is = all
      by (Some f) is = within (nat_lt (length found) 10) f (each.0 f is)

  -- they are the first ten of all
  pub noted_take : (xs : List X) (found : List Finding) → length found ≤ 10 → noted at xs found ≡ take 10 (found ++ filter_map at xs)
  noted_take [] found few = sym (take_all 10 (found ++ []) (rw append-nil few) ∙ append-nil found)
  noted_take (x ∷ xs) found few = by (λ more some. noted_take xs more some) (at x)
    where
      Rest : Type 0
      Rest = (more : List Finding) → length more ≤ 10 → noted at xs more ≡ take 10 (more ++ filter_map at xs)

      one : Rest → (f : Finding) (b : Bool) → nat_lt (length found) 10 ≡ b → noted at xs (cond b (found ++ f ∷ []) found) ≡ take 10 (found ++ (f ∷ filter_map at xs))
      one rest f true is =
          rest (found ++ f ∷ []) (omega (arith, ltb-true (length found) 10 is, length-append found (f ∷ [])))
          ∙ ap (take 10) (append_assoc found (f ∷ []) (filter_map at xs))
      one rest f false is =
          let full : 10 ≤ length found = ltb-false (length found) 10 is in
          rest found few ∙ take-append-le 10 found (filter_map at xs) full ∙ sym (take-append-le 10 found (f ∷ filter_map at xs) full)

      by : Rest → (o : Option Finding) → noted at xs (topped found o) ≡ take 10 (found ++ cons_option o (filter_map at xs))
      by rest None = rest found few
      by rest (Some f) = one rest f (nat_lt (length found) 10) refl

-- what holds of each is found after each of the others
pub all_of_map : {X Y : Type 0} (P : Y → Type 0) (f : X → Y) (xs : List X) → AllByRecursion (λ x. P (f x)) xs → AllByRecursion P (map f xs)
all_of_map P f [] all = tt
all_of_map P f (x ∷ xs) all = (all.0, all_of_map P f xs all.1)

pub all_each : {X : Type 0} (P : X → Type 0) (xs : List X) → ((x : X) → P x) → AllByRecursion P xs
all_each P [] each = tt
all_each P (x ∷ xs) each = (each x, all_each P xs each)
