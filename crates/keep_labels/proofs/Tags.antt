-- Tags are compared by their bytes.
use Rattle.std.proofs.Common.{◌≡◌, ◌↔◌, ℕ, Bool, false, not, ◌||◌, List, [], ◌∷◌, map, refl, sym, ap, ◌∙◌}
use Rattle.std.specs.Cmp.Derive.Mapped.{pointwise-map}
use Rattle.std.specs.Cmp.Lexicographic.{pointwise}
use Rattle.std.specs.List.{list_any}
use Rattle.std.specs.Str.{bytes_eq}
use Rattle.std.proofs.lemmas.Bool.{not-false}
use Rattle.std.proofs.lemmas.Slice.Eq.{bytes_eq-Decides, slice_eq-Decides}

pub list_any-map : {X Y : Type 0} (p : Y → Bool) (h : X → Y) (xs : List X) → list_any p (map h xs) ≡ list_any (λ x. p (h x)) xs
list_any-map p h [] = refl
list_any-map p h (x ∷ xs) = ap (λ b. p (h x) || b) (list_any-map p h xs)

-- a test that finds two lists of texts unequal says no just where the texts are the same
pub unequal_texts : {X : Type 0} (h : X → List ℕ) (xs ys : List X) (r : Bool)
    → r ≡ not (pointwise (λ a b. bytes_eq (h a) (h b)) xs ys) → (r ≡ false) ↔ (map h xs ≡ map h ys)
unequal_texts h xs ys r e =
    let same = slice_eq-Decides bytes_eq-Decides (map h xs) (map h ys) (pointwise (λ a b. bytes_eq (h a) (h b)) xs ys) (sym (pointwise-map h bytes_eq xs ys)) in (
      λ no. same.0 (not-false (pointwise (λ a b. bytes_eq (h a) (h b)) xs ys) (sym e ∙ no)),
      λ alike. e ∙ ap not (same.1 alike),
    )
