-- The paths that a folder holds come after its path with a slash, and before its path with a zero.
use Rattle.std.proofs.Common.{◌≡◌, ◌∙◌, ℕ, Bool, true, false, not, ◌&&◌, List, [], ◌∷◌, ◌++◌, codes, refl, ap, inl, inr, string_bytes}
use Rattle.std.specs.Cmp.{nat_cmp_total, tied_itself}
use Rattle.std.specs.Cmp.Lexicographic.{slice_cmp}
use Rattle.std.specs.Ordering.{is_gt, is_le, nat_cmp, ordering_then}
use Rattle.std.specs.declared.alloc.Global.{Global}
use Rattle.std.specs.declared.cmp.Ordering.{Ordering}
use Rattle.std.specs.declared.ops.Bound.TheVariants.{Included, Excluded}
use Rattle.std.specs.declared.string.String.{String}
use Rattle.keep_files.specs.Path.{LiesRightIn}
use Rattle.keep_memory_files.specs.Bounds.{BoundAllIn}

-- a text before which none stands
from_nothing : (rest : List ℕ) → is_le (slice_cmp nat_cmp [] rest) ≡ true
from_nothing [] = refl
from_nothing (b ∷ bs) = refl

above_first : (folder rest : List ℕ) → is_le (slice_cmp nat_cmp (folder ++ 47 ∷ []) (folder ++ 47 ∷ rest)) ≡ true
above_first [] rest = from_nothing rest
above_first (b ∷ folder) rest =
    ap (λ (r : Ordering). is_le (ordering_then r (slice_cmp nat_cmp (folder ++ 47 ∷ []) (folder ++ 47 ∷ rest)))) (tied_itself nat_cmp_total b)
    ∙ above_first folder rest

below_past : (folder rest : List ℕ) → is_le (slice_cmp nat_cmp (folder ++ 48 ∷ []) (folder ++ 47 ∷ rest)) ≡ false
below_past [] rest = refl
below_past (b ∷ folder) rest =
    ap (λ (r : Ordering). is_le (ordering_then r (slice_cmp nat_cmp (folder ++ 48 ∷ []) (folder ++ 47 ∷ rest)))) (tied_itself nat_cmp_total b)
    ∙ below_past folder rest

first_before_past : (folder : List ℕ) → is_gt (slice_cmp nat_cmp (folder ++ 47 ∷ []) (folder ++ 48 ∷ [])) ≡ false
first_before_past [] = refl
first_before_past (b ∷ folder) =
    ap (λ (r : Ordering). is_gt (ordering_then r (slice_cmp nat_cmp (folder ++ 47 ∷ []) (folder ++ 48 ∷ [])))) (tied_itself nat_cmp_total b)
    ∙ first_before_past folder

right_between : (folder path first past : List ℕ) → LiesRightIn path folder → first ≡ folder ++ codes "/" → past ≡ folder ++ codes "0"
    → (is_le (slice_cmp nat_cmp first path) && not (is_le (slice_cmp nat_cmp past path))) ≡ true
right_between folder path first past lies is_first is_past =
    ap (λ (p : List ℕ). is_le (slice_cmp nat_cmp first p) && not (is_le (slice_cmp nat_cmp past p))) lies.2
    ∙ ap (λ (p : List ℕ). is_le (slice_cmp nat_cmp p (folder ++ 47 ∷ lies.0)) && not (is_le (slice_cmp nat_cmp past (folder ++ 47 ∷ lies.0)))) is_first
    ∙ ap (λ (b : Bool). b && not (is_le (slice_cmp nat_cmp past (folder ++ 47 ∷ lies.0)))) (above_first folder lies.0)
    ∙ ap (λ (p : List ℕ). not (is_le (slice_cmp nat_cmp p (folder ++ 47 ∷ lies.0)))) is_past
    ∙ ap not (below_past folder lies.0)

-- the bounds of a folder other than the root
pub between : (folder : List ℕ) (first past : String Global) → (folder ≡ [] → ⊥) → string_bytes first ≡ folder ++ codes "/" → string_bytes past ≡ folder ++ codes "0"
    → BoundAllIn (Included first) (Excluded past) folder
between folder first past other is_first is_past = record {
  forward =
      ap (λ (p : List ℕ). is_gt (slice_cmp nat_cmp p (string_bytes past))) is_first
      ∙ ap (λ (p : List ℕ). is_gt (slice_cmp nat_cmp (folder ++ 47 ∷ []) p)) is_past
      ∙ first_before_past folder;
  all = λ text h. elim h [
    | inl root ↦ absurd (other root.0)
    | inr lies ↦ right_between folder (string_bytes text) (string_bytes first) (string_bytes past) lies is_first is_past
  ];
}
