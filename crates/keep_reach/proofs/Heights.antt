-- How many levels of trees a blob has, and the first refusal of a list of blobs.
use Rattle.std.proofs.Common.{◌≡◌, ℕ, zero, suc, ◌+◌, ◌-◌, ◌<◌, ◌≤◌, max, cond, List, [], ◌∷◌, ◌++◌, length, get_or, take, drop, Option, None, Some, Ok, refl, sym, ap, ◌∙◌, arith}
use Rattle.std.proofs.lemmas.List.{take-append-drop}
use Rattle.std.specs.Option.{option_or}
use Rattle.keep_names.specs.declared.blob.BlobId.{BlobId}
use Rattle.keep_names.specs.declared.blob.BlobType.{BlobType}
use Rattle.keep_names.specs.declared.blob.BlobType.TheVariants.{Content, Tree}
use Rattle.keep_reach.specs.Reach.{Naming, first_of, has_type_tree, own_or, refusal_at}
use Rattle.keep_reach.specs.Walk.{HasHeight, HaveHeight, too_deep}
use Rattle.keep_catalog.specs.declared.reach_error.ReachError.{ReachError}
use Rattle.keep_catalog.specs.declared.reach_error.ReachError.TheVariants.{TooDeep}
use Rattle.keep_catalog.proofs.Growing.{taken_more}

or_none : (o : Option ReachError) → option_or o None ≡ o
or_none None = refl
or_none (Some x) = refl

-- ---- a height that fits the levels, and one that doesn't

pub fits : (height levels : ℕ) → height ≤ levels → too_deep height levels ≡ None
fits zero levels h = refl
fits (suc height) zero h = absurd (omega arith)
fits (suc height) (suc levels) h = fits height levels (omega arith)

pub is_deep : (height levels : ℕ) → levels < height → too_deep height levels ≡ Some TooDeep
is_deep zero levels h = absurd (omega arith)
is_deep (suc height) zero h = refl
is_deep (suc height) (suc levels) h = is_deep height levels (omega arith)

-- of two heights the greater decides
pub deeper : (a b levels : ℕ) → option_or (too_deep a levels) (too_deep b levels) ≡ too_deep (max a b) levels
deeper zero b levels = let e : b ≡ max 0 b = omega arith in ap (λ n. too_deep n levels) e
deeper (suc a) zero zero = let e : suc a ≡ max (suc a) 0 = omega arith in ap (λ n. too_deep n 0) e
deeper (suc a) zero (suc levels) =
    let e : suc a ≡ max (suc a) 0 = omega arith in
    or_none (too_deep a levels) ∙ ap (λ n. too_deep n (suc levels)) e
deeper (suc a) (suc b) zero = let e : suc (max a b) ≡ max (suc a) (suc b) = omega arith in ap (λ n. too_deep n 0) e
deeper (suc a) (suc b) (suc levels) =
    let e : suc (max a b) ≡ max (suc a) (suc b) = omega arith in
    deeper a b levels ∙ ap (λ n. too_deep n (suc levels)) e

-- ---- first refusals

or_assoc : (a b c : Option ReachError) → option_or (option_or a b) c ≡ option_or a (option_or b c)
or_assoc None b c = refl
or_assoc (Some x) b c = refl

module _ (refusal : BlobId → Option ReachError) where
  pub first_of-append : (xs ys : List BlobId) → first_of refusal (xs ++ ys) ≡ option_or (first_of refusal xs) (first_of refusal ys)
  first_of-append [] ys = refl
  first_of-append (x ∷ xs) ys =
      ap (option_or (refusal x)) (first_of-append xs ys) ∙ sym (or_assoc (refusal x) (first_of refusal xs) (first_of refusal ys))

  -- the first blob that is refused gives the first refusal
  pub first_refused : (xs : List BlobId) (i : ℕ) (x d : BlobId) (e : ReachError) → i < length xs → x ≡ get_or xs i d → first_of refusal (take i xs) ≡ None → refusal x ≡ Some e → first_of refusal xs ≡ Some e
  first_refused xs i x d e lt is before here =
      ap (first_of refusal) (sym (take-append-drop (i + 1) xs))
      ∙ first_of-append (take (i + 1) xs) (drop (i + 1) xs)
      ∙ ap (λ o. option_or o (first_of refusal (drop (i + 1) xs)))
      (ap (first_of refusal) (taken_more xs i x d lt is) ∙ first_of-append (take i xs) (x ∷ [])
      ∙ ap (λ o. option_or o (first_of refusal (x ∷ []))) before ∙ or_none (refusal x) ∙ here)

-- ---- heights

-- a piece needs no level
at_zero : (named : Naming) (blob : BlobId) (t : BlobType) → t ≡ Content → cond (has_type_tree t) (Some TooDeep) (own_or (λ _. None) (named blob)) ≡ own_or (λ _. None) (named blob)
at_zero named blob t piece = ap (λ x. cond (has_type_tree x) (Some TooDeep) (own_or (λ _. None) (named blob))) piece

module _ (named : Naming) where
  pub piece_height : (blob : BlobId) → blob.blob_type ≡ Content → named blob ≡ Ok [] → HasHeight named blob 0
  piece_height blob piece is = record { exact = levels_of } where
    levels_of : (levels : ℕ) → refusal_at named levels blob ≡ too_deep 0 levels
    levels_of zero = at_zero named blob blob.blob_type piece ∙ ap (own_or (λ _. None)) is
    levels_of (suc levels) = rw is refl

  pub tree_height : (blob : BlobId) (xs : List BlobId) (below : ℕ) → blob.blob_type ≡ Tree → named blob ≡ Ok xs → HaveHeight named xs below → HasHeight named blob (suc below)
  tree_height blob xs below tree is have = record { exact = levels_of } where
    levels_of : (levels : ℕ) → refusal_at named levels blob ≡ too_deep (suc below) levels
    levels_of zero = rw tree refl
    levels_of (suc levels) = rw is (have.exact levels)

  pub one_higher : (xs : List BlobId) (i : ℕ) (x d : BlobId) (a b : ℕ) → i < length xs → x ≡ get_or xs i d → HaveHeight named (take i xs) a → HasHeight named x b → HaveHeight named (take (i + 1) xs) (max a b)
  one_higher xs i x d a b lt is have has = record {
    exact = λ levels.
        ap (first_of (refusal_at named levels)) (taken_more xs i x d lt is)
        ∙ first_of-append (refusal_at named levels) (take i xs) (x ∷ [])
        ∙ ap (λ o. option_or (first_of (refusal_at named levels) (take i xs)) o) (or_none (refusal_at named levels x) ∙ has.exact levels)
        ∙ ap (λ o. option_or o (too_deep b levels)) (have.exact levels)
        ∙ deeper a b levels;
  }

  pub refused_below : (levels : ℕ) (blob : BlobId) (xs : List BlobId) (e : ReachError) → 0 < levels → named blob ≡ Ok xs → first_of (refusal_at named (levels - 1)) xs ≡ Some e → refusal_at named levels blob ≡ Some e
  refused_below zero blob xs e h is below = absurd (omega arith)
  refused_below (suc levels) blob xs e h is below =
      let same : suc levels - 1 ≡ levels = omega arith in
      rw is (ap (λ n. first_of (refusal_at named n) xs) (sym same) ∙ below)
