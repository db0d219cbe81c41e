-- A text is cut at its first slash in one way.
use Rattle.std.proofs.Common.{◌≡◌, ℕ, suc, List, [], ◌∷◌, ◌++◌, Bor, Option, Some, None, refl, sym, lit<, arith}
use Rattle.std.specs.Str.Iter.{LacksByte}
use Rattle.std.proofs.lemmas.Str.Pattern.{IsSplitOnceResult, split_after, split_parts}

-- where the front lacks a slash, the parts are those round the first one
pub halves : (path front back : List ℕ) (r : Option (Bor (List ℕ) × Bor (List ℕ))) (parts : Bor (List ℕ) × Bor (List ℕ)) → IsSplitOnceResult 47 path r → r ≡ Some parts
    → front ++ 47 ∷ back ≡ path → LacksByte 47 front → (parts.0.now ≡ front) × (parts.1.now ≡ back)
halves path front back r parts cut was e lacks = rw was at (split_after 47 path front back r cut (lit< tt) (sym e) lacks)

-- and there are some
pub uncut : (path front back : List ℕ) (r : Option (Bor (List ℕ) × Bor (List ℕ))) → IsSplitOnceResult 47 path r → r ≡ None
    → front ++ 47 ∷ back ≡ path → LacksByte 47 front → ⊥
uncut path front back r cut was e lacks = rw was at (split_after 47 path front back r cut (lit< tt) (sym e) lacks)

-- the parts and the slash between them are the text, and the front lacks one
pub joined : (path : List ℕ) (r : Option (Bor (List ℕ) × Bor (List ℕ))) (parts : Bor (List ℕ) × Bor (List ℕ)) → IsSplitOnceResult 47 path r → r ≡ Some parts
    → (path ≡ parts.0.now ++ 47 ∷ parts.1.now) × LacksByte 47 parts.0.now
joined path r parts cut was = rw was at (split_parts 47 path r cut (lit< tt))

-- where there are none, the text lacks one
pub whole : (path : List ℕ) (r : Option (Bor (List ℕ) × Bor (List ℕ))) → IsSplitOnceResult 47 path r → r ≡ None → LacksByte 47 path
whole path r cut was = rw was at (split_parts 47 path r cut (lit< tt))

-- what lacks a byte lacks it behind its first
pub lacks-tail : (c b : ℕ) (bs : List ℕ) → LacksByte c (b ∷ bs) → LacksByte c bs
lacks-tail c b bs h k l e = h (suc k) (omega arith) e

-- two texts that are one have one front and one back
pub one_cut : (c : ℕ) (a b d e : List ℕ) → LacksByte c a → LacksByte c d → a ++ c ∷ b ≡ d ++ c ∷ e → (a ≡ d) × (b ≡ e)
one_cut c [] b [] e h k same =
    let tail : b ≡ e = cc in
    (refl, tail)
one_cut c [] b (x ∷ d) e h k same =
    let head : x ≡ c = cc in
    absurd (k 0 (omega arith) head)
one_cut c (x ∷ a) b [] e h k same =
    let head : x ≡ c = cc in
    absurd (h 0 (omega arith) head)
one_cut c (x ∷ a) b (y ∷ d) e h k same =
    let head : x ≡ y = cc in
    let tail : a ++ c ∷ b ≡ d ++ c ∷ e = cc in
    let rest = one_cut c a b d e (lacks-tail c x a h) (lacks-tail c y d k) tail in
    (rw (head, rest.0) refl, rest.1)
