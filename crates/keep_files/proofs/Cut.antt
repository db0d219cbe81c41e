-- A path is cut at its last slash in one way.
use Rattle.std.proofs.Common.{◌≡◌, ◌≢◌, ℕ, zero, suc, ◌⊎◌, eqb, inl, inr, List, [], ◌∷◌, ◌++◌, codes, Bor, Option, Some, None, MatchOption, refl, sym, ap, ◌∙◌, subst, lit<, arith}
use Rattle.std.proofs.lemmas.Bool.{cases_Bool, eqb-false, eqb-true}
use Rattle.std.proofs.lemmas.List.{take-append-drop}
use Rattle.std.proofs.lemmas.Str.Pattern.{NoCharPasses-char, drop_at_char}
use Rattle.std.specs.Str.{NoCharPasses}
use Rattle.std.specs.Str.Iter.{LacksByte}
use Rattle.std.specs.Str.Pattern.{RFindsChar, SplitsAroundMatch}
use Rattle.keep_paths.proofs.Cutting.{lacks-tail}

-- what `rsplit_once` answers for a slash
abbrev pub IsCutAtLast : List ℕ → Option (Bor (List ℕ) × Bor (List ℕ)) → Type 0
IsCutAtLast path r = MatchOption r (RFindsChar 47 path None) (λ x. SplitsAroundMatch (RFindsChar 47) path x.0.now x.1.now)

-- where it gives none, the path lacks a slash
pub uncut : (path : List ℕ) (r : Option (Bor (List ℕ) × Bor (List ℕ))) → IsCutAtLast path r → r ≡ None → LacksByte 47 path
uncut path r cut was = λ i. NoCharPasses-char 47 path i (rw was at cut) (lit< tt)

-- else the parts and the slash between them are the path, and the back part lacks one
pub parted : (path : List ℕ) (r : Option (Bor (List ℕ) × Bor (List ℕ))) (x : Bor (List ℕ) × Bor (List ℕ)) → IsCutAtLast path r → r ≡ Some x
    → LacksByte 47 x.1.now × (path ≡ x.0.now ++ (codes "/" ++ x.1.now))
parted path r x cut was =
    let h = rw was at cut in (
      λ i. NoCharPasses-char 47 x.1.now i (subst (NoCharPasses (λ d. eqb d 47)) (sym h.4) h.2.0) (lit< tt),
      sym (take-append-drop h.0 path) ∙ (λ k. sym h.3 k ++ (drop_at_char 47 path h.0 h.1 h.2.1 (lit< tt) ∙ ap (λ l. 47 ∷ l) (sym h.4)) k),
    )

-- a text that has a byte doesn't lack it
pub has_it : (front back : List ℕ) → LacksByte 47 (front ++ 47 ∷ back) → ⊥
has_it [] back h = h 0 (omega arith) refl
has_it (b ∷ front) back h = has_it front back (lacks-tail 47 b (front ++ 47 ∷ back) h)

-- two cuts at a last slash are one
pub one_home : (a b d e : List ℕ) → LacksByte 47 b → LacksByte 47 e → a ++ 47 ∷ b ≡ d ++ 47 ∷ e → a ≡ d
one_home [] b [] e h k same = refl
one_home [] b (x ∷ d) e h k same =
    let tail : b ≡ d ++ 47 ∷ e = cc in
    absurd (has_it d e (subst (LacksByte 47) tail h))
one_home (x ∷ a) b [] e h k same =
    let tail : e ≡ a ++ 47 ∷ b = cc in
    absurd (has_it a b (subst (LacksByte 47) tail k))
one_home (x ∷ a) b (y ∷ d) e h k same =
    let head : x ≡ y = cc in
    let tail : a ++ 47 ∷ b ≡ d ++ 47 ∷ e = cc in
    rw (head, one_home a b d e h k tail) refl

lacks_cons : (b : ℕ) (bs : List ℕ) → b ≢ 47 → LacksByte 47 bs → LacksByte 47 (b ∷ bs)
lacks_cons b bs other rest zero l e = other e
lacks_cons b bs other rest (suc k) l e = rest k (omega arith) e

-- a text lacks a slash, or there is a last one
pub last_slash : (bs : List ℕ) → LacksByte 47 bs ⊎ ((front : List ℕ) × (name : List ℕ) × LacksByte 47 name × (bs ≡ front ++ 47 ∷ name))
last_slash [] = inl (λ k l. absurd (omega arith))
last_slash (b ∷ bs) = elim (last_slash bs) [
  | inr w ↦ inr (b ∷ w.0, w.1, w.2, ap (λ l. b ∷ l) w.3)
  | inl lacks ↦ elim (cases_Bool (eqb b 47)) [
    | inl same ↦ inr ([], bs, lacks, ap (λ c. c ∷ bs) (eqb-true b 47 same))
    | inr other ↦ inl (lacks_cons b bs (eqb-false b 47 other) lacks)
  ]
]
