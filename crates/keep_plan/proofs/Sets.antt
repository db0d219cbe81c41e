-- Sets that take one key more, or two.
use Rattle.std.proofs.Common.{◌≡◌, Bool, true, false, ◌||◌, cond, [], ◌∷◌, Ordering, refl, ap, ◌∙◌}
use Rattle.std.specs.BTreeMap.{is_at}
use Rattle.std.specs.BTreeSet.{BTreeSet, contains}
use Rattle.std.specs.Cmp.{IsTotalOrder, eq_by_cmp_equiv}
use Rattle.std.specs.List.{list_any}
use Rattle.std.specs.Ordering.{eq_by_cmp}

-- one more key at the end, as a set takes it
pub or_swap : (k a : Bool) → cond k true a ≡ (a || (k || false))
or_swap true true = refl
or_swap true false = refl
or_swap false true = refl
or_swap false false = refl

two_put : (a b p : Bool) → cond b true (cond a true p) ≡ (p || (a || (b || false)))
two_put true true true = refl
two_put true true false = refl
two_put true false true = refl
two_put true false false = refl
two_put false true true = refl
two_put false true false = refl
two_put false false true = refl
two_put false false false = refl

module _ {K : Type 0} {R : K → K → Ordering} (total : IsTotalOrder R) (old new : BTreeSet K) (a : K)
    (put : (q : K) → contains R new q ≡ cond (is_at (R a) q) true (contains R old q)) where
  one_put : (q : K) → contains R new q ≡ cond (eq_by_cmp R q a) true (contains R old q)
  one_put q = put q ∙ ap (λ t. cond t true (contains R old q)) ((eq_by_cmp_equiv total).symm a q)

  pub one_more : (q : K) → contains R new q ≡ (contains R old q || list_any (eq_by_cmp R q) (a ∷ []))
  one_more q = one_put q ∙ or_swap (eq_by_cmp R q a) (contains R old q)

  pub two_more : (last : BTreeSet K) (b : K) → ((q : K) → contains R last q ≡ cond (is_at (R b) q) true (contains R new q)) → (q : K) → contains R last q ≡ (contains R old q || list_any (eq_by_cmp R q) (a ∷ b ∷ []))
  two_more last b again q =
      again q ∙ ap (λ t. cond t true (contains R new q)) ((eq_by_cmp_equiv total).symm b q)
      ∙ ap (cond (eq_by_cmp R q b) true) (one_put q) ∙ two_put (eq_by_cmp R q a) (eq_by_cmp R q b) (contains R old q)
