-- Whether two repositories are one, told by the entries of their maps.
use Rattle.std.proofs.Common.{◌≡◌, ◌≢◌, ℕ, Bool, ◌&&◌, eqb, length, sym, ap, subst, ◌∙◌, BTreeMap, Ordering, Equal}
use Rattle.std.specs.BTreeMap.{IsOrdered}
use Rattle.std.specs.Bool.{Decides}
use Rattle.std.proofs.lemmas.Bool.Decides.{Decides-eqb, Decides-int_eq}
use Rattle.std.specs.Cmp.{IsTotalOrder, tied_itself}
use Rattle.std.specs.Cmp.Lexicographic.{pointwise}
use Rattle.std.specs.FinMap.{IsAntisymmetric, entries, from_entries, len}
use Rattle.std.specs.Ordering.{is_eq}
use Rattle.std.proofs.lemmas.Map.Lookups.{btree_map_eq-Decides}
use Rattle.std.proofs.lemmas.Map.Views.{tells_apart}
use Rattle.keep_names.proofs.Orders.{id_exact, id_total}
use Rattle.keep_names.specs.declared.id.Id.{Id}
use Rattle.keep_names.specs.contracts.id.IdOrd.TheImpl.Laws as the_id_laws
use Rattle.keep_names.specs.contracts.id.IdPartialEq.TheImpl as the_id_eq
use Rattle.keep_repo.proofs.Maps.{entries_made, len_made}
use Rattle.keep_repo.specs.declared.facet.Mark.{Mark}
use Rattle.keep_repo.specs.contracts.facet.MarkPartialEq.TheImpl as the_mark_eq

module _ {K : Type 0} {R : K → K → Ordering} (total : IsTotalOrder R) where
  -- an equality that goes with an exact order tells keys apart
  eq-Decides : {E : K → K → Bool} → IsAntisymmetric R → ((x y : K) → E x y ≡ is_eq (R x y)) → (a b : K) → Decides (E a b) (a ≡ b)
  eq-Decides exact ties a b = (
    λ h. tells_apart exact a b (sym (ties a b) ∙ h),
    λ p. ties a b ∙ ap is_eq (subst (λ c. R a c ≡ Equal) p (tied_itself total a)),
  )

  -- where `==` of the keys and of the values tells them apart, `==` of two `BTreeMap`s tells the maps apart that they make
  pub made-Decides : {X : Type 0} {E : K → K → Bool} {F : X → X → Bool} → ((a b : K) → Decides (E a b) (a ≡ b)) → ((a b : X) → Decides (F a b) (a ≡ b)) → (m n : BTreeMap K X) → IsOrdered R m → IsOrdered R n → (r : Bool) → r ≡ pointwise (λ (p q : K × X). E p.0 q.0 && F p.1 q.1) m.entries n.entries → Decides r (from_entries {R = R} m.entries ≡ from_entries n.entries)
  made-Decides keys values m n ordered ordered' r is =
      let d = btree_map_eq-Decides keys values m n r is in (
        λ h. ap (from_entries {R = R}) (d.0 h),
        λ p. d.1 (sym (entries_made total m.entries ordered) ∙ ap entries p ∙ entries_made total n.entries ordered'),
      )

  -- maps of different sizes are not one
  pub apart-Decides : {X : Type 0} (m n : BTreeMap K X) → IsOrdered R m → IsOrdered R n → (a b : ℕ) → a ≡ length m.entries → b ≡ length n.entries → a ≢ b → Decides (eqb a b) (from_entries {R = R} m.entries ≡ from_entries n.entries)
  apart-Decides m n ordered ordered' a b a_is b_is apart = (
    λ h. absurd (apart ((Decides-eqb a b).0 h)),
    λ p. absurd (apart (a_is ∙ sym (len_made total m.entries ordered) ∙ ap len p ∙ len_made total n.entries ordered' ∙ sym b_is)),
  )

pub Decides-along : {A : Type 0} {x x' y y' : A} (r : Bool) → x ≡ y → x' ≡ y' → Decides r (x ≡ x') → Decides r (y ≡ y')
Decides-along r p q d = (λ h. sym p ∙ d.0 h ∙ q, λ e. d.1 (p ∙ e ∙ sym q))

pub id_eq-Decides : (a b : Id) → Decides ((the_id_eq.ghosts).eq a b) (a ≡ b)
id_eq-Decides = eq-Decides id_total id_exact the_id_laws.matches_eq-law

pub mark_eq-Decides : (a b : Mark) → Decides ((the_mark_eq.ghosts).eq a b) (a ≡ b)
mark_eq-Decides a b =
    let d = Decides-int_eq a.moment b.moment in (λ h. ap (λ n. record { moment = n }) (d.0 h), λ p. d.1 (ap (λ m. m.moment) p))
