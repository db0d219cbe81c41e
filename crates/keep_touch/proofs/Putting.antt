-- What each facet has once a list is written.
use Rattle.std.proofs.Common.{◌≡◌, ℕ, ◌+◌, ◌-◌, Bool, true, false, cond, List, [], ◌∷◌, ◌++◌, length, replicate, Option, Some, None, refl, sym, ap, ◌∙◌, arith}
use Rattle.std.proofs.lemmas.List.{append-nil, take_all}
use Rattle.std.specs.Option.{option_map_or}
use Rattle.keep_repo.specs.Facet.{facet_eq}
use Rattle.keep_repo.specs.contracts.facet.FacetOrd.TheImpl.Laws as the_facet_laws
use Rattle.keep_repo.specs.contracts.facet.FacetPartialEq.TheImpl as the_facet_eq
use Rattle.keep_repo.specs.declared.facet.Facet.{Facet}
use Rattle.keep_repo.proofs.Orders.{facet_eq_same}
use Rattle.keep_change.proofs.Records.{facet_eq_symm}
use Rattle.keep_touch.specs.Followed.{without_last}
use Rattle.keep_touch.specs.Noting.{times}
use Rattle.keep_touch.specs.declared.mention.Mention.{Mention}
use Rattle.keep_touch.proofs.Counting.{without_none}

abbrev pub same_key : Facet → Facet → Bool
same_key = (the_facet_eq.ghosts).eq

-- `==` of facets is the one that their order gives
same_as_order : (a b : Facet) → same_key a b ≡ facet_eq b a
same_as_order a b = the_facet_laws.matches_eq-law a b ∙ facet_eq_symm a b

-- of an empty list nothing is taken
no_less : (n : ℕ) (ms : List Mention) → ms ≡ [] → ms ≡ without_last n ms
no_less n ms none = none ∙ sym (take_all (length {A = Mention} [] - n) [] (omega arith)) ∙ ap (without_last n) (sym none)

module _ {V : Type 0} (items : V → List Mention) where
  abbrev pub listed : Option V → List Mention
  listed o = option_map_or items o []

  module _ (old new : Facet → Option V) (facet : Facet) (list : V) (written : (q : Facet) → new q ≡ cond (same_key facet q) (Some list) (old q)) where
    at_facet : (q : Facet) (b : Bool) → facet_eq q facet ≡ b → listed (new q) ≡ cond b (items list) (listed (old q))
    at_facet q true is = ap listed (written q ∙ ap (λ b. cond b (Some list) (old q)) (same_as_order facet q ∙ is))
    at_facet q false is = ap listed (written q ∙ ap (λ b. cond b (Some list) (old q)) (same_as_order facet q ∙ is))

    -- the list has one mention more
    pub put_one : (m : Mention) → items list ≡ listed (old facet) ++ m ∷ []
        → (q : Facet) → listed (new q) ≡ listed (old q) ++ replicate (times q (facet ∷ [])) m
    put_one m longer q = one (facet_eq q facet) refl
      where
        one : (b : Bool) → facet_eq q facet ≡ b → listed (new q) ≡ listed (old q) ++ replicate (0 + cond (facet_eq q facet) 1 0) m
        one true is =
            at_facet q true is ∙ longer
            ∙ ap (λ f. listed (old f) ++ m ∷ []) (sym (facet_eq_same q facet is))
            ∙ ap (λ b. listed (old q) ++ replicate (0 + cond b 1 0) m) (sym is)
        one false is =
            at_facet q false is ∙ sym (append-nil (listed (old q)))
            ∙ ap (λ b. listed (old q) ++ replicate (0 + cond b 1 0) m) (sym is)

    -- the list has the same mentions
    pub put_same : items list ≡ listed (old facet) → (q : Facet) → listed (new q) ≡ listed (old q)
    put_same same q = one (facet_eq q facet) refl
      where
        one : (b : Bool) → facet_eq q facet ≡ b → listed (new q) ≡ listed (old q)
        one true is = at_facet q true is ∙ same ∙ ap (λ f. listed (old f)) (sym (facet_eq_same q facet is))
        one false is = at_facet q false is

    -- the list has its last mention no more
    pub take_one : items list ≡ without_last 1 (listed (old facet))
        → (q : Facet) → listed (new q) ≡ without_last (times q (facet ∷ [])) (listed (old q))
    take_one shorter q = one (facet_eq q facet) refl
      where
        one : (b : Bool) → facet_eq q facet ≡ b → listed (new q) ≡ without_last (0 + cond (facet_eq q facet) 1 0) (listed (old q))
        one true is =
            at_facet q true is ∙ shorter
            ∙ ap (λ f. without_last 1 (listed (old f))) (sym (facet_eq_same q facet is))
            ∙ ap (λ b. without_last (0 + cond b 1 0) (listed (old q))) (sym is)
        one false is =
            at_facet q false is ∙ sym (without_none (listed (old q)))
            ∙ ap (λ b. without_last (0 + cond b 1 0) (listed (old q))) (sym is)

  -- of no list nothing is taken
  pub take_none : (held : Facet → Option V) (facet : Facet) → held facet ≡ None
      → (q : Facet) → listed (held q) ≡ without_last (times q (facet ∷ [])) (listed (held q))
  take_none held facet none q = one (facet_eq q facet) refl
    where
      one : (b : Bool) → facet_eq q facet ≡ b → listed (held q) ≡ without_last (0 + cond (facet_eq q facet) 1 0) (listed (held q))
      one true is = no_less (0 + cond (facet_eq q facet) 1 0) (listed (held q)) (ap (λ f. listed (held f)) (facet_eq_same q facet is) ∙ ap listed none)
      one false is = sym (without_none (listed (held q))) ∙ ap (λ b. without_last (0 + cond b 1 0) (listed (held q))) (sym is)
