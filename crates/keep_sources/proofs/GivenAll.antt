-- What is given in two turns.
use Rattle.std.proofs.Common.{List, [], ◌∷◌, ◌++◌, refl, subst}
use Rattle.keep_sources.specs.Given.{Given, GivesAll}

module _ {X : Type 0} (gives : X → Given → X → Type 0) where
  -- one thing is given
  pub gives-one : (x y : X) (given : Given) → gives x given y → GivesAll gives x (given ∷ []) y
  gives-one x y given is = (y, is, refl)

  -- these are given, and then those
  pub gives-append : (x y z : X) (front back : List Given) → GivesAll gives x front y → GivesAll gives y back z → GivesAll gives x (front ++ back) z
  gives-append x y z [] back first later = subst (λ (w : X). GivesAll gives w back z) first later
  gives-append x y z (given ∷ front) back (next, one, first) later = (next, one, gives-append next y z front back first later)

  -- all of them are given, and something is so between
  pub gives-split : (x z : X) (front back : List Given) → GivesAll gives x (front ++ back) z
      → (y : X) × GivesAll gives x front y × GivesAll gives y back z
  gives-split x z [] back all = (x, refl, all)
  gives-split x z (given ∷ front) back (next, one, more) =
      let rest = gives-split next z front back more in
      (rest.0, (next, one, rest.1), rest.2)
