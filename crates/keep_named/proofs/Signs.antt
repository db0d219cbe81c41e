-- What stands behind `@`.
use Rattle.std.proofs.Common.{◌≡◌, ◌≢◌, ℕ, ◌==◌, Bool, true, false, cond, List, [], ◌∷◌, Option, None, Some, MatchOption, Bor, refl, sym, ap}
use Rattle.std.proofs.lemmas.Bool.{eqb-true}
use Rattle.std.specs.Option.{option_map}
use Rattle.keep_named.specs.Meaning.{behind_at}

none_at : (b : Bool) (c : ℕ) (text : List ℕ) → (c == 64) ≡ b → ((rest : List ℕ) → c ∷ text ≢ 64 ∷ rest) → None ≡ cond b (Some text) None
none_at true c text is h = absurd (h text (ap (λ x. x ∷ text) (eqb-true c 64 is)))
none_at false c text is h = refl

-- what is left where the sign is taken off
pub sign_taken : (text : List ℕ) (o : Option (Bor (List ℕ))) → MatchOption o ((rest : List ℕ) → text ≢ 64 ∷ rest) (λ x. text ≡ 64 ∷ x.now) → option_map (λ (rest : Bor (List ℕ)). rest.now) o ≡ behind_at text
sign_taken text (Some x) h = sym (ap behind_at h)
sign_taken [] None h = refl
sign_taken (c ∷ text) None h = none_at (c == 64) c text refl h
