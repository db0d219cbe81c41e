-- A walk over all keys takes in the whole content.
use Rattle.std.proofs.Common.{◌≡◌, ℕ, cond, List, [], ◌∷◌, Option, Some, None, refl, sym, ap, ◌∙◌}
use Rattle.std.specs.FinMap as finite
use Rattle.std.specs.List.{list_any}
use Rattle.std.specs.Option.{option_or}
use Rattle.keep_shelf.proofs.Orders.{key_exact, key_total}
use Rattle.keep_shelf.specs.Key.{key_cmp}
use Rattle.keep_shelf.specs.Shelved.{Content}
use Rattle.keep_shelf.specs.declared.key.Key.{Key}
use Rattle.keep_moves.specs.Move.{key_eq}
use Rattle.keep_moves.proofs.Keys.{key_eq_same}
use Rattle.keep_opening.proofs.Joined.{either, join, or_none, there_or_none}
use Rattle.keep_opening.specs.Intake.{taken_into, with_found}

found_step : (key : Key) (found : Option (List ℕ)) (taken : Content) (q : Key)
    → finite.get (with_found key found taken) q ≡ cond (key_eq q key) (option_or found (finite.get taken q)) (finite.get taken q)
found_step key (Some bytes) taken q = finite.get-insert key_total taken key bytes q
found_step key None taken q = either (key_eq q key) (finite.get taken q)

-- under a key, what was found there
taken_at : (content : Content) (keys : List Key) (taken : Content) (q : Key)
    → finite.get (taken_into content keys taken) q ≡ option_or (cond (list_any (key_eq q) keys) (finite.get content q) None) (finite.get taken q)
taken_at content [] taken q = refl
taken_at content (key ∷ keys) taken q =
    taken_at content keys (with_found key (finite.get content key) taken) q
    ∙ ap (option_or (cond (list_any (key_eq q) keys) (finite.get content q) None)) (found_step key (finite.get content key) taken q)
    ∙ join (key_eq q key) (list_any (key_eq q) keys) (finite.get content q) (finite.get content key) (finite.get taken q)
    (λ same. ap (finite.get content) (sym (key_eq_same q key same)))

-- what is found under keys, all of which are walked over
pub found_there : (content : Content) (q : Key) → cond (list_any (key_eq q) (finite.keys content)) (finite.get content q) None ≡ finite.get content q
found_there content q =
    ap (λ b. cond b (finite.get content q) None) (sym (finite.contains_key-keys content q)) ∙ there_or_none (finite.get content q)

pub whole_taken : (content : Content) → taken_into content (finite.keys content) finite.empty ≡ content
whole_taken content = finite.same_map key_total key_exact (taken_into content (finite.keys content) finite.empty) content (λ q.
    taken_at content (finite.keys content) finite.empty q
    ∙ ap (option_or (cond (list_any (key_eq q) (finite.keys content)) (finite.get content q) None)) (finite.get-empty key_cmp q)
    ∙ or_none (cond (list_any (key_eq q) (finite.keys content)) (finite.get content q) None)
    ∙ found_there content q)
