-- A walk over all keys of a content finds the content.
use Rattle.std.proofs.Common.{◌≡◌, ◌∙◌, ℕ, Bool, true, false, cond, ◌||◌, List, [], ◌∷◌, Option, Some, None, is_some, ap, refl, sym}
use Rattle.std.specs.FinMap as map
use Rattle.std.specs.List.{list_any}
use Rattle.std.specs.Option.{option_map_or, option_or}
use Rattle.std.specs.Ordering.{eq_by_cmp}
use Rattle.keep_names.proofs.TellsApart.{apart_from}
use Rattle.keep_shelf.proofs.Orders.{key_exact, key_total}
use Rattle.keep_cases.specs.Found.{found_under}
use Rattle.keep_shelf.specs.Key.{key_cmp}
use Rattle.keep_shelf.specs.Shelved.{Content}
use Rattle.keep_shelf.specs.declared.key.Key.{Key}

either : {A : Type 0} (b : Bool) (x : A) → x ≡ cond b x x
either true x = refl
either false x = refl

-- at a key, once one key was walked over
one_found : (held : Content) (key : Key) (found : Option (List ℕ)) (q : Key)
    → map.get (option_map_or (λ bytes. map.insert held key bytes) found held) q
    ≡ cond (eq_by_cmp key_cmp q key) (option_or found (map.get held q)) (map.get held q)
one_found held key (Some bytes) q = map.get-insert key_total held key bytes q
one_found held key None q = either (eq_by_cmp key_cmp q key) (map.get held q)

join : (b any : Bool) (there here before : Option (List ℕ)) → (b ≡ true → here ≡ there)
    → option_or (cond any there None) (cond b (option_or here before) before) ≡ option_or (cond (b || any) there None) before
join true true (Some x) here before same = refl
join true true None here before same = ap (λ o. option_or o before) (same refl)
join true false there here before same = ap (λ o. option_or o before) (same refl)
join false any there here before same = refl

-- at a key, once all were
found_at : (content : Content) (keys : List Key) (held : Content) (q : Key)
    → map.get (found_under content keys held) q
    ≡ option_or (cond (list_any (eq_by_cmp key_cmp q) keys) (map.get content q) None) (map.get held q)
found_at content [] held q = refl
found_at content (key ∷ keys) held q =
    found_at content keys (option_map_or (λ bytes. map.insert held key bytes) (map.get content key) held) q
    ∙ ap (option_or (cond (list_any (eq_by_cmp key_cmp q) keys) (map.get content q) None)) (one_found held key (map.get content key) q)
    ∙ join (eq_by_cmp key_cmp q key) (list_any (eq_by_cmp key_cmp q) keys) (map.get content q) (map.get content key) (map.get held q)
    (λ same. ap (map.get content) (sym ((apart_from key_total key_exact q key).0 same)))

there_or_none : {A : Type 0} (o : Option A) → option_or (cond (is_some o) o None) None ≡ o
there_or_none None = refl
there_or_none (Some a) = refl

pub all_found : (content : Content) → found_under content (map.keys content) map.empty ≡ content
all_found content = map.same_map key_total key_exact _ _ (λ q.
    found_at content (map.keys content) map.empty q
    ∙ ap (option_or (cond (list_any (eq_by_cmp key_cmp q) (map.keys content)) (map.get content q) None)) (map.get-empty key_cmp q)
    ∙ ap (λ b. option_or (cond b (map.get content q) None) None) (sym (map.contains_key-keys content q))
    ∙ there_or_none (map.get content q))
