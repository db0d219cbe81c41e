-- Bytes that were put under a key are taken back by what was there before.
use Rattle.std.proofs.Common.{◌≡◌, ℕ, Bool, true, false, cond, List, Option, Some, None, Result, Ok, Err, refl, sym, ap, ◌∙◌}
use Rattle.std.specs.FinMap as map
use Rattle.std.specs.Prelude.{OnErr, OnOk}
use Rattle.std.specs.FinMap.{get-insert, get-remove, same_map}
use Rattle.std.specs.Ordering.{eq_by_cmp}
use Rattle.keep_names.proofs.TellsApart.{apart_from}
use Rattle.keep_shelf.proofs.Orders.{key_exact, key_total}
use Rattle.keep_shelf.specs.Key.{key_cmp}
use Rattle.keep_shelf.specs.Shelved.{Content}
use Rattle.keep_shelf.specs.declared.key.Key.{Key}

-- at the key what was there, elsewhere what is there
at_key : (before : Content) (key : Key) (put : List ℕ) (was : Option (List ℕ)) (q : Key) (same : Bool) → eq_by_cmp key_cmp q key ≡ same → map.get before key ≡ was
    → cond same was (map.get (map.insert before key put) q) ≡ map.get before q
at_key before key put was q true same h = sym h ∙ ap (λ k. map.get before k) (sym ((apart_from key_total key_exact q key).0 same))
at_key before key put was q false other h = get-insert key_total before key put q ∙ ap (λ b. cond b (Some put) (map.get before q)) other

back : (before after : Content) (key : Key) (put : List ℕ) (was : Option (List ℕ)) → map.get before key ≡ was
    → ((q : Key) → map.get after q ≡ cond (eq_by_cmp key_cmp q key) was (map.get (map.insert before key put) q)) → after ≡ before
back before after key put was h is = same_map key_total key_exact after before (λ q. is q ∙ at_key before key put was q (eq_by_cmp key_cmp q key) refl h)

back_some : (before held after : Content) (key : Key) (put bytes : List ℕ) → map.get before key ≡ Some bytes → held ≡ map.insert before key put → after ≡ map.insert held key bytes → after ≡ before
back_some before held after key put bytes h put_is after_is =
    back before after key put (Some bytes) h (λ q.
    ap (λ (content : Content). map.get content q) after_is
    ∙ get-insert key_total held key bytes q
    ∙ ap (λ (content : Content). cond (eq_by_cmp key_cmp q key) (Some bytes) (map.get content q)) put_is)

pub back_none : (before held after : Content) (key : Key) (put : List ℕ) → map.get before key ≡ None → held ≡ map.insert before key put → after ≡ map.remove held key → after ≡ before
back_none before held after key put h put_is after_is =
    back before after key put None h (λ q.
    ap (λ (content : Content). map.get content q) after_is
    ∙ get-remove key_total held key q
    ∙ ap (λ (content : Content). cond (eq_by_cmp key_cmp q key) None (map.get content q)) put_is)

-- something is under a key at which bytes were put
put_there : (before held : Content) (key : Key) (put : List ℕ) → held ≡ map.insert before key put → map.get held key ≡ Some put
put_there before held key put put_is =
    ap (λ (content : Content). map.get content key) put_is
    ∙ get-insert key_total before key put key
    ∙ ap (λ b. cond b (Some put) (map.get before key)) ((apart_from key_total key_exact key key).1 refl)

-- bytes that are put in the place of others can't fail, and take them back where they were there before
pub back_written : {E : Type 0} (before held after : Content) (key : Key) (put bytes : List ℕ) (written : Result (Option (List ℕ)) E)
    → map.get before key ≡ Some bytes → held ≡ map.insert before key put → OnOk written (after ≡ map.insert held key bytes) → OnErr written (map.get held key ≡ None) → after ≡ before
back_written {E} before held after key put bytes (Ok was) h put_is done absent = back_some before held after key put bytes h put_is done
back_written {E} before held after key put bytes (Err e) h put_is done absent = cc (sym (put_there before held key put put_is) ∙ absent)
