-- A content in which nothing is under a key.
use Rattle.std.proofs.Common.{◌≡◌, ◌∙◌, Bool, Bor, true, false, cond, List, ℕ, Option, None, Some, ap, is_some, refl, sym}
use Rattle.std.specs.Prelude.{option_copied}
use Rattle.std.specs.FinMap as map
use Rattle.std.specs.Ordering.{eq_by_cmp}
use Rattle.keep_names.proofs.TellsApart.{apart_from}
use Rattle.keep_shelf.proofs.Orders.{key_exact, key_total}
use Rattle.keep_shelf.proofs.Stocked.{taken_away}
use Rattle.keep_shelf.specs.Key.{key_cmp}
use Rattle.keep_shelf.specs.Shelved.{Content}
use Rattle.keep_shelf.specs.declared.key.Key.{Key}

by_test : (b : Bool) (held : Option (List ℕ)) → (b ≡ true → held ≡ None) → held ≡ cond b None held
by_test true held none = none refl
by_test false held none = refl

-- to erase it changes nothing
pub none_taken : (content : Content) (key : Key) → map.get content key ≡ None → content ≡ map.remove content key
none_taken content key none = taken_away content content key (λ q.
    by_test (eq_by_cmp key_cmp key q) (map.get content q) (λ same. sym (ap (map.get content) ((apart_from key_total key_exact key q).0 same)) ∙ none))

-- what is lent of nothing
pub copied_none : {A : Type 0} (o : Option (Bor A)) → is_some o ≡ false → option_copied o ≡ None
copied_none None none = refl
copied_none (Some lent) none = cc none
