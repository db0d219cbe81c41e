-- What an answer says of what there was to read.
use Rattle.std.proofs.Common.{◌≡◌, Option, None, Some, Ok, Err, ok_or, refl}

module _ {A E : Type 0} where
  -- a value that was read
  pub found_from_ok : (o : Option A) (e : E) (x : A) → ok_or o e ≡ Ok x → o ≡ Some x
  found_from_ok None e x h = cc
  found_from_ok (Some y) e x h = cc

  -- nothing that could be read
  pub none_from_err : (o : Option A) (e x : E) → ok_or o e ≡ Err x → (o ≡ None) × (e ≡ x)
  none_from_err None e x h = (refl, cc)
  none_from_err (Some y) e x h = cc
