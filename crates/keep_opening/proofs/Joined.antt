-- What a look-up finds after a walk: what is put there, else what was there before.
use Rattle.std.proofs.Common.{◌≡◌, Bool, true, false, cond, ◌||◌, Option, Some, None, is_some, refl, ap}
use Rattle.std.specs.Option.{option_or}

pub either : {A : Type 0} (b : Bool) (x : A) → x ≡ cond b x x
either true x = refl
either false x = refl

pub join : {A : Type 0} (b any : Bool) (there here before : Option A) → (b ≡ true → here ≡ there)
    → option_or (cond any there None) (cond b (option_or here before) before) ≡ option_or (cond (b || any) there None) before
join true true (Some x) here before same = refl
join true true None here before same = ap (λ o. option_or o before) (same refl)
join true false there here before same = ap (λ o. option_or o before) (same refl)
join false any there here before same = refl

pub there_or_none : {A : Type 0} (o : Option A) → cond (is_some o) o None ≡ o
there_or_none None = refl
there_or_none (Some a) = refl

pub or_none : {A : Type 0} (o : Option A) → option_or o None ≡ o
or_none None = refl
or_none (Some a) = refl
