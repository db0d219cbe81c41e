-- Lists without an item.
use Rattle.std.proofs.Common.{◌≡◌, List, [], ◌∷◌, length, Result, Ok, Err, OnOk, refl, sym, ap, ◌∙◌}

-- a list that is as long as one without items has none
pub none_of_none : {X Y : Type 0} (xs : List X) (ys : List Y) → ys ≡ [] → length ys ≡ length xs → xs ≡ []
none_of_none [] ys none same = refl
none_of_none (x ∷ xs) ys none same = cc (sym same ∙ ap length none)

-- what follows from what holds where it is well holds there too
pub when_ok : {T E P Q : Type 0} (result : Result T E) → (P → Q) → OnOk result P → OnOk result Q
when_ok (Ok value) then holds = then holds
when_ok (Err why) then holds = tt
