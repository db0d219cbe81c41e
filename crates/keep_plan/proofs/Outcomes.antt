-- What a call that can want memory promises.
use Rattle.std.proofs.Common.{Result, Ok, Err, IfOk, OnOk}

pub if_ok : {A E : Type 0} (P Q : A → Type 0) (result : Result A E) → ((a : A) → P a → Q a) → IfOk result P → IfOk result Q
if_ok P Q (Ok a) then h = then a h
if_ok P Q (Err e) then h = tt

pub on_ok : {A E : Type 0} (P Q : Type 0) (result : Result A E) → (P → Q) → OnOk result P → OnOk result Q
on_ok P Q (Ok a) then h = then h
on_ok P Q (Err e) then h = tt
