-- The digits of ids: they lack a slash, and each name one id.
use Rattle.std.proofs.Common.{◌≡◌, ℕ, ◌↔◌, true, List, length, take, Result, Ok, Err, IsOk, sym, ap, subst, ◌∙◌, refl, arith}
use Rattle.std.specs.Prelude.{IfOk}
use Rattle.std.specs.List.{AllPass}
use Rattle.std.specs.Result.{result_ok}
use Rattle.std.specs.Str.Iter.{LacksByte}
use Rattle.std.proofs.lemmas.List.Elements.{All-get_or, All-take}
use Rattle.keep_names.proofs.IdText.{IsIdText-id_text, id_of_text}
use Rattle.keep_names.specs.Id.{IsDigest, IsIdText, id_text, is_lower_hex_digit}
use Rattle.keep_names.specs.declared.id.Id.{Id}
use Rattle.keep_paths.specs.KeyPath.{IsFrontOf}
use Rattle.keep_names.specs.Parses.{Parses}

-- the fact of `AllPass is_lower_hex_digit`
abbrev IsLower : ℕ → Type 0
IsLower c = is_lower_hex_digit c ≡ true

lower_lacks : (digits : List ℕ) → AllPass is_lower_hex_digit digits → LacksByte 47 digits
lower_lacks digits lower k l e =
    let here : is_lower_hex_digit 47 ≡ true = subst IsLower e (All-get_or IsLower digits k 0 l lower) in
    cc here

pub digits_lack : (id : Id) → IsDigest id → LacksByte 47 (id_text id)
digits_lack id whole = lower_lacks (id_text id) (IsIdText-id_text id whole).1

pub front_lacks : (id : Id) → IsDigest id → LacksByte 47 (take 2 (id_text id))
front_lacks id whole = lower_lacks (take 2 (id_text id)) (All-take IsLower 2 (id_text id) (IsIdText-id_text id whole).1)

-- the first two digits of an id are its front
pub is_front : (id : Id) (front digits : List ℕ) → IsDigest id → front ≡ take 2 (id_text id) → digits ≡ id_text id → IsFrontOf front digits
is_front id front digits whole first all =
    let size : length (id_text id) ≡ 64 = (IsIdText-id_text id whole).0 in
    let long : length digits ≡ 64 = ap length all ∙ size in
    (omega (arith, long), ap (take 2) all ∙ sym first)

-- what digits are read as has just them, and where they aren't read no id does
pub id-parsed : {E : Type 0} (digits : List ℕ) (r : Result Id E) → IsOk r ↔ IsIdText digits → IfOk r (λ id. id_text id ≡ digits) → ((id : Id) → IsDigest id → id_text id ≡ digits → r ≡ Ok id)
    → Parses IsDigest id_text digits (result_ok r)
id-parsed {E} digits (Ok id) accepted value only =
    let found = id_of_text digits (accepted.0 refl) in
    let same : id ≡ found.0 = cc (only found.0 found.1 found.2) in
    (subst IsDigest (sym same) found.1, value)
id-parsed {E} digits (Err error) accepted value only = λ id whole e. cc (only id whole e)
