-- Texts that are written one after the other.
use Rattle.std.proofs.Common.{◌≡◌, ◌<◌, ◌≤◌, ◌+◌, Bool, true, ℕ, ℤ, pos, negsuc, List, [], ◌∷◌, ◌++◌, codes, length, get_or, drop, map, subst, take, Result, Ok, Err, OnOk, refl, sym, ap, ap₂, ◌∙◌, append_assoc, arith}
use Rattle.std.proofs.lemmas.List.{drop_more}
use Rattle.std.proofs.lemmas.List.Elements.{All-from_recursion, All-head, All-more, All-tail, recursion_from_All}
use Rattle.std.specs.Fmt.{signed_decimal}
use Rattle.std.specs.List.{AllByRecursion, AllPass}
use Rattle.hex.specs.Hex.{IsBytes, encode_lower}
use Rattle.json.specs.Print.{escape, escape_byte, quoted}
use Rattle.json.proofs.Printed.Strings.{escape_byte_plain}
use Rattle.serde_json.specs.Data.{Data}
use Rattle.serde_json.specs.Find.{of_integer}
use Rattle.serde_json.specs.View.{items_of}
use Rattle.serde_json.specs.Written.{comma_if, compact_text, items_text, number_text}
use Rattle.keep_names.specs.FileName.{kind_text}
use Rattle.keep_names.specs.Id.{is_lower_hex_digit}
use Rattle.keep_names.specs.declared.file_name.Kind.{Kind}
use Rattle.keep_names.specs.declared.file_name.Kind.TheVariants.{Pack, Index, Snapshot}
use Rattle.keep_names.proofs.HexText.{AllPass-encode_lower, IsLower}
use Rattle.keep_entries.specs.Members.{list_text}

-- what follows where a result is Ok
pub on_ok : {A E P Q : Type 0} (r : Result A E) → (P → Q) → OnOk r P → OnOk r Q
on_ok (Ok x) f h = f h
on_ok (Err e) f h = h

-- what a result says that is Ok
pub at_ok : {A E P : Type 0} (r : Result A E) {x : A} → r ≡ Ok x → OnOk r P → P
at_ok (Ok x) is h = h
at_ok (Err e) is h = cc

-- the last piece
pub piece_last : (old : List ℕ) {new : List ℕ} (piece : List ℕ) → new ≡ old ++ piece → new ≡ old ++ piece
piece_last old piece e = e

-- a piece, and what comes behind it
pub piece_more : (old : List ℕ) {new : List ℕ} (piece rest : List ℕ) → new ≡ old ++ piece → new ++ rest ≡ old ++ (piece ++ rest)
piece_more old piece rest e = ap (λ s. s ++ rest) e ∙ append_assoc old piece rest

-- what a list holds, in the words of an equal list, and what comes behind its closing bracket
pub list_more : {A : Type 0} (write : A → Data) (old new rest : List ℕ) {xs ys : List A} → xs ≡ ys
    → new ++ codes "]" ≡ old ++ list_text (map write xs) → new ++ (codes "]" ++ rest) ≡ old ++ (list_text (map write ys) ++ rest)
list_more write old new rest {xs} {ys} same e =
    sym (append_assoc new (codes "]") rest) ∙ ap (λ s. s ++ rest) e ∙ append_assoc old (list_text (map write xs)) rest
    ∙ ap (λ zs. old ++ (list_text (map write zs) ++ rest)) same

-- what is appended may be said in other words
pub same_piece : (old : List ℕ) {new one other : List ℕ} → one ≡ other → new ≡ old ++ one → new ≡ old ++ other
same_piece old same e = e ∙ ap (λ s. old ++ s) same

-- equal values are written alike
pub alike : {A : Type 0} (write : A → Data) (old : List ℕ) {new : List ℕ} {x y : A} → x ≡ y
    → new ≡ old ++ compact_text (write x) → new ≡ old ++ compact_text (write y)
alike write old same e = e ∙ ap (λ v. old ++ compact_text (write v)) same

-- the text of a list, from an item on
pub items_more : {A : Type 0} (write : A → Data) (later : Bool) (xs : List A) (i : ℕ) (x : A) → i < length xs → x ≡ get_or xs i x
    → comma_if later ++ (compact_text (write x) ++ items_text true (items_of (map write (drop (i + 1) xs)))) ≡ items_text later (items_of (map write (drop i xs)))
items_more {A} write later xs i x within is =
    let here : drop i xs ≡ x ∷ drop (i + 1) xs = drop_more xs i x within ∙ ap (λ (y : A). y ∷ drop (i + 1) xs) (sym is) in
    sym (ap (λ (ys : List A). items_text later (items_of (map write ys))) here)

-- what holds of the items before one, and of it, holds of one more
pub all_more : {A : Type 0} (P : A → Type 0) (xs : List A) (i : ℕ) (x : A) → i < length xs → x ≡ get_or xs i x
    → AllByRecursion P (take i xs) → P x → AllByRecursion P (take (i + 1) xs)
all_more P xs i x within is before here =
    recursion_from_All P (take (i + 1) xs)
    (All-more P xs i x within (All-from_recursion P (take i xs) before) (subst P is here))

-- ---- what stands between quotes as it is

digit_plain : (c : ℕ) → IsLower c → escape_byte c ≡ c ∷ []
digit_plain c h =
    let low : 48 ≤ c = grind (arith) in
    let other : c ≡ 92 → ⊥ = grind (arith) in
    escape_byte_plain c (λ e. omega (arith, low, e)) other (omega (arith, low))

digits_plain : (text : List ℕ) → AllPass is_lower_hex_digit text → escape text ≡ text
digits_plain [] h = refl
digits_plain (c ∷ text) h =
    ap₂ (λ (a b : List ℕ). a ++ b) (digit_plain c (All-head IsLower c text h)) (digits_plain text (All-tail IsLower c text h))

-- digits are written as they are
pub digits_written : (old : List ℕ) {new digits : List ℕ} (bytes : List ℕ) → IsBytes bytes → digits ≡ encode_lower bytes → new ≡ old ++ digits
    → new ≡ old ++ escape (encode_lower bytes)
digits_written old bytes h is e =
    e ∙ ap (λ s. old ++ s) (is ∙ sym (digits_plain (encode_lower bytes) (AllPass-encode_lower bytes h)))

-- the word for a kind and the slash are, too
pub name_quoted : (kind : Kind) (digits : List ℕ) {opening : List ℕ} → opening ≡ codes "\"" ++ (kind_text kind ++ codes "/")
    → opening ++ (escape digits ++ codes "\"") ≡ quoted (kind_text kind ++ (codes "/" ++ digits))
unfolding escape_byte
name_quoted Pack digits is = ap (λ s. s ++ (escape digits ++ codes "\"")) is
name_quoted Index digits is = ap (λ s. s ++ (escape digits ++ codes "\"")) is
name_quoted Snapshot digits is = ap (λ s. s ++ (escape digits ++ codes "\"")) is

-- a text between quotes, and what comes behind them
pub quoted_more : (text rest : List ℕ) → codes "\"" ++ (escape text ++ (codes "\"" ++ rest)) ≡ quoted text ++ rest
quoted_more text rest = ap (λ s. 34 ∷ s) (sym (append_assoc (escape text) (codes "\"") rest))

-- ---- moments

moment_text : (z : ℤ) → signed_decimal z ≡ number_text (of_integer z)
moment_text (pos n) = refl
moment_text (negsuc n) = refl

-- a moment is written as its value is
pub moment_written : (old : List ℕ) {new text : List ℕ} {y z : ℤ} → y ≡ z → text ≡ signed_decimal y → new ≡ old ++ text
    → new ≡ old ++ number_text (of_integer z)
moment_written old {z} same is e = e ∙ ap (λ s. old ++ s) (is ∙ ap signed_decimal same ∙ moment_text z)
