-- Ids in texts.
use Rattle.std.proofs.Common.{◌≡◌, ℕ, Bool, true, false, cond, List, [], Option, None, Some, option_map, Result, Ok, Err, refl, sym, ap, subst, ◌∙◌}
use Rattle.std.proofs.lemmas.List.Sums.{AllPass-from_list_all, list_all-from_AllPass}
use Rattle.std.specs.List.{list_all}
use Rattle.std.specs.Result.{result_ok, result_unwrap_or}
use Rattle.hex.specs.Hex.{decode_sized}
use Rattle.hex.specs.declared.error.FromHexError.{FromHexError}
use Rattle.hex.proofs.HexLemmas.{decode_sized-ok}
use Rattle.keep_names.specs.Id.{IsDigest, IsIdText, id_text, is_lower_hex_digit}
use Rattle.keep_names.specs.declared.id.Id.{Id}
use Rattle.keep_names.proofs.IdText.{IsIdText-id_text, decode_sized-id_text}
use Rattle.keep_names.proofs.IdText as names
use Rattle.keep_docs.specs.Fields.{id_of_text}

-- the id is read back from its text
pub id_of_text-id_text : (id : Id) → IsDigest id → id_of_text (id_text id) ≡ Some id
id_of_text-id_text id h =
    let lower = list_all-from_AllPass is_lower_hex_digit (id_text id) (IsIdText-id_text id h).1 in
    rw (lower, decode_sized-id_text id (id_text id) h refl)

-- both tests passed
passed : (b : Bool) (r : Result (List ℕ) FromHexError) (id : Id) → cond b (option_map (λ bytes. record { 0 = bytes }) (result_ok r)) None ≡ Some id
    → (b ≡ true) × (r ≡ Ok id.0)
passed true (Ok bytes) id e = let same : Some bytes ≡ Some id.0 = ap (option_map (λ (i : Id). i.0)) e in (refl, cc)
passed true (Err x) id e = cc
passed false r id e = cc

-- a text that is read as an id is its text
pub id_text-id_of_text : (text : List ℕ) (id : Id) → id_of_text text ≡ Some id → IsDigest id × (id_text id ≡ text)
id_text-id_of_text text id e =
    let parts = passed (list_all is_lower_hex_digit text) (decode_sized text 32) id e in
    let lower = AllPass-from_list_all is_lower_hex_digit text parts.0 in
    let named = names.id_of_text text (decode_sized-ok text 32 id.0 parts.1, lower) in
    let again = names.decode_sized-id_text named.0 text named.1 named.2 in
    let same : named.0.0 ≡ id.0 = ap (λ (r : Result (List ℕ) FromHexError). result_unwrap_or r []) (sym again ∙ parts.1) in
    let one : named.0 ≡ id = ap (λ (bytes : List ℕ). record { 0 = bytes }) same in
    (subst IsDigest one named.1, names.id_text-decoded text id.0 lower parts.1)

-- what no id prints isn't read as one
pub id_of_text_refused : (text : List ℕ) → (IsIdText text → ⊥) → id_of_text text ≡ None
id_of_text_refused text other = nothing (id_of_text text) refl
  where
    nothing : (o : Option Id) → id_of_text text ≡ o → o ≡ None
    nothing None e = refl
    nothing (Some id) e =
        let is = id_text-id_of_text text id e in
        absurd (other (subst IsIdText is.1 (IsIdText-id_text id is.0)))
