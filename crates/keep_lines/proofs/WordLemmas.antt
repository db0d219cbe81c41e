-- Each target is the text of at most one value.
use Rattle.std.proofs.Common.{◌≡◌, ◌≢◌, ℕ, List, ◌∷◌, Result, Ok, Err, Some, None, true, sym, subst, ◌∙◌}
use Rattle.std.proofs.lemmas.List.Elements.{All-head}
use Rattle.std.specs.Fmt.{decimal}
use Rattle.std.specs.Result.{result_ok}
use Rattle.keep_names.proofs.IdText.{IsIdText-id_text, id_of_text}
use Rattle.keep_names.specs.Id.{IsDigest, IsIdText, id_text, is_lower_hex_digit}
use Rattle.keep_names.specs.declared.id.Id.{Id}
use Rattle.keep_names.specs.Parses.{NonePrints}
use Rattle.keep_names.specs.Number.{IsNumber}
use Rattle.keep_lines.specs.Word.{IsTarget, target_text}
use Rattle.keep_lines.specs.declared.word.MeantFile.TheVariants.{Named, AddedBy}

-- an id that is the only one with a text has 32 bytes
pub IsDigest-parsed : (word : List ℕ) (id : Id) → IsIdText word → ((other : Id) → IsDigest other → id_text other ≡ word → id ≡ other) → IsDigest id
IsDigest-parsed word id digits only =
    let found = id_of_text word digits in
    subst IsDigest (sym (only found.0 found.1 found.2)) found.1

-- no id's text begins with the sign of a change
pub id_text-at : (id : Id) (rest : List ℕ) → IsDigest id → id_text id ≢ 64 ∷ rest
id_text-at id rest whole e =
    let digits = rw e at (IsIdText-id_text id whole).1 in
    let head : is_lower_hex_digit 64 ≡ true = All-head (λ c. is_lower_hex_digit c ≡ true) 64 rest digits in
    cc head

-- what follows the sign of a change is its number
pub no_target-numbered : (word number : List ℕ) → word ≡ 64 ∷ number → NonePrints IsNumber decimal number → NonePrints IsTarget target_text word
no_target-numbered word number split none (Named id) whole same = id_text-at id number whole (same ∙ split)
no_target-numbered word number split none (AddedBy n) whole same =
    let sign : 64 ∷ decimal n ≡ 64 ∷ number = same ∙ split in
    let digits : decimal n ≡ number = cc in
    none n whole digits

-- and a target without that sign is an id
pub no_target-named : (word : List ℕ) → ((rest : List ℕ) → word ≢ 64 ∷ rest) → ((id : Id) → IsDigest id → id_text id ≢ word) → NonePrints IsTarget target_text word
no_target-named word other none (Named id) whole same = none id whole same
no_target-named word other none (AddedBy n) whole same = other (decimal n) (sym same)

-- an id is left of what was read where it was read as that
pub id-parsed : {E : Type 0} (r : Result Id E) (id : Id) → result_ok r ≡ Some id → r ≡ Ok id
id-parsed (Ok other) id e = cc
id-parsed (Err f) id e = cc

-- and none where it wasn't read
pub id-none : {E : Type 0} (r : Result Id E) → result_ok r ≡ None → (id : Id) → r ≢ Ok id
id-none (Ok other) e id = cc e
id-none (Err f) e id = λ h. cc h
