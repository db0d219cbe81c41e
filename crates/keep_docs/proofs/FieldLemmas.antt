-- What the members of an object are read as.
use Rattle.std.proofs.Common.{◌≡◌, ℕ, ◌↔◌, List, [], ◌∷◌, map, None, Some, option_map, Result, Ok, Err, IsOk, IfOk, Vec, Global, IsUtf8, ◌≤◌, Bool, true, false, cond, refl, sym, ap, ◌∙◌}
use Rattle.std.proofs.lemmas.Str.{is_utf8-from_IsUtf8, IsUtf8-from_is_utf8}
use Rattle.std.specs.Result.{result_ok}
use Rattle.std.specs.Str.{is_utf8}
use Rattle.std.specs.declared.alloc.AllocError.{AllocError}
use Rattle.serde_json.specs.Data.{Data, null, boolean, number, string, array, object, depth}
use Rattle.serde_json.specs.Find.{as_array, get}
use Rattle.serde_json.specs.Read.{max_depth, read}
use Rattle.serde_json.specs.View.{view, items_view}
use Rattle.serde_json.specs.Written.{has_float}
use Rattle.serde_json.specs.declared.value.Value.{Value}
use Rattle.keep_names.specs.Id.{IsDigest, IsIdText, id_text}
use Rattle.keep_names.specs.declared.id.BadId.{BadId}
use Rattle.keep_names.specs.declared.id.Id.{Id}
use Rattle.keep_names.proofs.IdText as names
use Rattle.keep_docs.specs.Doc.{doc_of, whole_value}
use Rattle.keep_docs.specs.declared.doc.DocError.TheVariants.{NotJson, BadNumber}
use Rattle.keep_docs.specs.Fields.{values_of, as_list, field, list_field, id_of_text}
use Rattle.keep_docs.proofs.IdTexts.{id_of_text-id_text, id_of_text_refused}

-- the values of a list, one by one
pub values_of-items_view : (vs : List Value) → values_of (items_view vs) ≡ map view vs
values_of-items_view [] = refl
values_of-items_view (v ∷ vs) = ap (λ ds. view v ∷ ds) (values_of-items_view vs)

as_list-as_array : (d : Data) → as_list d ≡ option_map values_of (as_array d)
as_list-as_array null = refl
as_list-as_array (boolean b) = refl
as_list-as_array (number n) = refl
as_list-as_array (string s) = refl
as_list-as_array (array ds) = refl
as_list-as_array (object ms) = refl

-- a list at a key
pub list_found : (k : List ℕ) (d e : Data) (vs : List Value) → Some e ≡ get k d → Some (items_view vs) ≡ as_array e → Some (map view vs) ≡ field k as_list d
list_found k d e vs found is = rw (← found, as_list-as_array e, ← is, values_of-items_view vs)

pub nullable_list_found : (k : List ℕ) (d e : Data) (vs : List Value) → Some e ≡ get k d → e ≡ array (items_view vs) → Some (map view vs) ≡ list_field k d
nullable_list_found k d e vs found is = rw (← found, is, values_of-items_view vs)

-- an id in a text
pub id_parsed : (text : List ℕ) (r : Result Id BadId) → (IsOk r ↔ IsIdText text) → ((id : Id) → IsDigest id → id_text id ≡ text → r ≡ Ok id) → result_ok r ≡ id_of_text text
id_parsed text (Ok id) accepted printed =
    let named = names.id_of_text text (accepted.0 refl) in
    ap result_ok (printed named.0 named.1 named.2) ∙ sym (ap id_of_text (sym named.2) ∙ id_of_text-id_text named.0 named.1)
id_parsed text (Err e) accepted printed = sym (id_of_text_refused text (λ h. let no = accepted.1 h in cc))

-- a text that is written reads back
pub written_reads_back : (r : Result (Vec ℕ Global) AllocError) (d : Data) → IfOk r (λ bytes. IsUtf8 bytes.items) → IfOk r (λ bytes. depth d ≤ max_depth → read bytes.items ≡ Some d)
    → IfOk r (λ bytes. has_float d ≡ false → depth d ≤ max_depth → doc_of bytes.items ≡ Ok d)
written_reads_back (Ok bytes) d utf8 back = λ whole shallow. rw (is_utf8-from_IsUtf8 _ utf8, back shallow, whole)
written_reads_back (Err e) d utf8 back = tt

-- ---- what a document is read as

not_json : (bytes : List ℕ) (b : Bool) → is_utf8 bytes ≡ b → (IsUtf8 bytes → read bytes ≡ None) → cond b (whole_value (read bytes)) (Err NotJson) ≡ Err NotJson
not_json bytes true e h = ap whole_value (h (IsUtf8-from_is_utf8 bytes e))
not_json bytes false e h = refl

-- no UTF-8, or no JSON
pub doc_of_refused : (bytes : List ℕ) → (IsUtf8 bytes → read bytes ≡ None) → doc_of bytes ≡ Err NotJson
doc_of_refused bytes h = not_json bytes (is_utf8 bytes) refl h

-- a value, by whether it has a float
pub doc_of_value : (bytes : List ℕ) (d : Data) (b : Bool) → IsUtf8 bytes → read bytes ≡ Some d → has_float d ≡ b → doc_of bytes ≡ cond b (Err BadNumber) (Ok d)
doc_of_value bytes d b utf8 is float = rw (is_utf8-from_IsUtf8 bytes utf8, is, float)
