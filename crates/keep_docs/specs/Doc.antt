-- The value of a document, and what a reader of documents answers.
use Rattle.std.specs.Prelude.{◌≡◌, ◌≢◌, ℕ, List, Option, None, Some, Result, Ok, Err, IsOk, if◌then◌else◌}
use Rattle.std.specs.Str.{is_utf8}
use Rattle.serde_json.specs.Data.{Data}
use Rattle.serde_json.specs.Read.{read}
use Rattle.serde_json.specs.Written.{has_float}
use Rattle.keep_docs.specs.declared.doc.DocError.{DocError}
use Rattle.keep_docs.specs.declared.doc.DocError.TheVariants.{NotJson, BadNumber}

-- the value, unless a number of it is neither an i64 nor a u64, which `serde_json` reads as a float
abbrev pub whole_value : Option Data → Result Data DocError
whole_value None = Err NotJson
whole_value (Some d) = if has_float d then Err BadNumber else Ok d

-- the value of a document: its bytes are UTF-8 and one JSON text (RFC 8259), nested to at most 127 levels
abbrev pub doc_of : List ℕ → Result Data DocError
doc_of bytes = if is_utf8 bytes then whole_value (read bytes) else Err NotJson

-- What is read of a document by its shape. The document's own refusal, wrapped, comes first.
abbrev pub shaped : {V E : Type 0} → (DocError → E) → (Data → Result V E)
    → Result Data DocError → Result V E
shaped wrap shape (Ok d) = shape d
shaped wrap shape (Err refusal) = Err (wrap refusal)

-- What a reader answers, where `due` is what it is to read: a value that stands for just that, or just that
-- refusal. Want of memory may come in place of either.
abbrev pub Answers : {T V E : Type 0} → E → (T → V) → Result V E → Result T E → Type 0
Answers memory view due (Ok value) = due ≡ Ok (view value)
Answers memory view due (Err refusal) = refusal ≢ memory → due ≡ Err refusal

-- What a function gives that finds each refusal without memory: it answers, and memory runs out only where
-- there is a value to give.
abbrev pub Gives : {T V E : Type 0} → E → (T → V) → Result V E → Result T E → Type 0
Gives memory view due (Ok value) = due ≡ Ok (view value)
Gives memory view due (Err refusal) = (refusal ≢ memory → due ≡ Err refusal) × (refusal ≡ memory → IsOk due)
