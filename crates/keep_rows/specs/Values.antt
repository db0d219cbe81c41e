-- Parts of rows, as cells and as JSON values.
use Rattle.std.specs.Prelude.{ℕ, List, [], ◌∷◌, ◌++◌, codes, Option, option_map, take, unwrap_or}
use Rattle.std.specs.Fmt.{decimal}
use Rattle.std.specs.List.{flat_map}
use Rattle.serde_json.specs.Data.{Data, number, unsigned, string}
use Rattle.hex.specs.Hex.{encode_lower}
use Rattle.keep_names.specs.declared.id.Id.{Id}
use Rattle.keep_docs.specs.Fields.{or_null}
use Rattle.keep_tables.specs.Sizes.{size_text}
use Rattle.keep_tables.specs.Times.{local_text, utc_text}
use Rattle.keep_rows.specs.declared.when.When.{When}

-- a cell that is empty where there is nothing
abbrev pub or_empty : Option (List ℕ) → List ℕ
or_empty text = unwrap_or text []

abbrev pub number_cell : Option ℕ → List ℕ
number_cell n = or_empty (option_map decimal n)

abbrev pub size_cell : Option ℕ → List ℕ
size_cell n = or_empty (option_map size_text n)

-- a moment on its clock, and in UTC
abbrev pub local_of : When → List ℕ
local_of at = local_text at.moment at.offset

abbrev pub utc_of : When → List ℕ
utc_of at = utc_text at.moment

abbrev pub when_cell : Option When → List ℕ
when_cell at = or_empty (option_map local_of at)

-- the first eight digits of an id: those of its first four bytes
abbrev pub short_id : Id → List ℕ
short_id id = encode_lower (take 4 id.0)

-- a text behind a comma, and texts with commas between them
abbrev pub behind_comma : List ℕ → List ℕ
behind_comma text = codes ", " ++ text

abbrev pub joined : List (List ℕ) → List ℕ
joined [] = []
joined (text ∷ texts) = text ++ flat_map behind_comma texts

-- a number as a value, and one that may be missing, which is null
abbrev pub number_data : ℕ → Data
number_data n = number (unsigned n)

abbrev pub maybe_number : Option ℕ → Data
maybe_number n = or_null (option_map number_data n)

-- a text that may be missing
abbrev pub maybe_text : Option (List ℕ) → Data
maybe_text text = or_null (option_map (λ t. string t) text)
