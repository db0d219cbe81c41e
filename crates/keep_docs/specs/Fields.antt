-- What shapes are made of: the members of an object, and the kinds of values that stand in them.
use Rattle.std.specs.Prelude.{ℕ, List, [], ◌∷◌, Option, None, Some, option_map, option_and_then, nat_lt, if◌then◌else◌}
use Rattle.std.specs.List.{list_all, list_any}
use Rattle.std.specs.Result.{result_ok}
use Rattle.std.specs.Str.{bytes_eq}
use Rattle.hex.specs.Hex.{decode_sized}
use Rattle.serde_json.specs.Data.{Data, null, boolean, number, string, array, object, Items, no_items, item, Members, no_members, member}
use Rattle.serde_json.specs.Find.{as_number, as_str, as_u64, get}
use Rattle.keep_names.specs.Id.{id_text, is_lower_hex_digit}
use Rattle.keep_names.specs.declared.id.Id.{Id}

infixl 10 ◌>>=◌
-- what follows of a value, if there is one
abbrev pub ◌>>=◌ : {A B : Type 0} → Option A → (A → Option B) → Option B
o >>= f = option_and_then f o

-- ---- kinds of values

-- the id whose text this is: 64 lower case hex digits, two for each byte
abbrev pub id_of_text : List ℕ → Option Id
id_of_text text =
    if list_all is_lower_hex_digit text
    then option_map (λ bytes. record { 0 = bytes }) (result_ok (decode_sized text 32))
    else None

-- the id that the value's text is
abbrev pub as_id : Data → Option Id
as_id d = option_and_then id_of_text (as_str d)

-- the text of an id, as a value
abbrev pub id_data : Id → Data
id_data id = string (id_text id)

-- a whole number from 0 to 2^64 - 1
abbrev pub as_whole : Data → Option ℕ
as_whole d = option_and_then as_u64 (as_number d)

-- the number, if it is below the limit
abbrev pub if_below : ℕ → ℕ → Option ℕ
if_below limit n = if nat_lt n limit then Some n else None

-- a whole number below a limit
abbrev pub as_below : ℕ → Data → Option ℕ
as_below limit d = option_and_then (if_below limit) (as_whole d)

-- the values of a list, in order
abbrev pub values_of : Items → List Data
values_of no_items = []
values_of (item d ds) = d ∷ values_of ds

-- a list
abbrev pub as_list : Data → Option (List Data)
as_list null = None
as_list (boolean b) = None
as_list (number n) = None
as_list (string s) = None
as_list (array ds) = Some (values_of ds)
as_list (object ms) = None

-- a list, where null is the empty one
abbrev pub as_list_or_null : Data → Option (List Data)
as_list_or_null null = Some []
as_list_or_null (boolean b) = None
as_list_or_null (number n) = None
as_list_or_null (string s) = None
as_list_or_null (array ds) = Some (values_of ds)
as_list_or_null (object ms) = None

-- ---- members of an object

-- what the member of a key is read as
abbrev pub field : {V : Type 0} → List ℕ → (Data → Option V) → Data → Option V
field key read d = option_and_then read (get key d)

-- what is read as what, where there may be nothing to read
abbrev pub if_there : {V : Type 0} → (Data → Option V) → Option Data → Option (Option V)
if_there read None = Some None
if_there read (Some d) = option_map (λ v. Some v) (read d)

-- what the member of a key is read as, if there is one
abbrev pub optional : {V : Type 0} → List ℕ → (Data → Option V) → Data → Option (Option V)
optional key read d = if_there read (get key d)

-- a value that may be missing, which counts as null
abbrev pub or_null : Option Data → Data
or_null None = null
or_null (Some d) = d

-- the list of a key. Null and no member are the empty one
abbrev pub list_field : List ℕ → Data → Option (List Data)
list_field key d = as_list_or_null (or_null (get key d))

-- the members whose keys aren't among those named
abbrev pub others : List (List ℕ) → Members → Members
others named no_members = no_members
others named (member k d ms) =
    if list_any (λ name. bytes_eq name k) named then others named ms else member k d (others named ms)

-- the other members of an object; what is no object has none
abbrev pub other_members : List (List ℕ) → Data → Members
other_members named null = no_members
other_members named (boolean b) = no_members
other_members named (number n) = no_members
other_members named (string s) = no_members
other_members named (array ds) = no_members
other_members named (object ms) = others named ms
