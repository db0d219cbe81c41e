-- Lists of values: each read, and as one value.
use Rattle.std.specs.Prelude.{ℕ, List, [], ◌∷◌, map, Option, Some, option_map, option_and_then}
use Rattle.serde_json.specs.Data.{Data, string, array}
use Rattle.serde_json.specs.View.{items_of}
use Rattle.serde_json.specs.Find.{as_str}
use Rattle.keep_names.specs.declared.id.Id.{Id}
use Rattle.keep_docs.specs.Fields.{as_id, id_data}

-- each value of a list as what it is read as, if all of them are read
abbrev pub each : {A B : Type 0} → (A → Option B) → List A → Option (List B)
each read [] = Some []
each read (x ∷ xs) = option_and_then (λ y. option_map (λ ys. y ∷ ys) (each read xs)) (read x)

-- a list of texts
abbrev pub texts_in : List Data → Option (List (List ℕ))
texts_in = each as_str

-- a list of ids
abbrev pub ids_in : List Data → Option (List Id)
ids_in = each as_id

-- a list, as a value
abbrev pub list_data : List Data → Data
list_data ds = array (items_of ds)

-- a list of texts, as a value
abbrev pub texts_data : List (List ℕ) → Data
texts_data texts = list_data (map (λ text. string text) texts)

-- a list of ids, as a value
abbrev pub ids_data : List Id → Data
ids_data ids = list_data (map id_data ids)
