-- The documents of folders have no floats.
use Rattle.std.proofs.Common.{◌≡◌, ℕ, Bool, false, ◌||◌, List, [], ◌∷◌, map, refl, ap, ap₂}
use Rattle.serde_json.specs.View.{items_of}
use Rattle.serde_json.specs.Written.{has_float, items_have_float}
use Rattle.keep_names.specs.declared.id.Id.{Id}
use Rattle.keep_docs.specs.Fields.{id_data}
use Rattle.keep_tree.specs.Written.{node_data, tree_data}
use Rattle.keep_backup.specs.Folders.{Folder, no_nodes, file_node, folder_node}
use Rattle.keep_build.specs.Blobs.{id_of}
use Rattle.keep_backup.specs.Walk.{nodes_of, pieces_of}

no_float_ids : (ids : List Id) → items_have_float (items_of (map id_data ids)) ≡ false
no_float_ids [] = refl
no_float_ids (id ∷ ids) = no_float_ids ids

none_or : (b c : Bool) → b ≡ false → c ≡ false → (b || c) ≡ false
none_or b c e f = ap₂ (λ x y. x || y) e f

file_has_none : (b : Bool) → b ≡ false → (b || (false || (false || false))) ≡ false
file_has_none b e = ap (λ x. x || (false || (false || false))) e

no_float_nodes : (cut : ℕ) (folder : Folder) → items_have_float (items_of (map node_data (nodes_of cut folder))) ≡ false
no_float_nodes cut no_nodes = refl
no_float_nodes cut (file_node name bytes more) =
    none_or _ _ (file_has_none _ (no_float_ids (map id_of (pieces_of cut bytes)))) (no_float_nodes cut more)
no_float_nodes cut (folder_node name inner more) = no_float_nodes cut more

pub no_floats : (cut : ℕ) (folder : Folder) → has_float (tree_data (nodes_of cut folder)) ≡ false
no_floats cut folder = ap (λ b. b || false) (no_float_nodes cut folder)
