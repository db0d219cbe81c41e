-- A map of files by their paths, with one more node.
use Rattle.std.proofs.Common.{◌≡◌, ℕ, ◌+◌, ◌<◌, Bool, true, false, cond, List, ◌∷◌, length, drop, map, slice_index_or, Option, None, Some, String, string_bytes, refl, sym, ap, ◌∙◌}
use Rattle.std.proofs.lemmas.List.{drop_more}
use Rattle.std.proofs.lemmas.Map.Text.{hash_map_updates_text}
use Rattle.std.specs.HashMap.{HashMap, UpdatesBy, get_by_text}
use Rattle.std.specs.Option.{option_eq, option_map, option_or}
use Rattle.std.specs.Str.{bytes_eq}
use Rattle.std.specs.String.{string_eq}
use Rattle.keep_nodes.specs.Entries.{EntryData, entry_view}
use Rattle.keep_nodes.specs.declared.path_node.PathNode.{PathNode}
use Rattle.keep_sources.specs.declared.scope.Known as known
use Rattle.keep_backups.specs.Known.{KnownData, known_at, known_behind, known_due, known_view, known_with}
use Rattle.keep_backups.specs.Paths.{source_path}

-- a file that is put there, or not
put : (there : Bool) (file : known.Known) (before : Option known.Known)
    → option_map known_view (cond there (Some file) before)
    ≡ cond there (option_or (Some (known_view file)) (option_map known_view before)) (option_map known_view before)
put true file before = refl
put false file before = refl

-- what is known at a path, where the file of a node is put at the node's path
pub node_put : {A S : Type 0} (old new : HashMap (String A) known.Known S) (key : String A) (file : known.Known) (entry : EntryData)
    (path : List ℕ) → Some (string_bytes key) ≡ source_path entry.path → Some (known_view file) ≡ known_due entry.node
    → UpdatesBy string_eq (λ k. bytes_eq (string_bytes key) (string_bytes k)) old new (Some file)
    → known_at new path ≡ known_with (known_at old path) path entry
node_put old new key file entry path lies due updates =
    ap (option_map known_view) (hash_map_updates_text (string_bytes key) old new (Some file) updates path)
    ∙ put (bytes_eq (string_bytes key) path) file (get_by_text old path)
    ∙ ap (λ at. cond (option_eq bytes_eq at (Some path)) (option_or (Some (known_view file)) (known_at old path)) (known_at old path)) lies
    ∙ ap (λ told. cond (option_eq bytes_eq (source_path entry.path) (Some path)) (option_or told (known_at old path)) (known_at old path)) due

-- what is known at a path, where one more of some nodes is read
pub one_more : (nodes : List PathNode) (i : ℕ) (node : PathNode) (path : List ℕ) (before after : Option KnownData) → i < length nodes
    → node ≡ slice_index_or nodes i node → after ≡ known_with before path (entry_view node)
    → known_behind after path (map entry_view (drop (i + 1) nodes)) ≡ known_behind before path (map entry_view (drop i nodes))
one_more nodes i node path before after within is next =
    ap (λ known. known_behind known path (map entry_view (drop (i + 1) nodes))) next
    ∙ sym (ap (λ all. known_behind before path (map entry_view all)) (drop_more nodes i node within ∙ ap (λ first. first ∷ drop (i + 1) nodes) (sym is)))
