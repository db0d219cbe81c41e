-- How the nodes of one snapshot differ from those of another, by path.
use Rattle.std.specs.Prelude.{ℕ, Bool, List, [], ◌∷◌, Option, None, Some, if◌then◌else◌}
use Rattle.std.specs.FinMap as finite
use Rattle.std.specs.List.{filter_map}
use Rattle.std.specs.Str.{bytes_eq}
use Rattle.serde_json.specs.Written.{compact_text}
use Rattle.keep_tree.specs.Tree.{NodeData}
use Rattle.keep_tree.specs.Written.{tree_data}
use Rattle.keep_read.specs.Restored.{path_cmp}
use Rattle.keep_nodes.specs.Entries.{EntryData}

-- nodes put into a map by their paths, one after the other: of two at one path the later stays
abbrev pub put_all : finite.FinMap path_cmp EntryData → List EntryData → finite.FinMap path_cmp EntryData
put_all m [] = m
put_all m (e ∷ es) = put_all (finite.insert m e.path e) es

-- nodes by path
abbrev pub by_path : List EntryData → finite.FinMap path_cmp EntryData
by_path entries = put_all finite.empty entries

-- a node as a tree writes it
abbrev pub node_text : NodeData → List ℕ
node_text node = compact_text (tree_data (node ∷ []))

-- whether a tree writes two nodes alike: their names, kinds, contents and members
abbrev pub is_same : NodeData → NodeData → Bool
is_same a b = bytes_eq (node_text a) (node_text b)

-- a node that came, one that went, and one that is another at the same path
pub data DifferenceData : Type 0 where
  added : EntryData → DifferenceData
  removed : EntryData → DifferenceData
  changed : EntryData → EntryData → DifferenceData

-- how what stood at a path differs from what stands there
abbrev pub difference : Option EntryData → Option EntryData → Option DifferenceData
difference None None = None
difference None (Some new) = Some (added new)
difference (Some old) None = Some (removed old)
difference (Some old) (Some new) = if is_same old.node new.node then None else Some (changed old new)

abbrev pub difference_at : finite.FinMap path_cmp EntryData → finite.FinMap path_cmp EntryData → List ℕ → Option DifferenceData
difference_at old new path = difference (finite.get old path) (finite.get new path)

-- the differences at all paths that the one or the other has, in the byte order of paths
unfoldable pub differences : List EntryData → List EntryData → List DifferenceData
differences old new =
    filter_map (difference_at (by_path old) (by_path new)) (finite.keys (put_all (by_path old) new))
