-- The tree of paths, as a value.
use Rattle.std.specs.Prelude.{ℕ, zero, suc, List, [], ◌∷◌, Option, None, Some, slice_get, if◌then◌else◌}
use Rattle.std.specs.Cmp.Lexicographic.{slice_cmp}
use Rattle.std.specs.List.{filter_map}
use Rattle.std.specs.Ordering.{nat_cmp}
use Rattle.std.specs.Str.{bytes_eq}
use Rattle.keep_catalog.specs.Ordered.{in_order}
use Rattle.keep_reach.specs.Reach.{most_levels}
use Rattle.keep_backup.specs.Paths.{FileData, path_of}

-- a folder: its nodes in order, each with its name, and a file with its bytes or a folder with what is in it
pub data Folder : Type 0 where
  no_nodes : Folder
  file_node : List ℕ → List ℕ → Folder → Folder
  folder_node : List ℕ → Folder → Folder → Folder

-- the first name of a path
abbrev pub first_name : FileData → Option (List ℕ)
first_name file = slice_get (path_of file) 0

-- the first names of the paths, once each, in byte order
unfoldable pub first_names : List FileData → List (List ℕ)
first_names files = in_order (slice_cmp nat_cmp) (filter_map first_name files)

-- the file as it is seen from the folder of this name, if its path goes through that
abbrev pub seen_from : List ℕ → FileData → Option FileData
seen_from name ([], bytes) = None
seen_from name (x ∷ path, bytes) = if bytes_eq name x then Some (path, bytes) else None

-- what the files below a name come to: a file, where one stands at the name itself, else a folder
abbrev pub node_at : List ℕ → List FileData → Folder → Folder → Folder
node_at name (([], bytes) ∷ []) inner more = file_node name bytes more
node_at name files inner more = folder_node name inner more

-- a node for each of the names, where this is made of the files that go on from one
abbrev pub nodes_at : (List FileData → Folder) → List FileData → List (List ℕ) → Folder
nodes_at inner files [] = no_nodes
nodes_at inner files (name ∷ names) =
    node_at name (filter_map (seen_from name) files) (inner (filter_map (seen_from name) files))
    (nodes_at inner files names)

-- the folder of these files, where folders may stand at this many levels from it down
abbrev pub folder_at : ℕ → List FileData → Folder
folder_at zero files = no_nodes
folder_at (suc levels) files = nodes_at (folder_at levels) files (first_names files)

-- the folder at the root, of files that aren't too deep
unfoldable pub root_folder : List FileData → Folder
root_folder files = folder_at most_levels files
