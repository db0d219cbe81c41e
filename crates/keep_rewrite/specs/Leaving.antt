-- What goes from a tree, and what it is without that.
use Rattle.std.specs.Prelude.{ℕ, zero, suc, Bool, false, ◌||◌, List, [], ◌∷◌, ◌++◌, map, unwrap_or, if◌then◌else◌}
use Rattle.std.specs.List.{flat_map, list_any}
use Rattle.std.specs.Result.{result_ok}
use Rattle.std.specs.Str.{chars}
use Rattle.keep_names.specs.declared.id.Id.{Id}
use Rattle.keep_repo.specs.Repository.{Repository}
use Rattle.keep_tree.specs.Tree.{KindData, dir, file, other, NodeData}
use Rattle.keep_patterns.specs.Parsing.{PatternData}
use Rattle.keep_patterns.specs.Without.{is_matched, without}
use Rattle.keep_catalog.specs.Naming.{nodes_under}
use Rattle.keep_build.specs.Blobs.{BlobData, id_of, tree_blob}

-- a path: the names from the root on
abbrev pub Path : Type 0
Path = List (List ℕ)

-- the path of a node of the directory at a path
abbrev pub path_below : Path → NodeData → Path
path_below at node = at ++ node.name ∷ []

-- the nodes of a tree; none where it can't be had
unfoldable pub nodes_in : Repository → Id → List NodeData
nodes_in r tree = unwrap_or (result_ok (nodes_under r tree)) []

-- ---- whether something goes

-- whether the node goes, because a pattern matches its path
abbrev pub goes : List PatternData → Path → NodeData → Bool
goes patterns at node = is_matched patterns (map chars (path_below at node))

-- whether something goes below a node at this path, where `loses` says it of trees
abbrev pub kind_loses : (Path → Id → Bool) → Path → KindData → Bool
kind_loses loses at (dir subtree) = loses at subtree
kind_loses loses at (file content) = false
kind_loses loses at (other type_name) = false

-- whether the node goes, or something below it
abbrev pub node_loses : List PatternData → (Path → Id → Bool) → Path → NodeData → Bool
node_loses patterns loses at node = goes patterns at node || kind_loses loses (path_below at node) node.kind

-- whether something in or below the tree at this path goes, where trees may stand at so many levels
abbrev pub loses : Repository → List PatternData → ℕ → Path → Id → Bool
loses r patterns zero at tree = false
loses r patterns (suc levels) at tree =
    list_any (node_loses patterns (loses r patterns levels) at) (nodes_in r tree)

-- ---- what is left

-- what a node at this path is then, where `left` says which tree is left of one
abbrev pub kind_left : (Path → Id → Id) → Path → KindData → KindData
kind_left left at (dir subtree) = dir (left at subtree)
kind_left left at (file content) = file content
kind_left left at (other type_name) = other type_name

-- the node with that, and all else as it was
abbrev pub node_left : (Path → Id → Id) → Path → NodeData → NodeData
node_left left at node = record node { kind = kind_left left (path_below at node) node.kind }

-- the nodes of the directory at this path that stay; one that is left empty is a directory still
abbrev pub nodes_left : List PatternData → (Path → Id → Id) → Path → List NodeData → List NodeData
nodes_left patterns left at nodes = map (node_left left at) (without patterns at nodes)

-- The tree that is left of the tree at this path. One of which nothing goes stays, however it is spelt; another one
-- is written anew.
abbrev pub tree_left : Repository → List PatternData → ℕ → Path → Id → Id
tree_left r patterns zero at tree = tree
tree_left r patterns (suc levels) at tree =
    if loses r patterns (suc levels) at tree
    then id_of (tree_blob (nodes_left patterns (tree_left r patterns levels) at (nodes_in r tree)))
    else tree

-- ---- what is written anew

-- the trees that are written anew at and below a node, where `finished` says it of trees
abbrev pub kind_finished : (Path → Id → List BlobData) → Path → KindData → List BlobData
kind_finished finished at (dir subtree) = finished at subtree
kind_finished finished at (file content) = []
kind_finished finished at (other type_name) = []

-- those below the nodes that stay, in their order
abbrev pub nodes_finished : List PatternData → (Path → Id → List BlobData) → Path → List NodeData → List BlobData
nodes_finished patterns finished at nodes =
    flat_map (λ (node : NodeData). kind_finished finished (path_below at node) node.kind) (without patterns at nodes)

-- The trees that are written anew at and below the tree at this path, in the order in which they are finished: those
-- below it, and then the tree itself, if something of it goes. One that several paths share stands there for each.
abbrev pub finished : Repository → List PatternData → ℕ → Path → Id → List BlobData
finished r patterns zero at tree = []
finished r patterns (suc levels) at tree =
    nodes_finished patterns (finished r patterns levels) at (nodes_in r tree)
    ++ (if loses r patterns (suc levels) at tree
    then (tree_blob (nodes_left patterns (tree_left r patterns levels) at (nodes_in r tree)) ∷ [])
    else [])
