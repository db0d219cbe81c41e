-- What a tree has by path, its folders too (restic's design document, "Trees and Data").
use Rattle.std.specs.Prelude.{ℕ, zero, suc, List, [], ◌∷◌, ◌++◌, map, string_bytes, codes}
use Rattle.std.specs.List.{flat_map}
use Rattle.keep_names.specs.declared.id.Id.{Id}
use Rattle.keep_repo.specs.Repository.{Repository}
use Rattle.keep_tree.specs.Tree.{KindData, dir, file, other, NodeData, node_view}
use Rattle.keep_read.specs.Contents.{nodes_in}
use Rattle.keep_nodes.specs.declared.path_node.PathNode.{PathNode}

-- a node at its path: `/` and the names from the root on, joined by `/`
pub record EntryData : Type 0 where
  pub path : List ℕ
  pub node : NodeData

-- a node at a path
abbrev pub at : List ℕ → NodeData → EntryData
at path node = record { path = path; node = node }

-- what an `PathNode` says
abbrev pub entry_view : PathNode → EntryData
entry_view entry = at (string_bytes entry.path) (node_view entry.node)

-- with a path in front
abbrev pub under : List ℕ → EntryData → EntryData
under front entry = at (front ++ entry.path) entry.node

-- what is below a node of this kind: below a folder what is below its tree, else nothing
abbrev pub entries_in : (Id → List EntryData) → KindData → List EntryData
entries_in below (dir subtree) = below subtree
entries_in below (file content) = []
entries_in below (other type_name) = []

-- a node and what is below it, by the path from the folder: `/`, the node's name, and on from there
abbrev pub entries_of : (Id → List EntryData) → NodeData → List EntryData
entries_of below node =
    map (under (codes "/" ++ node.name)) (at [] node ∷ entries_in below node.kind)

-- what is below a tree with so many levels of trees, by the path from there: depth first, in the order of its nodes
abbrev pub entries_at : Repository → ℕ → Id → List EntryData
entries_at r zero tree = []
entries_at r (suc levels) tree = flat_map (entries_of (entries_at r levels)) (nodes_in r tree)
