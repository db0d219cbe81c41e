-- A tree as a document.
use Rattle.std.specs.Prelude.{ℕ, List, map, codes}
use Rattle.serde_json.specs.Data.{Data, string, object, Members, no_members, member, put}
use Rattle.keep_docs.specs.Fields.{id_data}
use Rattle.keep_docs.specs.Lists.{ids_data, list_data}
use Rattle.keep_tree.specs.Tree.{KindData, dir, file, other, NodeData}

-- the word for the type of a node
abbrev pub type_of : KindData → List ℕ
type_of (dir _) = codes "dir"
type_of (file _) = codes "file"
type_of (other type_name) = type_name

-- with the member that only a node of this kind has for itself
abbrev pub put_kind : KindData → Members → Members
put_kind (dir subtree) members = put (codes "subtree") (id_data subtree) members
put_kind (file content) members = put (codes "content") (ids_data content) members
put_kind (other _) members = members

-- a node as a value: its own members among the others, the keys in byte order
abbrev pub node_data : NodeData → Data
node_data node =
    let typed = put (codes "type") (string (type_of node.kind)) (put_kind node.kind node.others) in
    object (put (codes "name") (string node.name) typed)

-- a tree as a value: nothing but its nodes, in order
abbrev pub tree_data : List NodeData → Data
tree_data nodes = object (member (codes "nodes") (list_data (map node_data nodes)) no_members)
