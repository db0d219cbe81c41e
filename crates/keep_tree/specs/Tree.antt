-- The shape of a tree (restic's design document, "Trees and Data").
use Rattle.std.specs.Prelude.{ℕ, List, [], ◌∷◌, map, Option, None, Some, option_map, option_and_then, Result, ok_or, codes, string_bytes, if◌then◌else◌}
use Rattle.std.specs.Str.{bytes_eq}
use Rattle.serde_json.specs.Data.{Data, Members}
use Rattle.serde_json.specs.Find.{as_str}
use Rattle.serde_json.specs.View.{members_view}
use Rattle.keep_names.specs.declared.id.Id.{Id}
use Rattle.keep_docs.specs.Doc.{doc_of, shaped}
use Rattle.keep_docs.specs.Fields.{◌>>=◌, as_id, as_list_or_null, field, list_field, other_members}
use Rattle.keep_docs.specs.Lists.{each, ids_in}
use Rattle.keep_tree.specs.Names.{is_name, are_distinct}
use Rattle.keep_tree.specs.declared.node.Node.{Node}
use Rattle.keep_tree.specs.declared.node.NodeKind.{NodeKind}
use Rattle.keep_tree.specs.declared.node.NodeKind.TheVariants.{Dir, File, Other}
use Rattle.keep_tree.specs.declared.tree.Tree.{Tree}
use Rattle.keep_tree.specs.declared.tree.TreeError.{TreeError}
use Rattle.keep_tree.specs.declared.tree.TreeError.TheVariants.{Doc, BadTree}

-- what a node is: a folder with its tree, a file with its pieces in order, or of another type
pub data KindData : Type 0 where
  dir : Id → KindData
  file : List Id → KindData
  other : List ℕ → KindData

-- what a node says: its name, what it is, and its other members, which are carried
pub record NodeData : Type 0 where
  pub name : List ℕ
  pub kind : KindData
  pub others : Members

-- ---- what the types of the code say

abbrev pub kind_view : NodeKind → KindData
kind_view (Dir subtree) = dir subtree
kind_view (File content) = file content.items
kind_view (Other type_name) = other (string_bytes type_name)

abbrev pub node_view : Node → NodeData
node_view node =
    let others = members_view node.others.entries in
    record { name = string_bytes node.name; kind = kind_view node.kind; others = others }

-- a tree is its nodes
abbrev pub tree_view : Tree → List NodeData
tree_view tree = map node_view tree.nodes.items

-- ---- what a document says

-- What a node of a type is. The content of a file may be null or missing, and is empty then.
abbrev pub kind_in : List ℕ → Data → Option KindData
kind_in type_name d =
    if bytes_eq type_name (codes "dir") then option_map dir (field (codes "subtree") as_id d)
    else (if bytes_eq type_name (codes "file")
    then option_map file (option_and_then ids_in (list_field (codes "content") d))
    else Some (other type_name))

-- the keys whose members a node of this kind has for itself; all others are carried
abbrev pub own_keys : KindData → List (List ℕ)
own_keys (dir _) = codes "name" ∷ codes "type" ∷ codes "subtree" ∷ []
own_keys (file _) = codes "name" ∷ codes "type" ∷ codes "content" ∷ []
own_keys (other _) = codes "name" ∷ codes "type" ∷ []

-- a node: its name and its type are texts, and it can have that name
abbrev pub node_in : Data → Option NodeData
node_in d = do
  name ← field (codes "name") as_str d
  type_name ← field (codes "type") as_str d
  kind ← kind_in type_name d
  if is_name name
      then Some (record { name = name; kind = kind; others = other_members (own_keys kind) d })
      else None

-- the names of nodes
abbrev pub names_of : List NodeData → List (List ℕ)
names_of nodes = map (λ (node : NodeData). node.name) nodes

-- the nodes of a tree, no two of one name; null is none
abbrev pub tree_in : Data → Option (List NodeData)
tree_in d = do
  items ← field (codes "nodes") as_list_or_null d
  nodes ← each node_in items
  if are_distinct (names_of nodes) then Some nodes else None

-- what the bytes of a tree are to be read as
abbrev pub tree_of : List ℕ → Result (List NodeData) TreeError
tree_of bytes = shaped Doc (λ d. ok_or (tree_in d) BadTree) (doc_of bytes)
