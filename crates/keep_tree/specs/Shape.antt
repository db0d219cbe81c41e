-- The trees that a document can hold.
use Rattle.std.specs.Prelude.{◌≡◌, ◌≢◌, ◌≤◌, List, IsTrue, IsUtf8, All, codes}
use Rattle.serde_json.specs.Data.{members_depth}
use Rattle.keep_names.specs.Id.{IsDigest}
use Rattle.keep_docs.specs.Fields.{others}
use Rattle.keep_docs.specs.Readable.{HasReadable}
use Rattle.keep_tree.specs.Names.{is_name, are_distinct}
use Rattle.keep_tree.specs.Tree.{KindData, dir, file, other, NodeData, names_of, own_keys}

-- what a node can be: its ids are digests, and the word for another type is a text and neither of the two
abbrev pub IsKind : KindData → Type 0
IsKind (dir subtree) = IsDigest subtree
IsKind (file content) = All IsDigest content
IsKind (other type_name) = IsUtf8 type_name × (type_name ≢ codes "dir") × (type_name ≢ codes "file")

-- A node that a document can hold. None of the members that it carries has one of its own keys, and they nest
-- to at most 124 levels: a document nests to 127, of which the tree, its list and the node are three.
pub record IsNode (node : NodeData) : Type 0 where
  pub named : IsTrue (is_name node.name)
  pub text : IsUtf8 node.name
  pub kind : IsKind node.kind
  pub carried : HasReadable node.others
  pub nests : members_depth node.others ≤ 124
  pub apart : others (own_keys node.kind) node.others ≡ node.others

-- a tree that a document can hold: no two of its nodes have one name
pub record IsTree (nodes : List NodeData) : Type 0 where
  pub each : All IsNode nodes
  pub distinct : IsTrue (are_distinct (names_of nodes))
