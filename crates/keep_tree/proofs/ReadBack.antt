-- A tree that a document can hold reads back from its text.
use Rattle.std.proofs.Common.{◌≡◌, ◌≢◌, ℕ, ◌≤◌, Bool, true, false, cond, List, [], ◌∷◌, map, Some, Result, Ok, Err, IfOk, Vec, Global, IsUtf8, codes, refl, ap, ◌∙◌, subst}
use Rattle.std.proofs.lemmas.List.Elements.{recursion_from_All}
use Rattle.std.proofs.lemmas.Slice.Eq.{bytes_eq-Decides}
use Rattle.std.specs.List.{AllByRecursion, list_any}
use Rattle.std.specs.Str.{bytes_eq}
use Rattle.std.specs.declared.alloc.AllocError.{AllocError}
use Rattle.json.proofs.Printed.Utf8.{IsUtf8-are_ascii}
use Rattle.serde_json.specs.Data.{Data, string, object, Members, put, depth}
use Rattle.serde_json.specs.Find.{get, get_member}
use Rattle.serde_json.specs.Read.{max_depth}
use Rattle.serde_json.specs.Written.{compact_text, has_float}
use Rattle.serde_json.proofs.Views.{get_member-put}
use Rattle.keep_names.specs.Id.{IsDigest}
use Rattle.keep_names.specs.declared.id.Id.{Id}
use Rattle.keep_docs.specs.Doc.{doc_of}
use Rattle.keep_docs.specs.Fields.{as_id, id_data, others}
use Rattle.keep_docs.specs.Lists.{ids_data, ids_in}
use Rattle.keep_docs.specs.Readable.{IsReadable, HasReadable}
use Rattle.keep_docs.proofs.Built.{as_id-id_data, each-map, get_member-put_at, others-put, values_of-items_of, HasReadable-put, IsReadable-id_data, IsReadable-list_data}
use Rattle.keep_docs.proofs.ReadBack.{doc_of-compact_text, has_float-IsReadable}
use Rattle.keep_tree.specs.Tree.{KindData, dir, file, other, NodeData, kind_in, node_in, own_keys, tree_in, tree_of}
use Rattle.keep_tree.specs.Shape.{IsKind, IsNode, IsTree}
use Rattle.keep_tree.proofs.Depth.{depth-tree_data}
use Rattle.keep_tree.specs.Written.{node_data, put_kind, tree_data, type_of}

-- ---- what is written is readable

ids_readable : (ids : List Id) → AllByRecursion IsReadable (map id_data ids)
ids_readable [] = tt
ids_readable (id ∷ ids) = (IsReadable-id_data id, ids_readable ids)

kind_readable : (kind : KindData) (ms : Members) → HasReadable ms → HasReadable (put_kind kind ms)
kind_readable (dir id) ms h = HasReadable-put (codes "subtree") (id_data id) ms (IsUtf8-are_ascii _ refl) (IsReadable-id_data id) h
kind_readable (file ids) ms h = HasReadable-put (codes "content") (ids_data ids) ms (IsUtf8-are_ascii _ refl) (IsReadable-list_data (map id_data ids) (ids_readable ids)) h
kind_readable (other type_name) ms h = h

type_text : (kind : KindData) → IsKind kind → IsUtf8 (type_of kind)
type_text (dir id) h = IsUtf8-are_ascii _ refl
type_text (file ids) h = IsUtf8-are_ascii _ refl
type_text (other type_name) h = h.0

IsReadable-node_data : (node : NodeData) → IsNode node → IsReadable (node_data node)
IsReadable-node_data node h =
    let below = put_kind node.kind node.others in
    let type_name = string (type_of node.kind) in
    HasReadable-put (codes "name") (string node.name) (put (codes "type") type_name below) (IsUtf8-are_ascii _ refl) h.text
    (HasReadable-put (codes "type") type_name below (IsUtf8-are_ascii _ refl) (type_text node.kind h.kind) (kind_readable node.kind node.others h.carried))

nodes_readable : (nodes : List NodeData) → AllByRecursion IsNode nodes → AllByRecursion IsReadable (map node_data nodes)
nodes_readable [] h = tt
nodes_readable (node ∷ nodes) h = (IsReadable-node_data node h.0, nodes_readable nodes h.1)

pub IsReadable-tree_data : (nodes : List NodeData) → IsTree nodes → IsReadable (tree_data nodes)
IsReadable-tree_data nodes h = (IsUtf8-are_ascii _ refl, IsReadable-list_data (map node_data nodes) (nodes_readable nodes (recursion_from_All IsNode nodes h.each)), tt, tt)

-- so its text is the compact one
pub has_float-tree_data : (nodes : List NodeData) → IsTree nodes → has_float (tree_data nodes) ≡ false
has_float-tree_data nodes h = has_float-IsReadable (tree_data nodes) (IsReadable-tree_data nodes h)

-- ---- and is read back

ids_back : (ids : List Id) → AllByRecursion IsDigest ids → AllByRecursion (λ id. as_id (id_data id) ≡ Some id) ids
ids_back [] h = tt
ids_back (id ∷ ids) h = (as_id-id_data id h.0, ids_back ids h.1)

differs_at : (b : Bool) (s t : List ℕ) → bytes_eq s t ≡ b → s ≢ t → bytes_eq s t ≡ false
differs_at true s t is h = absurd (h ((bytes_eq-Decides s t).0 is))
differs_at false s t is h = is

differs : (s t : List ℕ) → s ≢ t → bytes_eq s t ≡ false
differs s t = differs_at (bytes_eq s t) s t refl

module _ (name type_name : Data) where
  -- the members of a node, without its name
  abbrev typed : KindData → Members → Members
  typed kind ms = put (codes "type") type_name (put_kind kind ms)

  -- a node's members
  abbrev written : KindData → Members → Members
  written kind ms = put (codes "name") name (typed kind ms)

  -- a member that is neither the name nor the type
  found_below : (k : List ℕ) (kind : KindData) (ms : Members) (d : Data) → bytes_eq k (codes "name") ≡ false → bytes_eq k (codes "type") ≡ false
      → get_member k (put_kind kind ms) ≡ Some d → get_member k (written kind ms) ≡ Some d
  found_below k kind ms d no_name no_type found =
      get_member-put_at k (codes "name") name (typed kind ms) ∙ ap (λ b. cond b (Some name) (get_member k (typed kind ms))) no_name
      ∙ get_member-put_at k (codes "type") type_name (put_kind kind ms) ∙ ap (λ b. cond b (Some type_name) (get_member k (put_kind kind ms))) no_type ∙ found

  kind_back : (kind : KindData) (ms : Members) → IsKind kind → kind_in (type_of kind) (object (written kind ms)) ≡ Some kind
  kind_back (dir id) ms h =
      let found = found_below (codes "subtree") (dir id) ms (id_data id) refl refl (get_member-put (codes "subtree") (id_data id) ms) in
      rw (found, as_id-id_data id h)
  kind_back (file ids) ms h =
      let found = found_below (codes "content") (file ids) ms (ids_data ids) refl refl (get_member-put (codes "content") (ids_data ids) ms) in
      let back : ids_in (map id_data ids) ≡ Some ids = each-map as_id id_data ids (ids_back ids (recursion_from_All IsDigest ids h)) in
      rw (found, values_of-items_of (map id_data ids), back)
  kind_back (other t) ms h = rw (differs t (codes "dir") h.1, differs t (codes "file") h.2)

  -- what is carried is left, where the keys of its own are put
  others_below : (named : List (List ℕ)) (kind : KindData) (ms : Members) → list_any (λ name. bytes_eq name (codes "name")) named ≡ true
      → list_any (λ name. bytes_eq name (codes "type")) named ≡ true → others named (written kind ms) ≡ others named (put_kind kind ms)
  others_below named kind ms has_name has_type =
      others-put named (codes "name") name (typed kind ms) has_name ∙ others-put named (codes "type") type_name (put_kind kind ms) has_type

  others_back : (kind : KindData) (ms : Members) → others (own_keys kind) ms ≡ ms → others (own_keys kind) (written kind ms) ≡ ms
  others_back (dir id) ms h = others_below (own_keys (dir id)) (dir id) ms refl refl ∙ others-put (own_keys (dir id)) (codes "subtree") (id_data id) ms refl ∙ h
  others_back (file ids) ms h = others_below (own_keys (file ids)) (file ids) ms refl refl ∙ others-put (own_keys (file ids)) (codes "content") (ids_data ids) ms refl ∙ h
  others_back (other t) ms h = others_below (own_keys (other t)) (other t) ms refl refl ∙ h

node_back : (node : NodeData) → IsNode node → node_in (node_data node) ≡ Some node
node_back node h =
    let name = string node.name in
    let type_name = string (type_of node.kind) in
    let below = put_kind node.kind node.others in
    let named : get (codes "name") (node_data node) ≡ Some name = get_member-put (codes "name") name (put (codes "type") type_name below) in
    let has_type : get (codes "type") (node_data node) ≡ Some type_name =
    get_member-put_at (codes "type") (codes "name") name (put (codes "type") type_name below) ∙ get_member-put (codes "type") type_name below in
    rw (named, has_type, kind_back name type_name node.kind node.others h.kind, h.named, others_back name type_name node.kind node.others h.apart)

nodes_back : (nodes : List NodeData) → AllByRecursion IsNode nodes → AllByRecursion (λ node. node_in (node_data node) ≡ Some node) nodes
nodes_back [] h = tt
nodes_back (node ∷ nodes) h = (node_back node h.0, nodes_back nodes h.1)

pub tree_in-tree_data : (nodes : List NodeData) → IsTree nodes → tree_in (tree_data nodes) ≡ Some nodes
tree_in-tree_data nodes h =
    rw (values_of-items_of (map node_data nodes), each-map node_in node_data nodes (nodes_back nodes (recursion_from_All IsNode nodes h.each)), h.distinct)

shallow : (nodes : List NodeData) → IsTree nodes → depth (tree_data nodes) ≤ max_depth
shallow nodes h = depth-tree_data nodes (recursion_from_All IsNode nodes h.each)

pub tree_of-compact_text : (nodes : List NodeData) → IsTree nodes → tree_of (compact_text (tree_data nodes)) ≡ Ok nodes
tree_of-compact_text nodes h =
    rw (doc_of-compact_text (tree_data nodes) (IsReadable-tree_data nodes h) (shallow nodes h), tree_in-tree_data nodes h)

-- and so do the bytes that a writer of documents gave for it
pub bytes_read_back : (r : Result (Vec ℕ Global) AllocError) (d : Data) (nodes : List NodeData) → d ≡ tree_data nodes
    → IfOk r (λ bytes. has_float d ≡ false → depth d ≤ max_depth → doc_of bytes.items ≡ Ok d)
    → IfOk r (λ bytes. IsTree nodes → tree_of bytes.items ≡ Ok nodes)
bytes_read_back (Err e) d nodes is back = tt
bytes_read_back (Ok bytes) d nodes is back = λ whole.
    let P : Data → Type 0 = λ e. has_float e ≡ false → depth e ≤ max_depth → doc_of bytes.items ≡ Ok e in
    rw (subst P is back (has_float-tree_data nodes whole) (shallow nodes whole), tree_in-tree_data nodes whole)
