-- What is read as a tree is one that a document can hold.
use Rattle.std.proofs.Common.{◌≡◌, ◌≢◌, ℕ, ◌≤◌, Bool, true, false, cond, List, [], ◌∷◌, Some, option_map, option_and_then, ok_or, Ok, Err, IfOk, IsUtf8, Result, codes, refl, subst}
use Rattle.std.proofs.lemmas.List.Elements.{All-from_recursion}
use Rattle.std.proofs.lemmas.Option.{option_and_then_some}
use Rattle.std.proofs.lemmas.Slice.Eq.{bytes_eq-Decides}
use Rattle.std.specs.List.{AllByRecursion}
use Rattle.std.specs.Str.{bytes_eq}
use Rattle.serde_json.specs.Data.{Data, depth}
use Rattle.serde_json.specs.Find.{as_str, get}
use Rattle.keep_names.specs.Id.{IsDigest}
use Rattle.keep_docs.specs.Doc.{Answers, doc_of, shaped}
use Rattle.keep_docs.specs.declared.doc.DocError.{DocError}
use Rattle.keep_docs.specs.declared.doc.DocError.TheVariants.{Memory}
use Rattle.keep_docs.specs.Fields.{as_id, as_list_or_null, field, list_field, other_members}
use Rattle.keep_docs.specs.Lists.{each, ids_in}
use Rattle.keep_docs.specs.Readable.{IsReadable}
use Rattle.keep_docs.proofs.Parts.{HasReadable-other_members, IsDigest-as_id, IsDigest-field, IsReadable-get, IsUtf8-field, depth-get, depth-list, depth-other_members}
use Rattle.keep_docs.proofs.Parts.{each_read, map_parts, others-other_members, passed, readable-list_or_null}
use Rattle.keep_docs.proofs.Reading.{document-doc_of}
use Rattle.keep_tree.specs.Names.{is_name, are_distinct}
use Rattle.keep_tree.specs.Tree.{KindData, dir, file, other, NodeData, kind_in, names_of, node_in, own_keys, tree_in, tree_of, tree_view}
use Rattle.keep_tree.specs.Shape.{IsKind, IsNode, IsTree}
use Rattle.keep_tree.specs.declared.tree.Tree.{Tree}
use Rattle.keep_tree.specs.declared.tree.TreeError.{TreeError}
use Rattle.keep_tree.specs.declared.tree.TreeError.TheVariants.{BadTree, Doc}
use Rattle.keep_docs.proofs.Answered.{found_from_ok}

-- ---- kinds, nodes, trees

other_word : (s t : List ℕ) → bytes_eq s t ≡ false → s ≢ t
other_word s t differs is = let same = (bytes_eq-Decides s t).1 is in cc

kind_whole_at : (b c : Bool) (type_name : List ℕ) (d : Data) (kind : KindData) → bytes_eq type_name (codes "dir") ≡ b → bytes_eq type_name (codes "file") ≡ c → IsUtf8 type_name
    → cond b (option_map dir (field (codes "subtree") as_id d)) (cond c (option_map file (option_and_then ids_in (list_field (codes "content") d))) (Some (other type_name))) ≡ Some kind
    → IsKind kind
kind_whole_at true c type_name d kind is_dir is_file text e =
    let found = map_parts (field (codes "subtree") as_id d) dir kind e in
    subst IsKind found.2 (IsDigest-field (codes "subtree") d found.0 found.1)
kind_whole_at false true type_name d kind is_dir is_file text e =
    let found = map_parts (option_and_then ids_in (list_field (codes "content") d)) file kind e in
    subst IsKind found.2 (option_and_then_some ids_in (list_field (codes "content") d) found.0 found.1 (λ items _ is.
    All-from_recursion IsDigest found.0 (each_read (λ _. Unit {0}) IsDigest as_id (λ x id _ found. IsDigest-as_id x id found) items found.0 (anything items) is)))
  where
    anything : (items : List Data) → AllByRecursion (λ _. Unit {0}) items
    anything [] = tt
    anything (x ∷ items) = (tt, anything items)
kind_whole_at false false type_name d kind is_dir is_file text e =
    let same : other type_name ≡ kind = cc in
    subst IsKind same (text, other_word type_name (codes "dir") is_dir, other_word type_name (codes "file") is_file)

kind_whole : (type_name : List ℕ) (d : Data) (kind : KindData) → IsUtf8 type_name → kind_in type_name d ≡ Some kind → IsKind kind
kind_whole type_name d kind text e = kind_whole_at _ _ type_name d kind refl refl text e

-- a value that nests so that a tree can hold it
abbrev CanStand : Data → Type 0
CanStand d = IsReadable d × (depth d ≤ 125)

stand : (items : List Data) → AllByRecursion IsReadable items → AllByRecursion (λ d. depth d ≤ 125) items → AllByRecursion CanStand items
stand [] readable nests = tt
stand (d ∷ items) readable nests = ((readable.0, nests.0), stand items readable.1 nests.1)

node_whole : (d : Data) (node : NodeData) → CanStand d → node_in d ≡ Some node → IsNode node
node_whole d node (readable, nests) e =
    option_and_then_some _ (field (codes "name") as_str d) node e (λ name is_named e1.
    option_and_then_some _ (field (codes "type") as_str d) node e1 (λ type_name is_typed e2.
    option_and_then_some _ (kind_in type_name d) node e2 (λ kind is_kind e3.
    let made : NodeData = record { name = name; kind = kind; others = other_members (own_keys kind) d } in
    let can = passed (is_name name) made node e3 in
    subst IsNode can.1 (record {
      named = can.0;
      text = IsUtf8-field (codes "name") d name readable is_named;
      kind = kind_whole type_name d kind (IsUtf8-field (codes "type") d type_name readable is_typed) is_kind;
      carried = HasReadable-other_members (own_keys kind) d readable;
      nests = depth-other_members (own_keys kind) d 124 nests;
      apart = others-other_members (own_keys kind) d;
    }))))

-- a tree that was read of a readable value
IsTree-tree_in : (d : Data) (nodes : List NodeData) → IsReadable d → depth d ≤ 127 → tree_in d ≡ Some nodes → IsTree nodes
IsTree-tree_in d nodes readable nests e =
    option_and_then_some _ (field (codes "nodes") as_list_or_null d) nodes e (λ items has_items e1.
    option_and_then_some _ (each node_in items) nodes e1 (λ found are_found e2.
    let can = passed (are_distinct (names_of found)) found nodes e2 in
    let all : AllByRecursion CanStand items =
    option_and_then_some as_list_or_null (get (codes "nodes") d) items has_items (λ x at is.
    stand items (readable-list_or_null x items (IsReadable-get (codes "nodes") d x readable at) is) (depth-list x items 125 (depth-get (codes "nodes") d x 126 nests at) is)) in
    subst IsTree can.1 (record {
      each = All-from_recursion IsNode found (each_read CanStand IsNode node_in node_whole items found all are_found);
      distinct = can.0;
    })))

-- a tree that was read of a document's bytes
of_document : (bytes : List ℕ) (nodes : List NodeData) (r : Result Data DocError) → doc_of bytes ≡ r → shaped Doc (λ d. ok_or (tree_in d) BadTree) r ≡ Ok nodes → IsTree nodes
of_document bytes nodes (Ok d) is e =
    let document = document-doc_of bytes d is in
    IsTree-tree_in d nodes document.0 document.1 (found_from_ok (tree_in d) BadTree nodes e)
of_document bytes nodes (Err x) is e = cc

pub IsTree-tree_of : (bytes : List ℕ) (nodes : List NodeData) → tree_of bytes ≡ Ok nodes → IsTree nodes
IsTree-tree_of bytes nodes e = of_document bytes nodes (doc_of bytes) refl e

-- and so an answer is
pub answer_is_tree : (r : Result Tree TreeError) (bytes : List ℕ) (d : Data) → doc_of bytes ≡ Ok d → Answers (Doc Memory) tree_view (ok_or (tree_in d) BadTree) r
    → IfOk r (λ tree. IsTree (tree_view tree))
answer_is_tree (Ok tree) bytes d is due =
    let document = document-doc_of bytes d is in
    IsTree-tree_in d (tree_view tree) document.0 document.1 (found_from_ok (tree_in d) BadTree (tree_view tree) due)
answer_is_tree (Err e) bytes d is due = tt
