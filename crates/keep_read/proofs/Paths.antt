-- No two of what stands below a tree have one path.
use Rattle.std.proofs.Common.{◌≡◌, ◌≢◌, ℕ, zero, suc, Bool, true, false, cond, not, ◌||◌, ◌==◌, List, [], ◌∷◌, ◌++◌, map, length, Option, None, Some, Result, Ok, Err, option_map, ok_or, AllPairs, arith, codes, refl, sym, ap, subst, ◌∙◌}
use Rattle.std.proofs.lemmas.Bool.Decides.{Decides-eqb}
use Rattle.std.proofs.lemmas.List.{append_cancel_left}
use Rattle.std.proofs.lemmas.List.Elements.{All-from_recursion}
use Rattle.std.proofs.lemmas.List.Kept.{AllPairs-cons}
use Rattle.std.proofs.lemmas.Map.Keys.{IsDistinct-head, IsDistinct-tail}
use Rattle.std.proofs.lemmas.Map.Made.{IsDistinct-from_count}
use Rattle.std.proofs.lemmas.Option.{option_and_then_some}
use Rattle.std.proofs.lemmas.Slice.Eq.{bytes_eq-Decides}
use Rattle.std.specs.Cmp.Lexicographic.{nat_list_eq_equiv}
use Rattle.std.specs.List.{AllByRecursion, IsDistinct, flat_map, list_any}
use Rattle.std.specs.Option.{option_map_or}
use Rattle.std.specs.Set.{distinct_count}
use Rattle.std.specs.Str.{bytes_eq}
use Rattle.serde_json.specs.Data.{Data}
use Rattle.serde_json.specs.Find.{as_str}
use Rattle.keep_names.specs.declared.id.Id.{Id}
use Rattle.keep_repo.specs.Repository.{Repository}
use Rattle.keep_docs.specs.Doc.{doc_of, shaped}
use Rattle.keep_docs.specs.Fields.{as_list_or_null, field, other_members}
use Rattle.keep_docs.specs.Lists.{each}
use Rattle.keep_docs.specs.declared.doc.DocError.{DocError}
use Rattle.keep_tree.specs.Names.{are_distinct, is_name, is_never_in_names}
use Rattle.keep_tree.specs.Tree.{KindData, dir, file, other, NodeData, kind_in, names_of, node_in, own_keys, tree_in}
use Rattle.keep_tree.specs.declared.tree.TreeError.TheVariants.{BadTree, Doc}
use Rattle.keep_catalog.specs.Files.{what_is_read}
use Rattle.keep_names.specs.BlobId.{tree_at}
use Rattle.keep_tree.specs.Tree as tree_reading
use Rattle.keep_tree.specs.declared.tree.TreeError.{TreeError}
use Rattle.keep_catalog.specs.Naming.{nodes_chosen, nodes_read, nodes_under, read_tree_of}
use Rattle.keep_catalog.specs.Places.{bytes_at, chosen_listing}
use Rattle.keep_catalog.specs.declared.reach_error.ReachError.TheVariants as reach
use Rattle.keep_catalog.specs.declared.spot.Spot.{Spot}
use Rattle.std.specs.Option.{unwrap_or}
use Rattle.std.specs.Result.{result_ok}
use Rattle.keep_read.specs.Contents.{ContentData, contents_at, contents_in, contents_of, nodes_in, under}

-- ---- the nodes of a tree have names of their own, without `/`

passed : {A : Type 0} (b : Bool) (x y : A) → cond b (Some x) None ≡ Some y → (b ≡ true) × (x ≡ y)
passed true x y e = (refl, cc)
passed false x y e = cc

abbrev IsNamed : NodeData → Type 0
IsNamed node = is_name node.name ≡ true

one_named : (d : Data) (node : NodeData) → node_in d ≡ Some node → IsNamed node
one_named d node e =
    option_and_then_some _ (field (codes "name") as_str d) node e (λ name is_named e1.
    option_and_then_some _ (field (codes "type") as_str d) node e1 (λ type_name is_typed e2.
    option_and_then_some _ (kind_in type_name d) node e2 (λ kind is_kind e3.
    let made : NodeData = record { name = name; kind = kind; others = other_members (own_keys kind) d } in
    let can = passed (is_name name) made node e3 in
    subst IsNamed can.1 can.0)))

all_named : (items : List Data) (nodes : List NodeData) → each node_in items ≡ Some nodes → AllByRecursion IsNamed nodes
all_named [] nodes e = let same : [] ≡ nodes = cc in subst (AllByRecursion IsNamed) same tt
all_named (x ∷ xs) nodes e =
    option_and_then_some _ (node_in x) nodes e (λ y is e1. rest (λ ys at. all_named xs ys at) y is (each node_in xs) refl e1) where
      rest : ((ys : List NodeData) → each node_in xs ≡ Some ys → AllByRecursion IsNamed ys) → (y : NodeData) → node_in x ≡ Some y → (o : Option (List NodeData)) → each node_in xs ≡ o → option_map (λ ys. y ∷ ys) o ≡ Some nodes → AllByRecursion IsNamed nodes
      rest later y is None at h = cc
      rest later y is (Some ys) at h = let same : y ∷ ys ≡ nodes = cc in subst (AllByRecursion IsNamed) same (one_named x y is, later ys at)

-- each node has a name, and no two have one
record AreNamed (nodes : List NodeData) : Type 0 where
  named : AllByRecursion IsNamed nodes
  apart : IsDistinct bytes_eq (names_of nodes)

tree_named : (d : Data) (nodes : List NodeData) → tree_in d ≡ Some nodes → AreNamed nodes
tree_named d nodes e =
    option_and_then_some _ (field (codes "nodes") as_list_or_null d) nodes e (λ items has e1.
    option_and_then_some _ (each node_in items) nodes e1 (λ made are e2.
    let can = passed (are_distinct (names_of made)) made nodes e2 in
    subst AreNamed can.1 (record {
      named = all_named items made are;
      apart = IsDistinct-from_count nat_list_eq_equiv (names_of made) ((Decides-eqb (distinct_count bytes_eq (names_of made)) (length (names_of made))).0 can.0);
    })))

no_nodes : AreNamed []
unfolding IsDistinct
no_nodes = record { named = tt; apart = tt }

read_named : (t : Result Data DocError) → AreNamed (what_is_read (Some (shaped Doc (λ d. ok_or (tree_in d) BadTree) t)))
read_named (Err e) = no_nodes
read_named (Ok d) = cases (tree_in d) refl where
  cases : (o : Option (List NodeData)) → tree_in d ≡ o → AreNamed (what_is_read (Some (ok_or o BadTree)))
  cases None is = no_nodes
  cases (Some nodes) is = tree_named d nodes is

-- the nodes of what was read
nodes_kept : (t : Result (List NodeData) TreeError) → AreNamed (what_is_read (Some t)) → AreNamed (unwrap_or (result_ok (nodes_read t)) [])
nodes_kept (Ok nodes) named = named
nodes_kept (Err e) named = named

nodes_named : (r : Repository) (tree : Id) → AreNamed (nodes_in r tree)
unfolding nodes_in nodes_under read_tree_of
nodes_named r tree = cases (chosen_listing r (tree_at tree)) where
  by_bytes : (o : Option (List ℕ)) → AreNamed (unwrap_or (result_ok (option_map_or (λ bytes. nodes_read (read_tree_of bytes)) o (Err reach.BadTree))) [])
  by_bytes None = no_nodes
  by_bytes (Some bytes) = nodes_kept (tree_reading.tree_of bytes) (read_named (doc_of bytes))

  cases : (o : Option (Spot × Id)) → AreNamed (unwrap_or (result_ok (nodes_chosen r tree o)) [])
  cases None = no_nodes
  cases (Some e) = by_bytes (bytes_at r e.0)

-- ---- the first name of a path

-- up to the next `/`
upto : List ℕ → List ℕ
upto [] = []
upto (c ∷ cs) = cond (c == 47) [] (c ∷ upto cs)

first_name : List ℕ → List ℕ
first_name [] = []
first_name (c ∷ cs) = upto cs

none_here : (a b c : Bool) → ((a || b) || c) ≡ false → (b ≡ false) × (c ≡ false)
none_here true b c h = cc
none_here false true c h = cc
none_here false false c h = (refl, h)

upto-name : (name rest : List ℕ) → list_any is_never_in_names name ≡ false → upto rest ≡ [] → upto (name ++ rest) ≡ name
unfolding upto
upto-name [] rest none ends = ends
upto-name (c ∷ cs) rest none ends =
    let parts = none_here (c == 0) (c == 47) (list_any is_never_in_names cs) none in
    ap (λ b. cond b [] (c ∷ upto (cs ++ rest))) parts.0 ∙ ap (λ ds. c ∷ ds) (upto-name cs rest parts.1 ends)

name_parts : (a b c d : Bool) → not (a || b || c || d) ≡ true → d ≡ false
name_parts true b c d h = cc
name_parts false true c d h = cc
name_parts false false true d h = cc
name_parts false false false true h = cc
name_parts false false false false h = refl

no_slash : (name : List ℕ) → is_name name ≡ true → list_any is_never_in_names name ≡ false
no_slash name h = name_parts (bytes_eq name []) (bytes_eq name (codes ".")) (bytes_eq name (codes "..")) (list_any is_never_in_names name) h

-- ---- contents

Ends : ContentData → Type 0
Ends c = upto c.0 ≡ []

abbrev Begins : List ℕ → ContentData → Type 0
Begins name c = first_name c.0 ≡ name

all_append : (P : ContentData → Type 0) (xs ys : List ContentData) → AllByRecursion P xs → AllByRecursion P ys → AllByRecursion P (xs ++ ys)
all_append P [] ys h k = k
all_append P (x ∷ xs) ys h k = (h.0, all_append P xs ys h.1 k)

ends_under : (name : List ℕ) (xs : List ContentData) → AllByRecursion Ends (map (under (codes "/" ++ name)) xs)
unfolding Ends upto
ends_under name [] = tt
ends_under name (x ∷ xs) = (refl, ends_under name xs)

all_end : (r : Repository) (below : Id → List ContentData) (nodes : List NodeData) → AllByRecursion Ends (flat_map (contents_of r below) nodes)
all_end r below [] = tt
all_end r below (node ∷ nodes) = all_append Ends (contents_of r below node) _ (ends_under node.name (contents_in r below node.kind)) (all_end r below nodes)

contents_end : (r : Repository) (levels : ℕ) (tree : Id) → AllByRecursion Ends (contents_at r levels tree)
contents_end r zero tree = tt
contents_end r (suc levels) tree = all_end r (contents_at r levels) (nodes_in r tree)

kind_ends : (r : Repository) (levels : ℕ) (kind : KindData) → AllByRecursion Ends (contents_in r (contents_at r levels) kind)
unfolding Ends upto
kind_ends r levels (dir subtree) = contents_end r levels subtree
kind_ends r levels (file content) = (refl, tt)
kind_ends r levels (other type_name) = (refl, tt)

begin_under : (name : List ℕ) → list_any is_never_in_names name ≡ false → (xs : List ContentData) → AllByRecursion Ends xs → AllByRecursion (Begins name) (map (under (codes "/" ++ name)) xs)
unfolding Ends first_name
begin_under name none [] ends = tt
begin_under name none (x ∷ xs) ends = (upto-name name x.0 none ends.0, begin_under name none xs ends.1)

-- ---- apart

abbrev Differs : ContentData → ContentData → Type 0
Differs a b = a.0 ≢ b.0

Apart : List ContentData → Type 0
Apart [] = Unit {0}
Apart (c ∷ cs) = AllByRecursion (Differs c) cs × Apart cs

differ_under : (front : List ℕ) (c : ContentData) (cs : List ContentData) → AllByRecursion (Differs c) cs → AllByRecursion (Differs (under front c)) (map (under front) cs)
differ_under front c [] h = tt
differ_under front c (d ∷ ds) h = (λ same. h.0 (append_cancel_left front c.0 d.0 same), differ_under front c ds h.1)

apart_under : (front : List ℕ) (cs : List ContentData) → Apart cs → Apart (map (under front) cs)
unfolding Apart
apart_under front [] h = tt
apart_under front (c ∷ cs) h = (differ_under front c cs h.0, apart_under front cs h.1)

-- those that begin with a name differ from those that begin with none such
differ_all : (name : List ℕ) (c : ContentData) → Begins name c → (ds : List ContentData) → AllByRecursion (λ d. first_name d.0 ≢ name) ds → AllByRecursion (Differs c) ds
differ_all name c is [] h = tt
differ_all name c is (d ∷ ds) h = (λ same. h.0 (ap first_name (sym same) ∙ is), differ_all name c is ds h.1)

apart_append : (name : List ℕ) (cs ds : List ContentData) → Apart cs → Apart ds → AllByRecursion (Begins name) cs → AllByRecursion (λ d. first_name d.0 ≢ name) ds → Apart (cs ++ ds)
unfolding Apart
apart_append name [] ds a b begins others = b
apart_append name (c ∷ cs) ds a b begins others =
    (all_append (Differs c) cs ds a.0 (differ_all name c begins.0 ds others), apart_append name cs ds a.1 b begins.1 others)

module _ (r : Repository) (levels : ℕ) where
  -- what later nodes add begins with other names
  others_begin : (name : List ℕ) (nodes : List NodeData) → AllByRecursion IsNamed nodes → AllByRecursion (λ n. bytes_eq name n ≡ false) (names_of nodes) → AllByRecursion (λ d. first_name d.0 ≢ name) (flat_map (contents_of r (contents_at r levels)) nodes)
  others_begin name [] named apart = tt
  others_begin name (node ∷ nodes) named apart =
      all_append (λ d. first_name d.0 ≢ name) (contents_of r (contents_at r levels) node) _
      (weaker (contents_of r (contents_at r levels) node) (begin_under node.name (no_slash node.name named.0) (contents_in r (contents_at r levels) node.kind) (kind_ends r levels node.kind)))
      (others_begin name nodes named.1 apart.1) where
        differs : name ≢ node.name
        differs same = let e : bytes_eq name node.name ≡ true = (bytes_eq-Decides name node.name).1 same in cc (e, apart.0)

        weaker : (cs : List ContentData) → AllByRecursion (Begins node.name) cs → AllByRecursion (λ d. first_name d.0 ≢ name) cs
        weaker [] h = tt
        weaker (c ∷ cs) h = (λ same. differs (sym same ∙ h.0), weaker cs h.1)

  nodes_apart : ((kind : KindData) → Apart (contents_in r (contents_at r levels) kind)) → (nodes : List NodeData) → AllByRecursion IsNamed nodes → IsDistinct bytes_eq (names_of nodes) → Apart (flat_map (contents_of r (contents_at r levels)) nodes)
  unfolding Apart
  nodes_apart each [] named distinct = tt
  nodes_apart each (node ∷ nodes) named distinct =
      apart_append node.name (contents_of r (contents_at r levels) node) _
      (apart_under (codes "/" ++ node.name) (contents_in r (contents_at r levels) node.kind) (each node.kind))
      (nodes_apart each nodes named.1 (IsDistinct-tail bytes_eq node.name (names_of nodes) distinct))
      (begin_under node.name (no_slash node.name named.0) (contents_in r (contents_at r levels) node.kind) (kind_ends r levels node.kind))
      (others_begin node.name nodes named.1 (IsDistinct-head bytes_eq node.name (names_of nodes) distinct))

kinds_apart : (r : Repository) (levels : ℕ) → ((tree : Id) → Apart (contents_at r levels tree)) → (kind : KindData) → Apart (contents_in r (contents_at r levels) kind)
unfolding Apart
kinds_apart r levels each (dir subtree) = each subtree
kinds_apart r levels each (file content) = (tt, tt)
kinds_apart r levels each (other type_name) = (tt, tt)

contents_apart : (r : Repository) (levels : ℕ) (tree : Id) → Apart (contents_at r levels tree)
unfolding Apart
contents_apart r zero tree = tt
contents_apart r (suc levels) tree =
    let all = nodes_named r tree in
    nodes_apart r levels (kinds_apart r levels (λ t. contents_apart r levels t)) (nodes_in r tree) all.named all.apart

pairs : (cs : List ContentData) → Apart cs → AllPairs (λ a b. a.0 ≢ b.0) cs
unfolding Apart
pairs [] h = λ i j d lt short. absurd (omega arith)
pairs (c ∷ cs) h = AllPairs-cons (λ a b. a.0 ≢ b.0) c cs (All-from_recursion (Differs c) cs h.0) (pairs cs h.1)

-- no two have one path
pub paths_apart : (r : Repository) (levels : ℕ) (tree : Id) → AllPairs (λ a b. a.0 ≢ b.0) (contents_at r levels tree)
paths_apart r levels tree = pairs (contents_at r levels tree) (contents_apart r levels tree)
