-- The nodes that stay are those of a tree.
use Rattle.std.proofs.Common.{◌≡◌, ℕ, zero, suc, ◌==◌, Bool, true, false, cond, not, List, [], ◌∷◌, map, filter, length, Option, None, Some, Result, Ok, Err, refl, sym, ap, subst, ◌∙◌, arith}
use Rattle.std.proofs.lemmas.Bool.{eqb-true}
use Rattle.std.proofs.lemmas.Bool.Decides.{nat_tests}
use Rattle.std.proofs.lemmas.List.Elements.{All-from_recursion, recursion_from_All}
use Rattle.std.proofs.lemmas.Map.Made.{IsDistinct-from_count, distinct_count-from_IsDistinct}
use Rattle.std.proofs.lemmas.Slice.Eq.{bytes_eq-Decides}
use Rattle.std.specs.Cmp.{IsEquivalence}
use Rattle.std.specs.List.{AllByRecursion, IsDistinct}
use Rattle.std.specs.Option.{option_map_or}
use Rattle.std.specs.Set.{distinct_count}
use Rattle.std.specs.Str.{bytes_eq}
use Rattle.keep_names.proofs.Digests.{digests_are_ids_lem}
use Rattle.keep_names.specs.BlobId.{tree_at}
use Rattle.keep_names.specs.Id.{IsDigest}
use Rattle.keep_names.specs.declared.id.Id.{Id}
use Rattle.keep_docs.specs.Fields.{others}
use Rattle.keep_repo.specs.Repository.{Repository}
use Rattle.keep_tree.proofs.Inverse.{IsTree-tree_of}
use Rattle.keep_tree.specs.Names.{are_distinct}
use Rattle.keep_tree.specs.Shape.{IsKind, IsNode, IsTree}
use Rattle.keep_tree.specs.Tree.{KindData, dir, file, other, NodeData, names_of, own_keys}
use Rattle.keep_tree.specs.declared.tree.TreeError.{TreeError}
use Rattle.keep_patterns.specs.Parsing.{PatternData}
use Rattle.keep_patterns.specs.Without.{without}
use Rattle.keep_catalog.specs.Naming.{nodes_chosen, nodes_read, nodes_under, read_tree_of}
use Rattle.keep_catalog.specs.Places.{bytes_at, chosen_listing}
use Rattle.keep_catalog.specs.declared.reach_error.ReachError.TheVariants.{BadTree}
use Rattle.keep_catalog.specs.declared.spot.Spot.{Spot}
use Rattle.keep_build.specs.Blobs.{id_of, tree_blob}
use Rattle.keep_rewrite.specs.Leaving.{Path, goes, kind_left, loses, node_left, nodes_in, nodes_left, path_below, tree_left}

-- ---- names

bool_same : (a b : Bool) → (a ≡ true → b ≡ true) → (b ≡ true → a ≡ true) → a ≡ b
bool_same true b f g = sym (f refl)
bool_same false true f g = g refl
bool_same false false f g = refl

bytes_equal : IsEquivalence bytes_eq
bytes_equal = record {
  refl = λ x. (bytes_eq-Decides x x).1 refl;
  symm = λ x y. bool_same (bytes_eq x y) (bytes_eq y x) (λ h. turned x y h) (λ h. turned y x h);
  congr = λ x y z same. ap (λ (w : List ℕ). bytes_eq w z) ((bytes_eq-Decides x y).0 same);
} where
  turned : (x y : List ℕ) → bytes_eq x y ≡ true → bytes_eq y x ≡ true
  turned x y h = (bytes_eq-Decides y x).1 (sym ((bytes_eq-Decides x y).0 h))

is_equal : (n m : ℕ) → n ≡ m → (n == m) ≡ true
is_equal n m h = grind (arith, nat_tests)

-- what holds of each holds of those that pass a test
pub passed : {X : Type 0} (test : X → Bool) (P : X → Type 0) (xs : List X) → AllByRecursion P xs → AllByRecursion P (filter test xs)
passed test P [] h = tt
passed test P (x ∷ xs) h = cases (test x) (passed test P xs h.1) where
  cases : (b : Bool) → AllByRecursion P (filter test xs) → AllByRecursion P (cond b (x ∷ filter test xs) (filter test xs))
  cases true rest = (h.0, rest)
  cases false rest = rest

module _ (test : NodeData → Bool) where
  names_left : (P : List ℕ → Type 0) (nodes : List NodeData) → AllByRecursion P (names_of nodes) → AllByRecursion P (names_of (filter test nodes))
  names_left P [] h = tt
  names_left P (node ∷ nodes) h = cases (test node) (names_left P nodes h.1) where
    cases : (b : Bool) → AllByRecursion P (names_of (filter test nodes)) → AllByRecursion P (names_of (cond b (node ∷ filter test nodes) (filter test nodes)))
    cases true rest = (h.0, rest)
    cases false rest = rest

  distinct_left : (nodes : List NodeData) → IsDistinct bytes_eq (names_of nodes) → IsDistinct bytes_eq (names_of (filter test nodes))
  unfolding IsDistinct
  distinct_left [] h = tt
  distinct_left (node ∷ nodes) h = cases (test node) (distinct_left nodes h.1) where
    cases : (b : Bool) → IsDistinct bytes_eq (names_of (filter test nodes)) → IsDistinct bytes_eq (names_of (cond b (node ∷ filter test nodes) (filter test nodes)))
    cases true rest = (names_left (λ y. bytes_eq node.name y ≡ false) nodes h.0, rest)
    cases false rest = rest

names_same : (left : Path → Id → Id) (at : Path) (nodes : List NodeData) → names_of (map (node_left left at) nodes) ≡ names_of nodes
names_same left at [] = refl
names_same left at (node ∷ nodes) = ap (λ (names : List (List ℕ)). node.name ∷ names) (names_same left at nodes)

-- ---- nodes

node_of_kind : (node : NodeData) (kind : KindData) → IsKind kind → own_keys kind ≡ own_keys node.kind → IsNode node → IsNode (record node { kind = kind })
node_of_kind node kind is keys can_stand = record {
  named = can_stand.named;
  text = can_stand.text;
  kind = is;
  carried = can_stand.carried;
  nests = can_stand.nests;
  apart = subst (λ (ks : List (List ℕ)). others ks node.others ≡ node.others) (sym keys) can_stand.apart;
}

-- the trees that are left have ids
abbrev HaveIds : (Path → Id → Id) → Type 0
HaveIds left = (at : Path) (tree : Id) → IsDigest tree → IsDigest (left at tree)

module _ (left : Path → Id → Id) (ids : HaveIds left) (at : Path) where
  kind_is : (bt : Path) (kind : KindData) → IsKind kind → IsKind (kind_left left bt kind)
  kind_is bt (dir subtree) is = ids bt subtree is
  kind_is bt (file content) is = is
  kind_is bt (other type_name) is = is

  keys_are : (bt : Path) (kind : KindData) → own_keys (kind_left left bt kind) ≡ own_keys kind
  keys_are bt (dir subtree) = refl
  keys_are bt (file content) = refl
  keys_are bt (other type_name) = refl

  nodes_are : (nodes : List NodeData) → AllByRecursion IsNode nodes → AllByRecursion IsNode (map (node_left left at) nodes)
  nodes_are [] h = tt
  nodes_are (node ∷ nodes) h = (
    node_of_kind node (kind_left left (path_below at node) node.kind) (kind_is (path_below at node) node.kind h.0.kind) (keys_are (path_below at node) node.kind) h.0,
    nodes_are nodes h.1,
  )

  pub left_is_tree : (patterns : List PatternData) (nodes : List NodeData) → IsTree nodes → IsTree (nodes_left patterns left at nodes)
  left_is_tree patterns nodes is =
      let stays = λ (node : NodeData). not (goes patterns at node) in
      let apart : IsDistinct bytes_eq (names_of nodes) = IsDistinct-from_count bytes_equal (names_of nodes) (eqb-true _ _ is.distinct) in
      let names = distinct_left stays nodes apart in
      record {
        each = All-from_recursion IsNode (nodes_left patterns left at nodes) (nodes_are (without patterns at nodes) (passed stays IsNode nodes (recursion_from_All IsNode nodes is.each)));
        distinct = ap are_distinct (names_same left at (without patterns at nodes))
            ∙ is_equal (distinct_count bytes_eq (names_of (without patterns at nodes))) (length (names_of (without patterns at nodes))) (distinct_count-from_IsDistinct bytes_equal (names_of (without patterns at nodes)) names);
      }

-- ---- trees

tree_id : (nodes : List NodeData) → IsDigest (id_of (tree_blob nodes))
tree_id nodes = digests_are_ids_lem (tree_blob nodes).1

module _ (r : Repository) (patterns : List PatternData) where
  pub left_ids : (levels : ℕ) → HaveIds (tree_left r patterns levels)
  left_ids zero at tree is = is
  left_ids (suc levels) at tree is = cases (loses r patterns (suc levels) at tree) where
    nodes : List NodeData
    nodes = nodes_left patterns (tree_left r patterns levels) at (nodes_in r tree)

    cases : (b : Bool) → IsDigest (cond b (id_of (tree_blob nodes)) tree)
    cases true = tree_id nodes
    cases false = is

bytes_tree : (bytes : List ℕ) (nodes : List NodeData) → read_tree_of bytes ≡ Ok nodes → IsTree nodes
unfolding read_tree_of
bytes_tree bytes nodes is = IsTree-tree_of bytes nodes is

read_tree : (t : Result (List NodeData) TreeError) (bytes : List ℕ) (nodes : List NodeData) → read_tree_of bytes ≡ t → nodes_read t ≡ Ok nodes → IsTree nodes
read_tree (Ok ns) bytes nodes is h =
    let same : ns ≡ nodes = cc h in
    subst IsTree same (bytes_tree bytes ns is)
read_tree (Err refusal) bytes nodes is h = cc h

spot_tree : (o : Option (List ℕ)) (nodes : List NodeData) → option_map_or (λ bytes. nodes_read (read_tree_of bytes)) o (Err BadTree) ≡ Ok nodes → IsTree nodes
spot_tree None nodes h = cc h
spot_tree (Some bytes) nodes h = read_tree (read_tree_of bytes) bytes nodes refl h

chosen_tree : (r : Repository) (tree : Id) (o : Option (Spot × Id)) (nodes : List NodeData) → nodes_chosen r tree o ≡ Ok nodes → IsTree nodes
chosen_tree r tree None nodes h = cc h
chosen_tree r tree (Some e) nodes h = spot_tree (bytes_at r e.0) nodes h

-- what is read as a tree is one
pub under_is_tree : (r : Repository) (tree : Id) (nodes : List NodeData) → nodes_under r tree ≡ Ok nodes → IsTree nodes
unfolding nodes_under
under_is_tree r tree nodes h = chosen_tree r tree (chosen_listing r (tree_at tree)) nodes h
