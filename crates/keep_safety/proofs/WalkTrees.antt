-- A document can hold each tree of a walk.
use Rattle.std.proofs.Common.{◌≡◌, ℕ, zero, suc, Bool, true, false, ◌&&◌, T, List, [], ◌∷◌, length, map, filter_map, Ordering, Equal, refl, sym, ap, subst, ◌∙◌, arith, ◌==◌}
use Rattle.std.proofs.lemmas.Bool.Decides.{nat_tests}
use Rattle.std.proofs.lemmas.List.Elements.{All-from_recursion}
use Rattle.std.proofs.lemmas.Map.Made.{distinct_count-from_IsDistinct}
use Rattle.std.proofs.lemmas.Slice.Eq.{bytes_eq-Decides}
use Rattle.std.specs.Cmp.{IsEquivalence, tied_itself}
use Rattle.std.specs.Cmp.Lexicographic.{nat_list_cmp_total}
use Rattle.std.specs.FinMap.{entries, entries_sorted, from_entries, is_sorted}
use Rattle.std.specs.FinMap.Entries.{below_all}
use Rattle.std.specs.List.{AllByRecursion, IsDistinct}
use Rattle.std.specs.Ordering.{is_lt}
use Rattle.std.specs.Set.{distinct_count}
use Rattle.std.specs.Str.{bytes_eq}
use Rattle.serde_json.specs.Data.{no_members}
use Rattle.keep_names.specs.Id.{IsDigest}
use Rattle.keep_names.specs.Laws.{DigestsAreIds}
use Rattle.keep_tree.specs.Names.{are_distinct}
use Rattle.keep_tree.specs.Shape.{IsNode, IsTree}
use Rattle.keep_tree.specs.Tree.{dir, file, names_of}
use Rattle.keep_catalog.specs.Ordered.{in_order, keyed}
use Rattle.keep_reach.specs.Reach.{most_levels}
use Rattle.keep_build.specs.Blobs.{BlobData, id_of, tree_blob}
use Rattle.keep_backup.specs.Folders.{Folder, file_node, first_name, first_names, folder_at, folder_node, no_nodes, node_at, nodes_at, root_folder, seen_from}
use Rattle.keep_backup.specs.Paths.{FileData}
use Rattle.keep_backup.specs.Walk.{nodes_of, pieces_of}
use Rattle.keep_safety.proofs.GoodNames.{HaveGoodNames, IsGood, first_names_good, seen_good}
use Rattle.keep_backup.proofs.Groups.{Key, Name, name_cmp}

-- ---- names in order are distinct

bool_same : (a b : Bool) → (a ≡ true → b ≡ true) → (b ≡ true → a ≡ true) → a ≡ b
bool_same true b f g = sym (f refl)
bool_same false true f g = g refl
bool_same false false f g = refl

bytes_equal : IsEquivalence bytes_eq
bytes_equal = record {
  refl = λ x. (bytes_eq-Decides x x).1 refl;
  symm = λ x y. bool_same (bytes_eq x y) (bytes_eq y x) (λ h. turned x y h) (λ h. turned y x h);
  congr = λ x y z same. ap (λ (w : Name). bytes_eq w z) ((bytes_eq-Decides x y).0 same);
} where
  turned : (x y : Name) → bytes_eq x y ≡ true → bytes_eq y x ≡ true
  turned x y h = (bytes_eq-Decides y x).1 (sym ((bytes_eq-Decides x y).0 h))

both_parts : (a b : Bool) → T (a && b) → T a × T b
both_parts true b h = (tt, h)
both_parts false b h = absurd h

-- of two names in order the bytes differ
lesser_apart : (x y : Name) → T (is_lt (name_cmp x y)) → bytes_eq x y ≡ false
lesser_apart x y less = cases (bytes_eq x y) refl where
  cases : (b : Bool) → bytes_eq x y ≡ b → b ≡ false
  cases false is = refl
  cases true is =
      let same : x ≡ y = (bytes_eq-Decides x y).0 is in
      let tied : name_cmp x y ≡ Equal = ap (name_cmp x) (sym same) ∙ tied_itself nat_list_cmp_total x in
      absurd (subst (λ (o : Ordering). T (is_lt o)) tied less)

each_apart : (x : Name) (es : List Key) → T (below_all name_cmp x es) → AllByRecursion (λ (y : Name). bytes_eq x y ≡ false) (map (λ (e : Key). e.0) es)
each_apart x [] below = tt
each_apart x (e ∷ es) below =
    let parts = both_parts (is_lt (name_cmp x e.0)) (below_all name_cmp x es) below in
    (lesser_apart x e.0 parts.0, each_apart x es parts.1)

keys_distinct : (es : List Key) → T (is_sorted name_cmp es) → IsDistinct bytes_eq (map (λ (e : Key). e.0) es)
unfolding IsDistinct
keys_distinct [] rise = tt
keys_distinct (e ∷ es) rise =
    let parts = both_parts (below_all name_cmp e.0 es) (is_sorted name_cmp es) rise in
    (each_apart e.0 es parts.0, keys_distinct es parts.1)

-- so names in order are distinct
in_order_distinct : (names : List Name) → IsDistinct bytes_eq (in_order name_cmp names)
in_order_distinct names = keys_distinct (entries (from_entries {R = name_cmp} (map keyed names))) (entries_sorted (from_entries {R = name_cmp} (map keyed names)))

first_names_distinct : (files : List FileData) → IsDistinct bytes_eq (first_names files)
unfolding first_names
first_names_distinct files = in_order_distinct (filter_map first_name files)

is_equal : (n m : ℕ) → n ≡ m → (n == m) ≡ true
is_equal n m h = grind (arith, nat_tests)

distinct_so : (names : List Name) → IsDistinct bytes_eq names → are_distinct names ≡ true
distinct_so names apart = is_equal (distinct_count bytes_eq names) (length names) (distinct_count-from_IsDistinct bytes_equal names apart)

-- ---- the nodes of a folder

-- a document can hold each tree below the folder
abbrev pub AreTreesBelow : ℕ → Folder → Type 0
AreTreesBelow cut no_nodes = Unit {0}
AreTreesBelow cut (file_node name bytes more) = AreTreesBelow cut more
AreTreesBelow cut (folder_node name inner more) = IsTree (nodes_of cut inner) × AreTreesBelow cut inner × AreTreesBelow cut more

-- and the folder's own
pub record AreTrees (cut : ℕ) (folder : Folder) : Type 0 where
  pub own : IsTree (nodes_of cut folder)
  pub below : AreTreesBelow cut folder

module _ (digests : DigestsAreIds) (cut : ℕ) where
  each_digest : (blobs : List BlobData) → AllByRecursion IsDigest (map id_of blobs)
  each_digest [] = tt
  each_digest (b ∷ bs) = (digests b.1, each_digest bs)

  -- a document can hold the node of a file, and that of a folder
  file_is_node : (name bytes : List ℕ) → IsGood name → IsNode (record { name = name; kind = file (map id_of (pieces_of cut bytes)); others = no_members })
  file_is_node name bytes good = record {
    named = good.fits;
    text = good.text;
    kind = All-from_recursion IsDigest (map id_of (pieces_of cut bytes)) (each_digest (pieces_of cut bytes));
    carried = tt;
    nests = omega arith;
    apart = refl;
  }

  folder_is_node : (name : List ℕ) (inner : Folder) → IsGood name → IsNode (record { name = name; kind = dir (id_of (tree_blob (nodes_of cut inner))); others = no_members })
  folder_is_node name inner good = record {
    named = good.fits;
    text = good.text;
    kind = digests (tree_blob (nodes_of cut inner)).1;
    carried = tt;
    nests = omega arith;
    apart = refl;
  }

  -- one node before the others
  node_named : (name : Name) (files : List FileData) (inner more : Folder) → names_of (nodes_of cut (node_at name files inner more)) ≡ name ∷ names_of (nodes_of cut more)
  node_named name [] inner more = refl
  node_named name (([], bytes) ∷ []) inner more = refl
  node_named name (([], bytes) ∷ f ∷ fs) inner more = refl
  node_named name ((x ∷ path, bytes) ∷ fs) inner more = refl

  node_good : (name : Name) (files : List FileData) (inner more : Folder) → IsGood name → AllByRecursion IsNode (nodes_of cut more) → AllByRecursion IsNode (nodes_of cut (node_at name files inner more))
  node_good name [] inner more good later = (folder_is_node name inner good, later)
  node_good name (([], bytes) ∷ []) inner more good later = (file_is_node name bytes good, later)
  node_good name (([], bytes) ∷ f ∷ fs) inner more good later = (folder_is_node name inner good, later)
  node_good name ((x ∷ path, bytes) ∷ fs) inner more good later = (folder_is_node name inner good, later)

  node_below : (name : Name) (files : List FileData) (inner more : Folder) → AreTrees cut inner → AreTreesBelow cut more → AreTreesBelow cut (node_at name files inner more)
  node_below name [] inner more trees later = (trees.own, trees.below, later)
  node_below name (([], bytes) ∷ []) inner more trees later = later
  node_below name (([], bytes) ∷ f ∷ fs) inner more trees later = (trees.own, trees.below, later)
  node_below name ((x ∷ path, bytes) ∷ fs) inner more trees later = (trees.own, trees.below, later)

  module _ (inner : List FileData → Folder) (files : List FileData) where
    nodes_named : (names : List Name) → names_of (nodes_of cut (nodes_at inner files names)) ≡ names
    nodes_named [] = refl
    nodes_named (x ∷ xs) =
        node_named x (filter_map (seen_from x) files) (inner (filter_map (seen_from x) files)) (nodes_at inner files xs)
        ∙ ap (λ (names : List Name). x ∷ names) (nodes_named xs)

    nodes_good : (names : List Name) → AllByRecursion IsGood names → AllByRecursion IsNode (nodes_of cut (nodes_at inner files names))
    nodes_good [] good = tt
    nodes_good (x ∷ xs) good =
        node_good x (filter_map (seen_from x) files) (inner (filter_map (seen_from x) files)) (nodes_at inner files xs) good.0 (nodes_good xs good.1)

    nodes_below : ((name : Name) → AreTrees cut (inner (filter_map (seen_from name) files))) → (names : List Name) → AreTreesBelow cut (nodes_at inner files names)
    nodes_below trees [] = tt
    nodes_below trees (x ∷ xs) =
        node_below x (filter_map (seen_from x) files) (inner (filter_map (seen_from x) files)) (nodes_at inner files xs) (trees x) (nodes_below trees xs)

    -- the trees of the nodes at these names
    nodes_trees : (names : List Name) → AllByRecursion IsGood names → IsDistinct bytes_eq names → ((name : Name) → AreTrees cut (inner (filter_map (seen_from name) files)))
        → AreTrees cut (nodes_at inner files names)
    nodes_trees names good apart trees =
        record {
          own = record {
            each = All-from_recursion IsNode (nodes_of cut (nodes_at inner files names)) (nodes_good names good);
            distinct = ap are_distinct (nodes_named names) ∙ distinct_so names apart;
          };
          below = nodes_below trees names;
        }

  -- each tree of the folder of these files
  trees_at : (levels : ℕ) (files : List FileData) → HaveGoodNames files → AreTrees cut (folder_at levels files)
  trees_at zero files good = record {
    own = record { each = All-from_recursion IsNode [] tt; distinct = distinct_so [] (keys_distinct [] tt) };
    below = tt;
  }
  trees_at (suc levels) files good =
      nodes_trees (folder_at levels) files (first_names files) (first_names_good files good) (first_names_distinct files)
      (λ name. trees_at levels (filter_map (seen_from name) files) (seen_good name files good))

  pub root_trees : (files : List FileData) → HaveGoodNames files → AreTrees cut (root_folder files)
  unfolding root_folder
  root_trees files good = trees_at most_levels files good
