-- What a walk over a tree has come by, one node later, and at its end.
use Rattle.std.proofs.Common.{◌≡◌, ℕ, zero, suc, ◌+◌, ◌-◌, ◌<◌, ◌≤◌, Bool, true, false, cond, List, [], ◌∷◌, ◌++◌, map, length, get_or, take, Option, None, refl, sym, ap, ◌∙◌, arith, codes}
use Rattle.std.proofs.lemmas.List.{append-nil, append_assoc, length-map, take_all}
use Rattle.std.proofs.lemmas.List.Folds.{flat_map-map}
use Rattle.std.proofs.lemmas.Map.Views.{tells_apart}
use Rattle.std.specs.BTreeMap.{is_at}
use Rattle.std.specs.BTreeSet.{BTreeSet, contains}
use Rattle.std.specs.List.{flat_map}
use Rattle.keep_names.proofs.Orders.{id_exact}
use Rattle.keep_names.specs.Orders.{id_cmp}
use Rattle.keep_names.specs.declared.id.Id.{Id}
use Rattle.keep_repo.specs.Repository.{Repository}
use Rattle.keep_tree.specs.Tree.{dir, NodeData, node_view}
use Rattle.keep_tree.specs.declared.node.Node.{Node}
use Rattle.keep_names.specs.BlobId.{tree_at}
use Rattle.keep_catalog.specs.Naming.{named_by}
use Rattle.keep_reach.specs.Reach.{refusal_at}
use Rattle.keep_catalog.proofs.Growing.{flat_map_taken}
use Rattle.keep_read.specs.Contents.{ContentData, content_view, contents_at, contents_in, contents_of, nodes_in, under}
use Rattle.keep_read.specs.Found.{AreBare}
use Rattle.keep_read.specs.declared.content.Content.{Content}
use Rattle.keep_read.proofs.Below.{bare_tree, map-flat_map, nil_added, nil_map, under-under}

-- what a node adds, below this path
abbrev pub node_adds : Repository → ℕ → List ℕ → Node → List ContentData
node_adds r levels path node = map (under path) (contents_of r (contents_at r levels) (node_view node))

-- what a tree adds, below this path
abbrev pub tree_adds : Repository → ℕ → List ℕ → Id → List ContentData
tree_adds r levels path tree = map (under path) (contents_at r levels tree)

-- one node more
pub one_added : {A : Type 0} (adds : A → List ContentData) (before now later : List ContentData) (xs : List A) (i : ℕ) (x d : A) → i < length xs → x ≡ get_or xs i d → now ≡ before ++ flat_map adds (take i xs) → later ≡ now ++ adds x → later ≡ before ++ flat_map adds (take (i + 1) xs)
one_added adds before now later xs i x d lt is so step =
    step ∙ ap (λ ys. ys ++ adds x) so ∙ append_assoc before (flat_map adds (take i xs)) (adds x)
    ∙ ap (λ ys. before ++ ys) (sym (flat_map_taken xs i x d lt is adds))

-- all nodes of a tree
pub all_added : (r : Repository) (levels : ℕ) (tree : Id) (path : List ℕ) (nodes : List Node) (i : ℕ) (before now : List ContentData) → 0 < levels → length nodes ≤ i → map node_view nodes ≡ nodes_in r tree → now ≡ before ++ flat_map (node_adds r (levels - 1) path) (take i nodes) → now ≡ before ++ tree_adds r levels path tree
all_added r zero tree path nodes i before now some done read is = absurd (omega arith)
all_added r (suc levels) tree path nodes i before now some done read is =
    let same : suc levels - 1 ≡ levels = omega arith in
    is ∙ ap (λ xs. before ++ xs)
    (ap (flat_map (node_adds r (suc levels - 1) path)) (take_all i nodes done)
    ∙ ap (λ n. flat_map (node_adds r n path) nodes) same
    ∙ sym (flat_map-map (λ node. map (under path) (contents_of r (contents_at r levels) node)) node_view nodes)
    ∙ sym (map-flat_map (under path) (contents_of r (contents_at r levels)) (map node_view nodes))
    ∙ ap (λ ns. map (under path) (flat_map (contents_of r (contents_at r levels)) ns)) read)

-- a tree below which nothing stands adds nothing
pub bare_adds : (r : Repository) (levels : ℕ) (tree : Id) (path : List ℕ) (before : List ContentData) → contents_at r levels tree ≡ [] → before ≡ before ++ tree_adds r levels path tree
bare_adds r levels tree path before none =
    sym (append-nil before) ∙ ap (λ xs. before ++ map (under path) xs) (sym none)

-- where nothing was added, nothing stands below the tree at any level
pub nothing_added : (r : Repository) (levels : ℕ) (tree : Id) (path : List ℕ) (before now : List Content) → refusal_at (named_by r) levels (tree_at tree) ≡ None → length now ≡ length before → map content_view now ≡ map content_view before ++ tree_adds r levels path tree → (n : ℕ) → contents_at r n tree ≡ []
nothing_added r levels tree path before now had same is =
    let adds = tree_adds r levels path tree in
    let lengths : length (map content_view before ++ adds) ≡ length (map content_view before) =
    sym (ap length is) ∙ length-map now content_view ∙ same ∙ sym (length-map before content_view) in
    bare_tree r levels tree had (nil_map (under path) (contents_at r levels tree) (nil_added (map content_view before) adds lengths))

-- one bare tree more
pub one_bare : (r : Repository) (old new : BTreeSet Id) (tree : Id) → ((q : Id) → contains id_cmp new q ≡ cond (is_at (id_cmp tree) q) true (contains id_cmp old q)) → AreBare r old → ((n : ℕ) → contents_at r n tree ≡ []) → AreBare r new
one_bare r old new tree put bare none = record {
  empty = λ q n known. cases (is_at (id_cmp tree) q) q n refl (sym (put q) ∙ known);
} where
  cases : (b : Bool) (q : Id) (n : ℕ) → is_at (id_cmp tree) q ≡ b → cond b true (contains id_cmp old q) ≡ true → contents_at r n q ≡ []
  cases true q n same known = ap (contents_at r n) (sym (tells_apart id_exact tree q same)) ∙ none n
  cases false q n apart known = bare.empty q n known

-- ---- what a node adds, by its kind

-- a folder
pub folder_adds : (r : Repository) (levels : ℕ) (path below : List ℕ) (node : NodeData) (subtree : Id) → node.kind ≡ dir subtree → below ≡ path ++ (codes "/" ++ node.name) → tree_adds r levels below subtree ≡ map (under path) (contents_of r (contents_at r levels) node)
folder_adds r levels path below node subtree is at =
    ap (λ p. map (under p) (contents_at r levels subtree)) at
    ∙ under-under r path (codes "/" ++ node.name) (contents_at r levels subtree)
    ∙ ap (λ k. map (under path) (map (under (codes "/" ++ node.name)) (contents_in r (contents_at r levels) k))) (sym is)

-- anything else
pub one_stands : (r : Repository) (levels : ℕ) (path below : List ℕ) (node : NodeData) (bytes : Option (List ℕ)) → contents_in r (contents_at r levels) node.kind ≡ ([], bytes) ∷ [] → below ≡ path ++ (codes "/" ++ node.name) → (below, bytes) ∷ [] ≡ map (under path) (contents_of r (contents_at r levels) node)
one_stands r levels path below node bytes is at =
    ap (λ p. (p, bytes) ∷ []) (at ∙ ap (λ p. path ++ p) (sym (append-nil (codes "/" ++ node.name))))
    ∙ ap (λ cs. map (under path) (map (under (codes "/" ++ node.name)) cs)) (sym is)

-- no tree is remembered yet
pub none_bare : (r : Repository) (trees : BTreeSet Id) → trees.keys ≡ [] → AreBare r trees
none_bare r trees none = record { empty = λ q n known. cc (rw none at known) }

-- with no path in front
pub under-nothing : (cs : List ContentData) → map (under []) cs ≡ cs
under-nothing [] = refl
under-nothing (c ∷ cs) = ap (λ ds. c ∷ ds) (under-nothing cs)
