-- What a walk over trees has come by, one node later, and at its end.
use Rattle.std.proofs.Common.{◌≡◌, ℕ, zero, suc, List, [], ◌∷◌, ◌++◌, map, Option, None, Some, Result, Ok, Err, codes, refl, sym, ap, subst, ◌∙◌}
use Rattle.std.proofs.lemmas.List.{append-nil, append_assoc, map-append}
use Rattle.std.specs.List.{AllByRecursion, flat_map}
use Rattle.std.specs.Option.{option_or}
use Rattle.keep_names.specs.BlobId.{tree_at}
use Rattle.keep_names.specs.declared.blob.BlobId.{BlobId}
use Rattle.keep_names.specs.declared.id.Id.{Id}
use Rattle.keep_repo.specs.Repository.{Repository}
use Rattle.keep_tree.specs.Tree.{NodeData}
use Rattle.keep_catalog.specs.Naming.{nodes_under}
use Rattle.keep_catalog.specs.declared.reach_error.ReachError.{ReachError}
use Rattle.keep_catalog.specs.declared.reach_error.ReachError.TheVariants.{TooDeep}
use Rattle.keep_reach.specs.Reach.{first_of, own_or, refusal_at}
use Rattle.keep_read.specs.Contents.{nodes_in}
use Rattle.keep_nodes.specs.Entries.{EntryData, at, entries_at, entries_in, entries_of, under}
use Rattle.keep_nodes.specs.Listed.{tree_of, trees_by, trees_of}
use Rattle.keep_nodes.proofs.Read.{IsWhole, read_nodes}

-- ---- lists

map-flat_map : {A B C : Type 0} (g : B → C) (f : A → List B) (xs : List A) → map g (flat_map f xs) ≡ flat_map (λ x. map g (f x)) xs
map-flat_map g f [] = refl
map-flat_map g f (x ∷ xs) = map-append g (f x) (flat_map f xs) ∙ ap (λ ys. map g (f x) ++ ys) (map-flat_map g f xs)

regroup : (a b c : Option ReachError) → option_or a (option_or b c) ≡ option_or (option_or a b) c
regroup None b c = refl
regroup (Some e) b c = refl

pub first_of-append : (refusal : BlobId → Option ReachError) (xs ys : List BlobId) → first_of refusal (xs ++ ys) ≡ option_or (first_of refusal xs) (first_of refusal ys)
first_of-append refusal [] ys = refl
first_of-append refusal (x ∷ xs) ys = ap (option_or (refusal x)) (first_of-append refusal xs ys) ∙ regroup (refusal x) _ _

-- a path in front of a path
under-under : (a b : List ℕ) (xs : List EntryData) → map (under (a ++ b)) xs ≡ map (under a) (map (under b) xs)
under-under a b [] = refl
under-under a b (x ∷ xs) =
    ap (λ p. at p x.node ∷ map (under (a ++ b)) xs) (append_assoc a b x.path)
    ∙ ap (λ ys. under a (under b x) ∷ ys) (under-under a b xs)

-- with no path in front
pub under-nothing : (xs : List EntryData) → map (under []) xs ≡ xs
under-nothing [] = refl
under-nothing (x ∷ xs) = ap (λ ys. x ∷ ys) (under-nothing xs)

-- ---- one node

-- what a node adds, below this path
abbrev pub node_adds : Repository → ℕ → List ℕ → NodeData → List EntryData
node_adds r levels path node = map (under path) (entries_of (entries_at r levels) node)

-- the node at its path, and what is below it there
pub node_added : (r : Repository) (levels : ℕ) (path below : List ℕ) (node : NodeData) (xs : List EntryData) → entries_in (entries_at r levels) node.kind ≡ xs → below ≡ path ++ (codes "/" ++ node.name) → at below node ∷ map (under below) xs ≡ node_adds r levels path node
node_added r levels path below node xs is stands =
    let front : List ℕ = codes "/" ++ node.name in
    ap (λ p. at p node ∷ map (under p) xs) stands
    ∙ ap (λ p. at (path ++ p) node ∷ map (under (path ++ front)) xs) (sym (append-nil front))
    ∙ ap (λ ys. at (path ++ (front ++ [])) node ∷ ys) (under-under path front xs ∙ ap (λ zs. map (under path) (map (under front) zs)) (sym is))

-- ---- the nodes of a tree

-- what was added so far with what is left to add is all, and so for refusals
pub record Turn (r : Repository) (levels : ℕ) (path : List ℕ) (nodes : List NodeData) (before now : List EntryData) (left : List NodeData) : Type 0 where
  pub added : now ++ flat_map (node_adds r levels path) left ≡ before ++ flat_map (node_adds r levels path) nodes
  pub had : first_of (refusal_at (trees_by r) levels) (flat_map tree_of left) ≡ first_of (refusal_at (trees_by r) levels) (flat_map tree_of nodes)
  pub whole : AllByRecursion IsWhole left

module _ (r : Repository) (levels : ℕ) (path : List ℕ) (nodes : List NodeData) (before : List EntryData) where
  pub first_turn : (left : List NodeData) → left ≡ nodes → AllByRecursion IsWhole nodes → Turn r levels path nodes before before left
  first_turn left same whole =
      let first : Turn r levels path nodes before before nodes = record { added = refl; had = refl; whole = whole } in
      subst (λ (xs : List NodeData). Turn r levels path nodes before before xs) (sym same) first

  module _ (now : List EntryData) (node : NodeData) (left : List NodeData) (turn : Turn r levels path nodes before now (node ∷ left)) where
    -- one node more
    pub next_turn : (later : List EntryData) → later ≡ now ++ node_adds r levels path node → first_of (refusal_at (trees_by r) levels) (tree_of node) ≡ None → Turn r levels path nodes before later left
    next_turn later step none = record {
      added = ap (λ es. es ++ flat_map (node_adds r levels path) left) step ∙ append_assoc now (node_adds r levels path node) (flat_map (node_adds r levels path) left) ∙ turn.added;
      had = sym (first_of-append (refusal_at (trees_by r) levels) (tree_of node) (flat_map tree_of left) ∙ ap (λ o. option_or o (first_of (refusal_at (trees_by r) levels) (flat_map tree_of left))) none) ∙ turn.had;
      whole = turn.whole.1;
    }

    -- a node that is refused
    pub turn_refused : (why : ReachError) → first_of (refusal_at (trees_by r) levels) (tree_of node) ≡ Some why → first_of (refusal_at (trees_by r) levels) (flat_map tree_of nodes) ≡ Some why
    turn_refused why is =
        sym turn.had ∙ first_of-append (refusal_at (trees_by r) levels) (tree_of node) (flat_map tree_of left)
        ∙ ap (λ o. option_or o (first_of (refusal_at (trees_by r) levels) (flat_map tree_of left))) is

  -- at the end
  pub all_added : (now : List EntryData) → Turn r levels path nodes before now [] → now ≡ before ++ flat_map (node_adds r levels path) nodes
  all_added now turn = sym (append-nil now) ∙ turn.added

  pub all_had : (now : List EntryData) → Turn r levels path nodes before now [] → first_of (refusal_at (trees_by r) levels) (flat_map tree_of nodes) ≡ None
  all_had now turn = sym turn.had

-- ---- a tree, one level above its nodes

pub tree_entries : (r : Repository) (levels n : ℕ) (path : List ℕ) (tree : Id) → suc n ≡ levels → flat_map (node_adds r n path) (nodes_in r tree) ≡ map (under path) (entries_at r levels tree)
tree_entries r levels n path tree above =
    let P : ℕ → Type 0 = λ l. flat_map (node_adds r n path) (nodes_in r tree) ≡ map (under path) (entries_at r l tree) in
    subst P above (sym (map-flat_map (under path) (entries_of (entries_at r n)) (nodes_in r tree)))

pub tree_refused : (r : Repository) (levels n : ℕ) (tree : Id) (nodes : List NodeData) → suc n ≡ levels → nodes_under r tree ≡ Ok nodes → refusal_at (trees_by r) levels (tree_at tree) ≡ first_of (refusal_at (trees_by r) n) (flat_map tree_of (nodes_in r tree))
tree_refused r levels n tree nodes above is =
    let P : ℕ → Type 0 = λ l. refusal_at (trees_by r) l (tree_at tree) ≡ first_of (refusal_at (trees_by r) n) (flat_map tree_of (nodes_in r tree)) in
    subst P above (ap (λ ns. own_or (refusal_at (trees_by r) n) (trees_of ns)) is ∙ ap (λ ns. first_of (refusal_at (trees_by r) n) (flat_map tree_of ns)) (sym (read_nodes r tree nodes is)))

pub tree_lost : (r : Repository) (levels n : ℕ) (tree : Id) (why : ReachError) → suc n ≡ levels → nodes_under r tree ≡ Err why → refusal_at (trees_by r) levels (tree_at tree) ≡ Some why
tree_lost r levels n tree why above is =
    let P : ℕ → Type 0 = λ l. refusal_at (trees_by r) l (tree_at tree) ≡ Some why in
    subst P above (ap (λ ns. own_or (refusal_at (trees_by r) n) (trees_of ns)) is)

pub too_deep : (r : Repository) (levels : ℕ) (tree : Id) → levels ≡ 0 → refusal_at (trees_by r) levels (tree_at tree) ≡ Some TooDeep
too_deep r levels tree none = ap (λ l. refusal_at (trees_by r) l (tree_at tree)) none
