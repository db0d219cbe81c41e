-- What a walk over the nodes of a tree has come by, one node later, and at the end.
use Rattle.std.proofs.Common.{◌≡◌, ℕ, suc, Bool, true, false, ◌||◌, cond, not, List, [], ◌∷◌, ◌++◌, map, refl, sym, ap, ap₂, subst, ◌∙◌}
use Rattle.std.proofs.lemmas.List.{append-nil, append_assoc, map-append}
use Rattle.std.proofs.lemmas.List.Elements.{filter-append}
use Rattle.std.proofs.lemmas.Grind.{flat_map-append}
use Rattle.std.specs.List.{flat_map, list_any}
use Rattle.keep_names.specs.declared.id.Id.{Id}
use Rattle.keep_repo.specs.Repository.{Repository}
use Rattle.keep_tree.specs.Tree.{NodeData}
use Rattle.keep_patterns.specs.Parsing.{PatternData}
use Rattle.keep_patterns.specs.Without.{without}
use Rattle.keep_patterns.specs.declared.rest.Rest.{Rest}
use Rattle.keep_build.specs.Blobs.{BlobData, id_of, tree_blob}
use Rattle.keep_rewrite.specs.Finishing.{Finishes}
use Rattle.keep_rewrite.specs.Leaving.{Path, finished, goes, kind_finished, loses, node_left, node_loses, nodes_finished, nodes_in, nodes_left, path_below, tree_left}
use Rattle.keep_rewrite.specs.Walking.{IsLeft, IsRight, Leaves, trees_of}
use Rattle.keep_rewrite.specs.declared.left.Left.{Left}
use Rattle.keep_rewrite.specs.declared.left.Walked.{Walked}
use Rattle.keep_rewrite.proofs.Finished.{both_finished, none_finished, one_finished}
use Rattle.keep_rewrite.proofs.Nodes.{AreHad, rest_had}

or_assoc : (a b c : Bool) → ((a || b) || c) ≡ (a || (b || c))
or_assoc true b c = refl
or_assoc false b c = refl

or_false : (b : Bool) → (b || false) ≡ b
or_false true = refl
or_false false = refl

-- ---- two lists of nodes

module _ (patterns : List PatternData) (at : Path) (xs ys : List NodeData) where
  left-append : (left : Path → Id → Id) → nodes_left patterns left at (xs ++ ys) ≡ nodes_left patterns left at xs ++ nodes_left patterns left at ys
  left-append left =
      ap (map (node_left left at)) (filter-append (λ node. not (goes patterns at node)) xs ys)
      ∙ map-append (node_left left at) (without patterns at xs) (without patterns at ys)

  finished-append : (trees : Path → Id → List BlobData) → nodes_finished patterns trees at (xs ++ ys) ≡ nodes_finished patterns trees at xs ++ nodes_finished patterns trees at ys
  finished-append trees =
      ap (flat_map (λ (node : NodeData). kind_finished trees (path_below at node) node.kind)) (filter-append (λ node. not (goes patterns at node)) xs ys)
      ∙ flat_map-append (λ (node : NodeData). kind_finished trees (path_below at node) node.kind) (without patterns at xs) (without patterns at ys)

module _ (r : Repository) (patterns : List PatternData) (levels : ℕ) (rests : List Rest) (nodes : List NodeData) (old : List BlobData) where
  abbrev Left-at : Path → List NodeData → List NodeData
  Left-at at ns = nodes_left patterns (tree_left r patterns levels) at ns

  abbrev Lost-at : Path → List NodeData → Bool
  Lost-at at ns = list_any (node_loses patterns (loses r patterns levels) at) ns

  abbrev Trees-at : Path → List NodeData → List BlobData
  Trees-at at ns = nodes_finished patterns (finished r patterns levels) at ns

  -- these nodes are to come; what was found so far and what is found of them is what is found of all
  pub record IsAt (rest kept : List NodeData) (lost : Bool) (walked : Walked) : Type 0 where
    pub had : AreHad r levels rest
    pub right : IsRight r patterns walked
    pub kept_so : (at : Path) → Leaves patterns rests at → kept ++ Left-at at rest ≡ Left-at at nodes
    pub lost_so : (at : Path) → Leaves patterns rests at → (lost || Lost-at at rest) ≡ Lost-at at nodes
    pub trees_so : (at : Path) → Leaves patterns rests at → (new : List BlobData)
        → Finishes (trees_of walked) new (Trees-at at rest) → Finishes old new (Trees-at at nodes)

  pub first_turn : (rest kept : List NodeData) (walked : Walked) → rest ≡ nodes → kept ≡ [] → trees_of walked ≡ old → AreHad r levels nodes → IsRight r patterns walked → IsAt rest kept false walked
  first_turn rest kept walked all none same had right =
      subst (λ (ns : List NodeData). IsAt ns kept false walked) (sym all) (subst (λ (ns : List NodeData). IsAt nodes ns false walked) (sym none)
      (record {
        had = had;
        right = right;
        kept_so = λ at leaves. refl;
        lost_so = λ at leaves. refl;
        trees_so = λ at leaves new h. subst (λ trees. Finishes trees new (Trees-at at nodes)) same h;
      }))

  module _ (node : NodeData) (rest kept later : List NodeData) (lost more : Bool) (walked now : Walked) where
    pub next_turn : IsAt (node ∷ rest) kept lost walked
        → ((at : Path) → Leaves patterns rests at → later ≡ kept ++ Left-at at (node ∷ []))
        → ((at : Path) → Leaves patterns rests at → more ≡ node_loses patterns (loses r patterns levels) at node)
        → ((at : Path) → Leaves patterns rests at → Finishes (trees_of walked) (trees_of now) (Trees-at at (node ∷ [])))
        → IsRight r patterns now → IsAt rest later (lost || more) now
    next_turn was keeps loses_so finishes right = record {
      had = rest_had r levels node rest was.had;
      right = right;
      kept_so = λ at leaves.
          ap (λ ns. ns ++ Left-at at rest) (keeps at leaves) ∙ append_assoc kept (Left-at at (node ∷ [])) (Left-at at rest)
          ∙ ap (λ ns. kept ++ ns) (sym (left-append patterns at (node ∷ []) rest (tree_left r patterns levels)))
          ∙ was.kept_so at leaves;
      lost_so = λ at leaves.
          or_assoc lost more (Lost-at at rest)
          ∙ ap (λ b. lost || (b || Lost-at at rest)) (loses_so at leaves)
          ∙ was.lost_so at leaves;
      trees_so = λ at leaves new h.
          was.trees_so at leaves new
          (subst (λ trees. Finishes (trees_of walked) new trees) (sym (finished-append patterns at (node ∷ []) rest (finished r patterns levels)))
          (both_finished (trees_of walked) (trees_of now) new (Trees-at at (node ∷ [])) (Trees-at at rest) (finishes at leaves) h));
    }

  -- ---- at the end

  module _ (kept : List NodeData) (lost : Bool) (walked : Walked) (is : IsAt [] kept lost walked) where
    pub all_kept : (at : Path) → Leaves patterns rests at → kept ≡ Left-at at nodes
    all_kept at leaves = sym (append-nil kept) ∙ is.kept_so at leaves

    pub all_lost : (at : Path) → Leaves patterns rests at → lost ≡ Lost-at at nodes
    all_lost at leaves = sym (or_false lost) ∙ is.lost_so at leaves

    pub all_trees : (at : Path) → Leaves patterns rests at → Finishes old (trees_of walked) (Trees-at at nodes)
    all_trees at leaves = is.trees_so at leaves (trees_of walked) (none_finished (trees_of walked))

-- ---- the tree

module _ (r : Repository) (patterns : List PatternData) (levels : ℕ) (rests : List Rest) (tree : Id) (old : List BlobData)
    (kept : List NodeData) (lost : Bool) (walked : Walked) (is : IsAt r patterns levels rests (nodes_in r tree) old [] kept lost walked) where
  -- what is left of it
  pub tree_left_so : (n : ℕ) → suc levels ≡ n → (left : Left) → left.loses ≡ lost → left.tree ≡ cond lost (id_of (tree_blob kept)) tree → IsLeft r patterns n rests tree left
  tree_left_so n same left loses_is tree_is = subst (λ k. IsLeft r patterns k rests tree left) same (λ at leaves.
      let lost_is = all_lost r patterns levels rests (nodes_in r tree) old kept lost walked is at leaves in
      let nodes = all_kept r patterns levels rests (nodes_in r tree) old kept lost walked is at leaves in (
        loses_is ∙ lost_is,
        tree_is ∙ ap₂ (λ b ns. cond b (id_of (tree_blob ns)) tree) lost_is nodes,
      ))

  -- what is finished for it
  last_finished : (b : Bool) → Finishes (trees_of walked) (trees_of walked ++ cond b (tree_blob kept ∷ []) []) (cond b (tree_blob kept ∷ []) [])
  last_finished true = one_finished (trees_of walked) (tree_blob kept)
  last_finished false = subst (λ now. Finishes (trees_of walked) now []) (sym (append-nil (trees_of walked))) (none_finished (trees_of walked))

  pub tree_finished_so : (n : ℕ) → suc levels ≡ n → (new : List BlobData) → new ≡ trees_of walked ++ cond lost (tree_blob kept ∷ []) []
      → (at : Path) → Leaves patterns rests at → Finishes old new (finished r patterns n at tree)
  tree_finished_so n same new added at leaves =
      let lost_is = all_lost r patterns levels rests (nodes_in r tree) old kept lost walked is at leaves in
      let nodes = all_kept r patterns levels rests (nodes_in r tree) old kept lost walked is at leaves in
      let trees = nodes_finished patterns (finished r patterns levels) at (nodes_in r tree) in
      subst (λ k. Finishes old new (finished r patterns k at tree)) same
      (subst (λ more. Finishes old new (trees ++ more)) (ap₂ (λ b ns. cond b (tree_blob ns ∷ []) []) lost_is nodes)
      (subst (λ now. Finishes old now (trees ++ cond lost (tree_blob kept ∷ []) [])) (sym added)
      (both_finished old (trees_of walked) (trees_of walked ++ cond lost (tree_blob kept ∷ []) []) trees (cond lost (tree_blob kept ∷ []) [])
      (all_trees r patterns levels rests (nodes_in r tree) old kept lost walked is at leaves) (last_finished lost))))
