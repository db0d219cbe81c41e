-- What is reached from the tree that is left is given, or was reached from the old tree.
use Rattle.std.proofs.Common.{◌≡◌, ◌⊎◌, inl, inr, ℕ, zero, suc, Bool, true, false, cond, not, List, [], ◌∷◌, ◌++◌, map, None, Result, Ok, refl, sym, subst, IsOkAnd}
use Rattle.std.specs.List.{flat_map}
use Rattle.keep_names.specs.BlobId.{tree_at}
use Rattle.keep_names.specs.declared.blob.BlobId.{BlobId}
use Rattle.keep_names.specs.declared.id.Id.{Id}
use Rattle.keep_repo.specs.Repository.{Repository}
use Rattle.keep_tree.specs.Shape.{IsTree}
use Rattle.keep_tree.specs.Tree.{KindData, dir, file, other, NodeData}
use Rattle.keep_patterns.specs.Parsing.{PatternData}
use Rattle.keep_patterns.specs.Without.{without}
use Rattle.keep_change.specs.declared.change.Change.{Change}
use Rattle.keep_catalog.specs.Naming.{named_by, named_in, named_of}
use Rattle.keep_reach.specs.Reach.{HasBlob, Names, first_of, refusal_at}
use Rattle.keep_catalog.specs.declared.reach_error.ReachError.{ReachError}
use Rattle.keep_sound.proofs.Places.{LeastIsChosen}
use Rattle.keep_sound.specs.Careful.{GivesPlace}
use Rattle.keep_sound.specs.Met.{HasOneText, IsPartOf}
use Rattle.keep_sound.specs.Retreeing.{BuiltRetrees, KeptRetrees, Retrees}
use Rattle.keep_build.specs.Blobs.{BlobData, blob_id_of, id_of, tree_blob}
use Rattle.keep_rewrite.specs.Finishing.{HasBlobData}
use Rattle.keep_rewrite.specs.Leaving.{Path, finished, goes, kind_finished, kind_left, loses, node_left, nodes_finished, nodes_in, nodes_left, path_below, tree_left}
use Rattle.keep_safety.specs.SafeRewrite.{IsOneText}
use Rattle.keep_rewrite.proofs.Finished.{in_first, in_second}
use Rattle.keep_rewrite.proofs.Kept.{left_ids, left_is_tree, under_is_tree}
use Rattle.keep_safety.proofs.Named.{named_among, named_anew, tree_name}
use Rattle.keep_rewrite.proofs.Nodes.{AreHad, below_had, first_had, nodes_had, nodes_name, none_first, rest_had}

in_left : (xs ys : List BlobId) (b : BlobId) → HasBlob xs b → HasBlob (xs ++ ys) b
in_left [] ys b h = absurd h
in_left (x ∷ xs) ys b (inl here) = inl here
in_left (x ∷ xs) ys b (inr there) = inr (in_left xs ys b there)

in_right : (xs ys : List BlobId) (b : BlobId) → HasBlob ys b → HasBlob (xs ++ ys) b
in_right [] ys b h = h
in_right (x ∷ xs) ys b h = inr (in_right xs ys b h)

in_either : (xs ys : List BlobId) (b : BlobId) → HasBlob (xs ++ ys) b → HasBlob xs b ⊎ HasBlob ys b
in_either [] ys b h = inr h
in_either (x ∷ xs) ys b (inl here) = inl (inl here)
in_either (x ∷ xs) ys b (inr there) = cases (in_either xs ys b there) where
  cases : HasBlob xs b ⊎ HasBlob ys b → HasBlob (x ∷ xs) b ⊎ HasBlob ys b
  cases (inl h) = inl (inr h)
  cases (inr h) = inr h

-- the laws on trees
pub record TreeLaws : Type 0 where
  pub least : LeastIsChosen
  pub kept : KeptRetrees
  pub built : BuiltRetrees

module _ (laws : TreeLaws) (r all : Repository) (part : IsPartOf r all) (one : HasOneText all) (c : Change) (patterns : List PatternData) where
  -- a new tree is given, and no other text has its name
  pub record IsFine (b : BlobData) : Type 0 where
    pub given : GivesPlace all c (blob_id_of b)
    pub met : IsOneText all b

  abbrev pub AreFine : List BlobData → Type 0
  AreFine trees = (b : BlobData) → HasBlobData trees b → IsFine b

  -- one of the old ones from which nothing is reached but what is given or was reached
  abbrev HasOld : ℕ → List BlobId → BlobId → Type 0
  HasOld levels olds b = (a : BlobId) × HasBlob olds a × Retrees all c levels a b

  abbrev BelowRetrees : ℕ → Type 0
  BelowRetrees levels =
      (at : Path) (tree : Id) → refusal_at (named_by r) levels (tree_at tree) ≡ None → AreFine (finished r patterns levels at tree)
      → Retrees all c levels (tree_at tree) (tree_at (tree_left r patterns levels at tree))

  module _ (levels : ℕ) (below : BelowRetrees levels) where
    kind_retrees : (at : Path) (kind : KindData) → first_of (refusal_at (named_by r) levels) (named_in kind) ≡ None → AreFine (kind_finished (finished r patterns levels) at kind)
        → (b : BlobId) → HasBlob (named_in (kind_left (tree_left r patterns levels) at kind)) b → HasOld levels (named_in kind) b
    kind_retrees at (dir subtree) had fine b (inl same) =
        (tree_at subtree, inl refl, subst (λ (x : BlobId). Retrees all c levels (tree_at subtree) x) same (below at subtree (none_first _ _ had) fine))
    kind_retrees at (dir subtree) had fine b (inr none) = absurd none
    kind_retrees at (file content) had fine b among = (b, among, laws.kept all c levels b)
    kind_retrees at (other type_name) had fine b none = absurd none

    more_old : (xs ys : List BlobId) (b : BlobId) → HasOld levels ys b → HasOld levels (xs ++ ys) b
    more_old xs ys b old = (old.0, in_right xs ys old.0 old.1, old.2)

    first_old : (xs ys : List BlobId) (b : BlobId) → HasOld levels xs b → HasOld levels (xs ++ ys) b
    first_old xs ys b old = (old.0, in_left xs ys old.0 old.1, old.2)

    module _ (at : Path) where
      abbrev L : NodeData → NodeData
      L node = node_left (tree_left r patterns levels) at node

      abbrev F : NodeData → List BlobData
      F node = kind_finished (finished r patterns levels) (path_below at node) node.kind

      nodes_retree : (nodes : List NodeData) → AreHad r levels nodes → AreFine (nodes_finished patterns (finished r patterns levels) at nodes)
          → (b : BlobId) → HasBlob (flat_map named_of (nodes_left patterns (tree_left r patterns levels) at nodes)) b → HasOld levels (flat_map named_of nodes) b
      nodes_retree [] had fine b none = absurd none
      nodes_retree (node ∷ nodes) had fine b among = cases (nodes_retree nodes (rest_had r levels node nodes had)) (goes patterns at node) fine among where
        cases : (AreFine (flat_map F (without patterns at nodes)) → (x : BlobId) → HasBlob (flat_map named_of (map L (without patterns at nodes))) x → HasOld levels (flat_map named_of nodes) x)
            → (t : Bool) → AreFine (flat_map F (cond (not t) (node ∷ without patterns at nodes) (without patterns at nodes)))
            → HasBlob (flat_map named_of (map L (cond (not t) (node ∷ without patterns at nodes) (without patterns at nodes)))) b
            → HasOld levels (named_of node ++ flat_map named_of nodes) b
        cases rest true fine_rest h = more_old (named_of node) (flat_map named_of nodes) b (rest fine_rest b h)
        cases rest false fine_all h = elim (in_either (named_of (L node)) (flat_map named_of (map L (without patterns at nodes))) b h) [
          | inl here ↦ first_old (named_of node) (flat_map named_of nodes) b
              (kind_retrees (path_below at node) node.kind (first_had r levels node nodes had) (λ x k. fine_all x (in_first (F node) (flat_map F (without patterns at nodes)) x k)) b here)
          | inr there ↦ more_old (named_of node) (flat_map named_of nodes) b
              (rest (λ x k. fine_all x (in_second (F node) (flat_map F (without patterns at nodes)) x k)) b there)
        ]

    next_retrees : BelowRetrees (suc levels)
    next_retrees at tree had fine = cases (loses r patterns (suc levels) at tree) refl where
      nodes : List NodeData
      nodes = nodes_left patterns (tree_left r patterns levels) at (nodes_in r tree)

      read : IsTree nodes
      read = left_is_tree (tree_left r patterns levels) (left_ids r patterns levels) at patterns (nodes_in r tree) (under_is_tree r tree (nodes_in r tree) (nodes_had r levels tree had))

      old_names : named_by all (tree_at tree) ≡ Ok (flat_map named_of (nodes_in r tree))
      old_names = named_among laws.least r all part one (tree_at tree) (flat_map named_of (nodes_in r tree)) (nodes_name r tree (nodes_in r tree) (nodes_had r levels tree had))

      step : IsFine (tree_blob nodes) → (b : BlobId) → Names (named_by all) (tree_at (id_of (tree_blob nodes))) b → (a : BlobId) × Names (named_by all) (tree_at tree) a × Retrees all c levels a b
      step new b names =
          let N : Result (List BlobId) ReachError → Type 0 = λ t. IsOkAnd t (λ blobs. HasBlob blobs b) in
          let among : HasBlob (flat_map named_of nodes) b = subst N (named_anew laws.least all one c nodes read new.given new.met) names in
          let old = nodes_retree at (nodes_in r tree) (below_had r levels tree had) (λ x k. fine x (in_first (nodes_finished patterns (finished r patterns levels) at (nodes_in r tree)) _ x k)) b among in
          (old.0, subst (λ (t : Result (List BlobId) ReachError). IsOkAnd t (λ blobs. HasBlob blobs old.0)) (sym old_names) old.1, old.2)

      anew : loses r patterns (suc levels) at tree ≡ true → IsFine (tree_blob nodes)
      anew is =
          fine (tree_blob nodes)
          (in_second (nodes_finished patterns (finished r patterns levels) at (nodes_in r tree)) (cond (loses r patterns (suc levels) at tree) (tree_blob nodes ∷ []) []) (tree_blob nodes)
          (subst (λ (t : Bool). HasBlobData (cond t (tree_blob nodes ∷ []) []) (tree_blob nodes)) (sym is) (inl refl)))

      cases : (t : Bool) → loses r patterns (suc levels) at tree ≡ t → Retrees all c (suc levels) (tree_at tree) (tree_at (cond t (id_of (tree_blob nodes)) tree))
      cases false is = laws.kept all c (suc levels) (tree_at tree)
      cases true is =
          let new = anew is in
          laws.built all c levels (tree_at tree) (tree_at (id_of (tree_blob nodes))) (subst (λ (b : BlobId). GivesPlace all c b) (sym (tree_name nodes)) new.given) (step new)

  pub tree_retrees : (levels : ℕ) → BelowRetrees levels
  tree_retrees zero at tree had fine = cc had
  tree_retrees (suc levels) at tree had fine = next_retrees levels (tree_retrees levels) at tree had fine
