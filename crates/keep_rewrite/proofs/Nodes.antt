-- The nodes of a tree that isn't refused.
use Rattle.std.proofs.Common.{◌≡◌, ℕ, zero, suc, ◌-◌, ◌<◌, List, [], ◌∷◌, ◌++◌, Option, None, Some, Result, Ok, Err, refl, sym, ap, subst, ◌∙◌, arith}
use Rattle.std.specs.List.{flat_map}
use Rattle.std.specs.Option.{option_or, unwrap_or}
use Rattle.std.specs.Result.{result_ok}
use Rattle.keep_names.specs.BlobId.{tree_at}
use Rattle.keep_names.specs.declared.blob.BlobId.{BlobId}
use Rattle.keep_names.specs.declared.id.Id.{Id}
use Rattle.keep_repo.specs.Repository.{Repository}
use Rattle.keep_tree.specs.Tree.{NodeData}
use Rattle.keep_catalog.specs.Naming.{blobs_named, named_at, named_by, named_of, nodes_at_spot, nodes_chosen, nodes_under}
use Rattle.keep_catalog.specs.Places.{chosen_listing}
use Rattle.keep_reach.specs.Reach.{Naming, first_of, own_or, refusal_at}
use Rattle.keep_catalog.specs.declared.reach_error.ReachError.{ReachError}
use Rattle.keep_catalog.specs.declared.spot.Spot.{Spot}
use Rattle.keep_rewrite.specs.Leaving.{nodes_in}

-- ---- the first refusal of several

pub none_first : (a b : Option ReachError) → option_or a b ≡ None → a ≡ None
none_first None b h = refl
none_first (Some x) b h = h

pub none_second : (a b : Option ReachError) → option_or a b ≡ None → b ≡ None
none_second None b h = h
none_second (Some x) b h = cc

first_of-append : (refusal : BlobId → Option ReachError) (xs ys : List BlobId) → first_of refusal (xs ++ ys) ≡ option_or (first_of refusal xs) (first_of refusal ys)
first_of-append refusal [] ys = refl
first_of-append refusal (x ∷ xs) ys = ap (option_or (refusal x)) (first_of-append refusal xs ys) ∙ regroup (refusal x) _ _ where
  regroup : (a b c : Option ReachError) → option_or a (option_or b c) ≡ option_or (option_or a b) c
  regroup None b c = refl
  regroup (Some e) b c = refl

-- no refusal of what a list of nodes names
abbrev pub AreHad : Repository → ℕ → List NodeData → Type 0
AreHad r levels nodes = first_of (refusal_at (named_by r) levels) (flat_map named_of nodes) ≡ None

abbrev pub IsHad : Repository → ℕ → NodeData → Type 0
IsHad r levels node = first_of (refusal_at (named_by r) levels) (named_of node) ≡ None

module _ (r : Repository) (levels : ℕ) (node : NodeData) (nodes : List NodeData) (had : AreHad r levels (node ∷ nodes)) where
  parts : option_or (first_of (refusal_at (named_by r) levels) (named_of node)) (first_of (refusal_at (named_by r) levels) (flat_map named_of nodes)) ≡ None
  parts = sym (first_of-append (refusal_at (named_by r) levels) (named_of node) (flat_map named_of nodes)) ∙ had

  pub first_had : first_of (refusal_at (named_by r) levels) (named_of node) ≡ None
  first_had = none_first _ _ parts

  pub rest_had : AreHad r levels nodes
  rest_had = none_second _ _ parts

-- ---- a tree that isn't refused names what its nodes name

module _ (refusal : BlobId → Option ReachError) where
  by_nodes : (n : Result (List NodeData) ReachError) → own_or refusal (blobs_named n) ≡ None → n ≡ Ok (unwrap_or (result_ok n) [])
  by_nodes (Ok nodes) h = refl
  by_nodes (Err e) h = cc

  by_listing : (r : Repository) (tree : Id) (o : Option (Spot × Id)) → own_or refusal (named_at r (tree_at tree) o) ≡ None → nodes_chosen r tree o ≡ Ok (unwrap_or (result_ok (nodes_chosen r tree o)) [])
  by_listing r tree None h = cc
  by_listing r tree (Some e) h = by_nodes (nodes_at_spot r e.0) h

  named_listing : (r : Repository) (tree : Id) (o : Option (Spot × Id)) (nodes : List NodeData) → nodes_chosen r tree o ≡ Ok nodes → named_at r (tree_at tree) o ≡ Ok (flat_map named_of nodes)
  named_listing r tree None nodes h = cc h
  named_listing r tree (Some e) nodes h = ap blobs_named h

-- the nodes are those that it has
pub nodes_had : (r : Repository) (levels : ℕ) (tree : Id) → refusal_at (named_by r) (suc levels) (tree_at tree) ≡ None → nodes_under r tree ≡ Ok (nodes_in r tree)
unfolding named_by nodes_in nodes_under
nodes_had r levels tree had = by_listing (refusal_at (named_by r) levels) r tree (chosen_listing r (tree_at tree)) had

-- what a tree of these nodes names
pub nodes_name : (r : Repository) (tree : Id) (nodes : List NodeData) → nodes_under r tree ≡ Ok nodes → named_by r (tree_at tree) ≡ Ok (flat_map named_of nodes)
unfolding named_by nodes_under
nodes_name r tree nodes is = named_listing (λ _. None) r tree (chosen_listing r (tree_at tree)) nodes is

pub below_had : (r : Repository) (levels : ℕ) (tree : Id) → refusal_at (named_by r) (suc levels) (tree_at tree) ≡ None → AreHad r levels (nodes_in r tree)
below_had r levels tree had =
    sym (ap (own_or (refusal_at (named_by r) levels)) (nodes_name r tree (nodes_in r tree) (nodes_had r levels tree had))) ∙ had

-- what was read of a tree are its nodes
pub nodes_read : (r : Repository) (tree : Id) (nodes : List NodeData) → nodes_under r tree ≡ Ok nodes → nodes_in r tree ≡ nodes
unfolding nodes_in
nodes_read r tree nodes is = ap (λ n. unwrap_or (result_ok n) []) is

-- a tree isn't had without a level
pub some_level : (named : Naming) (levels : ℕ) (tree : Id) → refusal_at named levels (tree_at tree) ≡ None → 0 < levels
some_level named zero tree had = cc had
some_level named (suc levels) tree had = omega arith

-- a tree that is had with any number of levels has the nodes that are read of it
pub nodes_of_had : (r : Repository) (n : ℕ) (tree : Id) → refusal_at (named_by r) n (tree_at tree) ≡ None → nodes_under r tree ≡ Ok (nodes_in r tree)
nodes_of_had r zero tree had = cc had
nodes_of_had r (suc levels) tree had = nodes_had r levels tree had

pub had_below : (r : Repository) (n : ℕ) (tree : Id) → refusal_at (named_by r) n (tree_at tree) ≡ None → AreHad r (n - 1) (nodes_in r tree)
had_below r zero tree had = cc had
had_below r (suc levels) tree had =
    let same : suc levels - 1 ≡ levels = omega arith in
    subst (λ (k : ℕ). AreHad r k (nodes_in r tree)) (sym same) (below_had r levels tree had)

pub one_above : (named : Naming) (n : ℕ) (tree : Id) → refusal_at named n (tree_at tree) ≡ None → suc (n - 1) ≡ n
one_above named n tree had = let some : 0 < n = some_level named n tree had in omega arith
