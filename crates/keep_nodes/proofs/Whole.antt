-- Where nothing that is reached from a tree is refused, no tree is.
use Rattle.std.proofs.Common.{◌≡◌, ℕ, zero, suc, List, [], ◌∷◌, Option, None, Some, Result, Ok, Err, refl, sym, ap, ◌∙◌}
use Rattle.std.specs.List.{flat_map}
use Rattle.std.specs.Option.{option_or}
use Rattle.keep_names.specs.BlobId.{tree_at}
use Rattle.keep_names.specs.declared.id.Id.{Id}
use Rattle.keep_repo.specs.Repository.{Repository}
use Rattle.keep_tree.specs.Tree.{KindData, dir, file, other, NodeData}
use Rattle.keep_catalog.proofs.Naming.{trees_name}
use Rattle.keep_catalog.specs.Naming.{blobs_named, named_by, named_in, named_of, nodes_under}
use Rattle.keep_catalog.specs.declared.reach_error.ReachError.{ReachError}
use Rattle.keep_reach.specs.Reach.{first_of, own_or, refusal_at}
use Rattle.keep_nodes.specs.Listed.{tree_in, tree_of, trees_by, trees_of}
use Rattle.keep_nodes.proofs.Walking.{first_of-append}

none_first : (a b : Option ReachError) → option_or a b ≡ None → a ≡ None
none_first None b h = refl
none_first (Some x) b h = cc

none_second : (a b : Option ReachError) → option_or a b ≡ None → b ≡ None
none_second None b h = h
none_second (Some x) b h = cc

module _ (r : Repository) where
  abbrev TreesToo : ℕ → Type 0
  TreesToo n = (tree : Id) → refusal_at (named_by r) n (tree_at tree) ≡ None → refusal_at (trees_by r) n (tree_at tree) ≡ None

  kind_had : (n : ℕ) → TreesToo n → (kind : KindData) → first_of (refusal_at (named_by r) n) (named_in kind) ≡ None → first_of (refusal_at (trees_by r) n) (tree_in kind) ≡ None
  kind_had n had (dir subtree) h = ap (λ o. option_or o None) (had subtree (none_first _ _ h))
  kind_had n had (file content) h = refl
  kind_had n had (other type_name) h = refl

  trees_had : (n : ℕ) → TreesToo n → (nodes : List NodeData) → first_of (refusal_at (named_by r) n) (flat_map named_of nodes) ≡ None → first_of (refusal_at (trees_by r) n) (flat_map tree_of nodes) ≡ None
  trees_had n had [] h = refl
  trees_had n had (node ∷ nodes) h =
      let parts = sym (first_of-append (refusal_at (named_by r) n) (named_of node) (flat_map named_of nodes)) ∙ h in
      first_of-append (refusal_at (trees_by r) n) (tree_of node) (flat_map tree_of nodes)
      ∙ ap (λ o. option_or o (first_of (refusal_at (trees_by r) n) (flat_map tree_of nodes))) (kind_had n had node.kind (none_first _ _ parts))
      ∙ trees_had n had nodes (none_second _ _ parts)

  read_had : (n : ℕ) → TreesToo n → (ns : Result (List NodeData) ReachError) → own_or (refusal_at (named_by r) n) (blobs_named ns) ≡ None → own_or (refusal_at (trees_by r) n) (trees_of ns) ≡ None
  read_had n had (Ok nodes) h = trees_had n had nodes h
  read_had n had (Err why) h = cc

  pub whole_had : (n : ℕ) (tree : Id) → refusal_at (named_by r) n (tree_at tree) ≡ None → refusal_at (trees_by r) n (tree_at tree) ≡ None
  whole_had zero tree h = cc
  whole_had (suc n) tree h =
      read_had n (λ t k. whole_had n t k) (nodes_under r tree) (sym (ap (own_or (refusal_at (named_by r) n)) (trees_name r tree)) ∙ h)
