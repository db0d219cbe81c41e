-- What nodes name, one node later, and what a piece and a tree name.
use Rattle.std.proofs.Common.{◌≡◌, ℕ, ◌+◌, ◌<◌, List, [], ◌∷◌, ◌++◌, map, take, length, get_or, Option, None, Some, Ok, Err, refl, sym, ap, ◌∙◌}
use Rattle.std.proofs.lemmas.List.{append-nil}
use Rattle.std.proofs.lemmas.Grind.{flat_map-append}
use Rattle.std.specs.List.{flat_map}
use Rattle.keep_names.specs.BlobId.{tree_at}
use Rattle.keep_names.specs.declared.blob.BlobId.{BlobId}
use Rattle.keep_names.specs.declared.blob.BlobType.TheVariants.{Content}
use Rattle.keep_names.specs.declared.id.Id.{Id}
use Rattle.keep_repo.specs.Repository.{Repository}
use Rattle.keep_tree.specs.Tree.{node_view}
use Rattle.keep_tree.specs.declared.node.Node.{Node}
use Rattle.keep_catalog.specs.Naming.{blobs_named, missing, named_at, named_by, named_of, names_at, nodes_at_spot, nodes_chosen, nodes_under}
use Rattle.keep_catalog.specs.Places.{chosen_listing}
use Rattle.keep_catalog.specs.declared.spot.Spot.{Spot}
use Rattle.keep_catalog.proofs.Growing.{map_taken}

pub named-taken : (nodes : List Node) (i : ℕ) (node : Node) → i < length nodes → node ≡ get_or nodes i node → flat_map named_of (map node_view (take (i + 1) nodes)) ≡ flat_map named_of (map node_view (take i nodes)) ++ named_of (node_view node)
named-taken nodes i node lt is =
    ap (flat_map named_of) (map_taken nodes i node node lt is node_view)
    ∙ flat_map-append named_of (map node_view (take i nodes)) (node_view node ∷ [])
    ∙ ap (λ names. flat_map named_of (map node_view (take i nodes)) ++ names) (append-nil (named_of (node_view node)))

-- what a blob names, by its chosen listing
pub named_there : (r : Repository) (blob : BlobId) (e : Spot × Id) → chosen_listing r blob ≡ Some e → named_by r blob ≡ names_at r blob.blob_type e.0
unfolding named_by
named_there r blob e is = ap (named_at r blob) is

pub named_nowhere : (r : Repository) (blob : BlobId) → chosen_listing r blob ≡ None → named_by r blob ≡ Err (missing r blob)
unfolding named_by
named_nowhere r blob is = ap (named_at r blob) is

-- a piece that is had names nothing
pub pieces_name_nothing : (r : Repository) (blob : BlobId) (names : List BlobId) → blob.blob_type ≡ Content → named_by r blob ≡ Ok names → named_by r blob ≡ Ok []
unfolding named_by
pieces_name_nothing r blob names piece is = cases (chosen_listing r blob) is where
  cases : (o : Option (Spot × Id)) → named_at r blob o ≡ Ok names → named_at r blob o ≡ Ok []
  cases None h = cc h
  cases (Some e) h = ap (λ t. names_at r t e.0) piece

-- the nodes of a tree, by its chosen listing
module _ (r : Repository) (tree : Id) (blob : BlobId) (is : blob ≡ tree_at tree) where
  pub nodes_there : (e : Spot × Id) → chosen_listing r blob ≡ Some e → nodes_under r tree ≡ nodes_at_spot r e.0
  unfolding nodes_under
  nodes_there e chosen = ap (nodes_chosen r tree) (sym (ap (chosen_listing r) is) ∙ chosen)

  pub nodes_nowhere : chosen_listing r blob ≡ None → nodes_under r tree ≡ Err (missing r blob)
  unfolding nodes_under
  nodes_nowhere none =
      ap (nodes_chosen r tree) (sym (ap (chosen_listing r) is) ∙ none) ∙ ap (λ b. Err (missing r b)) (sym is)

-- a tree names what its nodes name
pub trees_name : (r : Repository) (tree : Id) → named_by r (tree_at tree) ≡ blobs_named (nodes_under r tree)
unfolding named_by nodes_under
trees_name r tree = cases (chosen_listing r (tree_at tree)) where
  cases : (o : Option (Spot × Id)) → named_at r (tree_at tree) o ≡ blobs_named (nodes_chosen r tree o)
  cases None = refl
  cases (Some e) = refl
