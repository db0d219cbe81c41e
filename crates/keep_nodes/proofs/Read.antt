-- A tree that was read can be written.
use Rattle.std.proofs.Common.{◌≡◌, ℕ, Bool, true, false, List, [], ◌∷◌, Option, None, Some, Result, Ok, Err, refl, ap, subst}
use Rattle.std.proofs.lemmas.List.Elements.{All-from_recursion, recursion_from_All}
use Rattle.std.specs.List.{AllByRecursion}
use Rattle.std.specs.Option.{option_map_or, unwrap_or}
use Rattle.std.specs.Result.{result_ok}
use Rattle.serde_json.specs.Written.{has_float}
use Rattle.keep_names.specs.BlobId.{tree_at}
use Rattle.keep_names.specs.declared.id.Id.{Id}
use Rattle.keep_repo.specs.Repository.{Repository}
use Rattle.keep_tree.proofs.Inverse.{IsTree-tree_of}
use Rattle.keep_tree.proofs.ReadBack.{has_float-tree_data}
use Rattle.keep_tree.specs.Shape.{IsNode, IsTree}
use Rattle.keep_tree.specs.Tree.{NodeData}
use Rattle.keep_tree.specs.Written.{tree_data}
use Rattle.keep_tree.specs.declared.tree.TreeError.{TreeError}
use Rattle.keep_catalog.specs.Naming.{nodes_chosen, nodes_read, nodes_under, read_tree_of}
use Rattle.keep_catalog.specs.Places.{bytes_at, chosen_listing}
use Rattle.keep_catalog.specs.declared.reach_error.ReachError.TheVariants.{BadTree}
use Rattle.keep_catalog.specs.declared.spot.Spot.{Spot}
use Rattle.keep_read.specs.Contents.{nodes_in}

-- a node that a tree of its own can hold
abbrev pub IsWhole : NodeData → Type 0
IsWhole node = has_float (tree_data (node ∷ [])) ≡ false

bytes_tree : (bytes : List ℕ) (nodes : List NodeData) → read_tree_of bytes ≡ Ok nodes → IsTree nodes
unfolding read_tree_of
bytes_tree bytes nodes is = IsTree-tree_of bytes nodes is

read_tree : (t : Result (List NodeData) TreeError) (bytes : List ℕ) (nodes : List NodeData) → read_tree_of bytes ≡ t → nodes_read t ≡ Ok nodes → IsTree nodes
read_tree (Ok ns) bytes nodes is h =
    let same : ns ≡ nodes = cc h in
    subst IsTree same (bytes_tree bytes ns is)
read_tree (Err refusal) bytes nodes is h = cc h

spot_tree : (o : Option (List ℕ)) (nodes : List NodeData) → option_map_or (λ bytes. nodes_read (read_tree_of bytes)) o (Err BadTree) ≡ Ok nodes → IsTree nodes
spot_tree None nodes h = cc h
spot_tree (Some bytes) nodes h = read_tree (read_tree_of bytes) bytes nodes refl h

chosen_tree : (r : Repository) (tree : Id) (o : Option (Spot × Id)) (nodes : List NodeData) → nodes_chosen r tree o ≡ Ok nodes → IsTree nodes
chosen_tree r tree None nodes h = cc h
chosen_tree r tree (Some e) nodes h = spot_tree (bytes_at r e.0) nodes h

-- what is read as a tree is one
pub under_is_tree : (r : Repository) (tree : Id) (nodes : List NodeData) → nodes_under r tree ≡ Ok nodes → IsTree nodes
unfolding nodes_under
under_is_tree r tree nodes h = chosen_tree r tree (chosen_listing r (tree_at tree)) nodes h

alone : (node : NodeData) → IsNode node → IsTree (node ∷ [])
alone node is = record { each = All-from_recursion IsNode (node ∷ []) (is, tt); distinct = refl }

each_whole : (nodes : List NodeData) → AllByRecursion IsNode nodes → AllByRecursion IsWhole nodes
each_whole [] h = tt
each_whole (node ∷ nodes) h = (has_float-tree_data (node ∷ []) (alone node h.0), each_whole nodes h.1)

-- each of its nodes can be written
pub nodes_whole : (r : Repository) (tree : Id) (nodes : List NodeData) → nodes_under r tree ≡ Ok nodes → AllByRecursion IsWhole nodes
nodes_whole r tree nodes h = each_whole nodes (recursion_from_All IsNode nodes (under_is_tree r tree nodes h).each)

-- the nodes of a tree that was read
pub read_nodes : (r : Repository) (tree : Id) (nodes : List NodeData) → nodes_under r tree ≡ Ok nodes → nodes_in r tree ≡ nodes
unfolding nodes_in
read_nodes r tree nodes is = ap (λ ns. unwrap_or (result_ok ns) []) is
