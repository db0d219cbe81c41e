-- Which blobs a blob names, and why one can't be had (restic's design document, "Trees and Data").
use Rattle.std.specs.Prelude.{ℕ, List, [], ◌∷◌, map, Option, None, Some, Result, Ok, Err, if◌then◌else◌}
use Rattle.std.specs.List.{flat_map, list_any}
use Rattle.std.specs.Option.{option_map_or}
use Rattle.std.specs.FinMap as finite
use Rattle.keep_names.specs.BlobId.{piece_of, tree_at}
use Rattle.keep_names.specs.declared.blob.BlobId.{BlobId}
use Rattle.keep_names.specs.declared.blob.BlobType.{BlobType}
use Rattle.keep_names.specs.declared.blob.BlobType.TheVariants.{Content, Tree}
use Rattle.keep_names.specs.declared.id.Id.{Id}
use Rattle.keep_repo.specs.Repository.{Repository}
use Rattle.keep_tree.specs.Tree.{KindData, dir, file, other, NodeData}
use Rattle.keep_tree.specs.Tree as tree_reading
use Rattle.keep_tree.specs.declared.tree.TreeError.{TreeError}
use Rattle.keep_catalog.specs.Places.{bytes_at, chosen_listing, is_honest, spots_of}
use Rattle.keep_catalog.specs.declared.reach_error.ReachError.{ReachError}
use Rattle.keep_catalog.specs.declared.reach_error.ReachError.TheVariants.{BadTree, MissingBlob, WrongHash}
use Rattle.keep_catalog.specs.declared.spot.Spot.{Spot}

-- what a node names: a folder its tree, a file its pieces in their order
abbrev pub named_in : KindData → List BlobId
named_in (dir subtree) = tree_at subtree ∷ []
named_in (file content) = map piece_of content
named_in (other type_name) = []

abbrev pub named_of : NodeData → List BlobId
named_of node = named_in node.kind

-- what the bytes of a tree are to be read as
unfoldable pub read_tree_of : List ℕ → Result (List NodeData) TreeError
read_tree_of bytes = tree_reading.tree_of bytes

-- the nodes of a tree that was read; bytes that aren't one are a BadTree
abbrev pub nodes_read : Result (List NodeData) TreeError → Result (List NodeData) ReachError
nodes_read (Ok nodes) = Ok nodes
nodes_read (Err refusal) = Err BadTree

-- the nodes of the tree at the spot
abbrev pub nodes_at_spot : Repository → Spot → Result (List NodeData) ReachError
nodes_at_spot r spot = option_map_or (λ bytes. nodes_read (read_tree_of bytes)) (bytes_at r spot) (Err BadTree)

-- what nodes name, in their order
abbrev pub blobs_named : Result (List NodeData) ReachError → Result (List BlobId) ReachError
blobs_named (Ok nodes) = Ok (flat_map named_of nodes)
blobs_named (Err why) = Err why

-- what a blob of this type at the spot names: a piece nothing
abbrev pub names_at : Repository → BlobType → Spot → Result (List BlobId) ReachError
names_at r Content spot = Ok []
names_at r Tree spot = blobs_named (nodes_at_spot r spot)

-- Why the blob has no chosen place: where an index and a header have it and no such bytes have its id, it is
-- WrongHash. Marks play no part in that.
abbrev pub why_missing : Repository → BlobId → List (Spot × Id) → ReachError
why_missing r blob [] = MissingBlob blob.id
why_missing r blob (e ∷ es) =
    if list_any (λ x. is_honest r blob x.0) (e ∷ es) then MissingBlob blob.id else WrongHash blob.id

unfoldable pub missing : Repository → BlobId → ReachError
missing r blob = why_missing r blob (finite.entries (spots_of r blob))

-- the nodes of the tree at its chosen place
abbrev pub nodes_chosen : Repository → Id → Option (Spot × Id) → Result (List NodeData) ReachError
nodes_chosen r tree None = Err (missing r (tree_at tree))
nodes_chosen r tree (Some e) = nodes_at_spot r e.0

-- the nodes of a tree, or why it can't be had
unfoldable pub nodes_under : Repository → Id → Result (List NodeData) ReachError
nodes_under r tree = nodes_chosen r tree (chosen_listing r (tree_at tree))

-- what the blob at its chosen place names
abbrev pub named_at : Repository → BlobId → Option (Spot × Id) → Result (List BlobId) ReachError
named_at r blob None = Err (missing r blob)
named_at r blob (Some e) = names_at r blob.blob_type e.0

-- the blobs that a blob names, in its order, or why it can't be had
unfoldable pub named_by : Repository → BlobId → Result (List BlobId) ReachError
named_by r blob = named_at r blob (chosen_listing r blob)
