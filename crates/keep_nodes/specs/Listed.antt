-- What a snapshot has by path, and why that can't be told.
use Rattle.std.specs.Prelude.{List, [], ◌∷◌, Option, None, Some, Result, Ok, Err}
use Rattle.std.specs.List.{flat_map}
use Rattle.keep_names.specs.BlobId.{tree_at}
use Rattle.keep_names.specs.declared.blob.BlobId.{BlobId}
use Rattle.keep_names.specs.declared.file_name.Kind.TheVariants.{Snapshot}
use Rattle.keep_names.specs.declared.id.Id.{Id}
use Rattle.keep_repo.specs.Repository.{Repository}
use Rattle.keep_snap.specs.Snap.{SnapData}
use Rattle.keep_snap.specs.declared.snap.SnapError.{SnapError}
use Rattle.keep_tree.specs.Tree.{KindData, dir, file, other, NodeData}
use Rattle.keep_catalog.specs.Files.{snapshot_in, unread}
use Rattle.keep_catalog.specs.Naming.{nodes_under}
use Rattle.keep_catalog.specs.declared.reach_error.ReachError.{ReachError}
use Rattle.keep_catalog.specs.declared.unread.FileError.TheVariants.{Snap}
use Rattle.keep_reach.specs.Reach.{Naming, most_levels, refusal_at}
use Rattle.keep_reach.specs.Snapshots.{refusal_from}
use Rattle.keep_read.specs.declared.restore_error.RestoreError.{RestoreError}
use Rattle.keep_read.specs.declared.restore_error.RestoreError.TheVariants.{NoSnapshot, Reach, Unread}
use Rattle.keep_nodes.specs.Entries.{EntryData, entries_at}

-- the tree of a node, if it is a folder
abbrev pub tree_in : KindData → List BlobId
tree_in (dir subtree) = tree_at subtree ∷ []
tree_in (file content) = []
tree_in (other type_name) = []

abbrev pub tree_of : NodeData → List BlobId
tree_of node = tree_in node.kind

-- the trees of nodes, in their order
abbrev pub trees_of : Result (List NodeData) ReachError → Result (List BlobId) ReachError
trees_of (Ok nodes) = Ok (flat_map tree_of nodes)
trees_of (Err why) = Err why

-- the trees alone that a tree names, or why it can't be had
abbrev pub trees_by : Repository → Naming
trees_by r blob = trees_of (nodes_under r blob.id)

-- the first refusal of a tree, depth first, from this one on; pieces of files aren't sought
abbrev pub tree_refusal : Repository → Id → Option ReachError
tree_refusal r tree = refusal_at (trees_by r) most_levels (tree_at tree)

-- the first refusal of all that is reached from this tree
abbrev pub whole_refusal : Repository → Id → Option ReachError
whole_refusal r tree = refusal_from r (tree_at tree)

-- what is below this tree, unless something is refused
abbrev pub listed_from : Repository → Id → Option ReachError → Result (List EntryData) ReachError
listed_from r tree None = Ok (entries_at r most_levels tree)
listed_from r tree (Some why) = Err why

-- the tree of a snapshot's root, by what its file is to be read as
abbrev pub root_by : Id → Option (Result SnapData SnapError) → Result Id RestoreError
root_by snapshot None = Err NoSnapshot
root_by snapshot (Some (Err why)) = Err (Unread (unread Snapshot snapshot (Snap why)))
root_by snapshot (Some (Ok snap)) = Ok snap.tree

-- the tree of the root of the snapshot of this name, or why there is none
unfoldable pub root_due : Repository → Id → Result Id RestoreError
root_due r snapshot = root_by snapshot (snapshot_in r snapshot)

-- the refusal of what a root reaches is one of the snapshot
abbrev pub reached : Result (List EntryData) ReachError → Result (List EntryData) RestoreError
reached (Ok entries) = Ok entries
reached (Err why) = Err (Reach why)

-- what is below a root, if there is one and nothing is refused
abbrev pub listed_by : Repository → (Id → Option ReachError) → Result Id RestoreError → Result (List EntryData) RestoreError
listed_by r refusal (Ok tree) = reached (listed_from r tree (refusal tree))
listed_by r refusal (Err why) = Err why

-- what the snapshot of this name has by path, or the first refusal: there is no such snapshot, it can't be read, or
-- one of its trees can't be had
abbrev pub nodes_due : Repository → Id → Result (List EntryData) RestoreError
nodes_due r snapshot = listed_by r (tree_refusal r) (root_due r snapshot)

-- what the snapshot of this name has by path, or the first refusal of all that it reaches, pieces of files too, in the
-- order in which a restore finds them
abbrev pub whole_nodes_due : Repository → Id → Result (List EntryData) RestoreError
whole_nodes_due r snapshot = listed_by r (whole_refusal r) (root_due r snapshot)
