use Rattle.std.proofs.Common.{◌≡◌, ℕ, List, ◌≤◌, ◌+◌, ◌*◌, ◌-◌, ◌++◌, drop, length, map}
use Rattle.keep_tree.specs.Tree.{node_view}
use Rattle.keep_reach.specs.Reach.{most_levels}
use Rattle.keep_backup.specs.Files.{seen}
use Rattle.keep_backup.specs.Folders.{Folder, folder_at}
use Rattle.keep_backup.specs.Walk.{blobs_below, nodes_of}
use Rattle.keep_backup.specs.declared.paths.PathFile.{PathFile}
use Rattle.keep_backup.proofs.Offering.{HasTaken}
use Rattle.keep_backup.proofs.path_walk.+walking.Given as goal

abbrev pub decreases-walk_folder : goal.decreases-walk_folder
decreases-walk_folder l = 2 * (most_levels - l.depth) + 1

abbrev pub decreases-walk_node : goal.decreases-walk_node
decreases-walk_node l = 2 * (most_levels - l.depth)

abbrev pub decreases-walk_folder-loop-start : goal.decreases-walk_folder-loop-start
decreases-walk_folder-loop-start l = length l.files - l.start

-- what the files from an index on come to
abbrev pub below : ℕ → ℕ → List PathFile → Folder
below depth start files = folder_at (most_levels - depth) (seen depth (drop start files))

abbrev pub invariant-walk_folder-loop-start : goal.invariant-walk_folder-loop-start
invariant-walk_folder-loop-start l = record {
  within : l.start ≤ length l.files;
  nodes : map node_view l.nodes.items ++ nodes_of l.cut.bytes (below l.depth l.start l.files) ≡ nodes_of l.cut.bytes (below l.depth 0 l.files);
  taken : HasTaken (blobs_below l.cut.bytes (below l.depth 0 l.files)) (blobs_below l.cut.bytes (below l.depth l.start l.files)) l.initial.storing l.storing;
}
