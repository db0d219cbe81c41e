-- The blobs of a folder, in the order of a walk over it (restic's design document, "Trees and Data").
use Rattle.std.specs.Prelude.{ℕ, List, [], ◌∷◌, ◌++◌, map, length, Option, None, Some, if◌then◌else◌}
use Rattle.std.specs.List.{list_any}
use Rattle.std.specs.Simd.{first_chunks}
use Rattle.std.specs.Slice.Iter.{chunk_count}
use Rattle.serde_json.specs.Data.{no_members}
use Rattle.keep_names.specs.declared.blob.BlobId.{BlobId}
use Rattle.keep_names.specs.declared.blob.BlobType.TheVariants.{Content}
use Rattle.keep_repo.specs.Repository.{Repository}
use Rattle.keep_tree.specs.Tree.{dir, file, NodeData}
use Rattle.keep_build.specs.Blobs.{BlobData, id_of, is_full, tree_blob}
use Rattle.keep_backup.specs.Folders.{Folder, no_nodes, file_node, folder_node, root_folder}
use Rattle.keep_backup.specs.Paths.{FileData, is_too_deep, path_of}
use Rattle.keep_build.specs.Storing.{Keeps}
use Rattle.keep_plan.specs.declared.plan_error.PlanError.{PlanError}
use Rattle.keep_plan.specs.declared.plan_error.PlanError.TheVariants.{Full, TooDeep}
use Rattle.keep_build.specs.declared.storing.Storing.{Storing}

-- the pieces of a file that is cut every so many bytes. The last may be shorter
unfoldable pub pieces_of : ℕ → List ℕ → List BlobData
pieces_of cut bytes =
    map (λ piece. (Content, piece)) (first_chunks cut (chunk_count (length bytes) cut) bytes)

-- the nodes of a folder: a file with the ids of its pieces, a folder with its tree's
abbrev pub nodes_of : ℕ → Folder → List NodeData
nodes_of cut no_nodes = []
nodes_of cut (file_node name bytes more) =
    record { name = name; kind = file (map id_of (pieces_of cut bytes)); others = no_members }
    ∷ nodes_of cut more
nodes_of cut (folder_node name inner more) =
    record { name = name; kind = dir (id_of (tree_blob (nodes_of cut inner))); others = no_members }
    ∷ nodes_of cut more

-- the blobs below a folder: the pieces of its files, and what is below its folders and then their trees
abbrev pub blobs_below : ℕ → Folder → List BlobData
blobs_below cut no_nodes = []
blobs_below cut (file_node name bytes more) = pieces_of cut bytes ++ blobs_below cut more
blobs_below cut (folder_node name inner more) =
    (blobs_below cut inner ++ tree_blob (nodes_of cut inner) ∷ []) ++ blobs_below cut more

-- the tree of a folder, and the blobs of a folder: those below it, and then its tree
abbrev pub root_tree : ℕ → Folder → BlobData
root_tree cut folder = tree_blob (nodes_of cut folder)

abbrev pub blobs_of : ℕ → Folder → List BlobData
blobs_of cut folder = blobs_below cut folder ++ root_tree cut folder ∷ []

-- these blobs were offered besides, in this order
pub record Took (blobs : List BlobData) (old new : Storing) : Type 0 where
  pub kept : (r : Repository) (named : List BlobId) (offered : List BlobData) → Keeps r named offered old
      → Keeps r named (offered ++ blobs) new

-- why files aren't walked over: one is too deep, before anything is offered, or a blob is too long
abbrev pub walk_refusal : ℕ → List FileData → Option PlanError
walk_refusal cut files =
    if list_any is_too_deep (map path_of files) then Some TooDeep
    else (if list_any is_full (blobs_of cut (root_folder files)) then Some Full else None)
