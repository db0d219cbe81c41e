-- Blobs that are to be stored, and which of them are new (restic's design document, "Backups and
-- Deduplication").
use Rattle.std.specs.Prelude.{ℕ, ◌^◌, Bool, true, false, not, nat_le, List, map, filter, length, is_none}
use Rattle.serde_json.specs.Written.{compact_text}
use Rattle.keep_names.specs.Sha256.{sha256}
use Rattle.keep_names.specs.declared.blob.BlobId.{BlobId}
use Rattle.keep_names.specs.declared.blob.BlobType.{BlobType}
use Rattle.keep_names.specs.declared.blob.BlobType.TheVariants.{Content, Tree}
use Rattle.keep_names.specs.declared.id.Id.{Id}
use Rattle.keep_repo.specs.Repository.{Repository}
use Rattle.keep_tree.specs.Tree.{NodeData}
use Rattle.keep_tree.specs.Written.{tree_data}
use Rattle.keep_catalog.specs.Orders.{blob_eq}
use Rattle.keep_catalog.specs.Places.{chosen_listing}
use Rattle.keep_index.specs.Joining.{first_of_each}

-- a blob: its type and its bytes
abbrev pub BlobData : Type 0
BlobData = BlobType × List ℕ

-- its name: the SHA-256 of its bytes, and its type
abbrev pub blob_id_of : BlobData → BlobId
blob_id_of blob = record { id = record { 0 = sha256 blob.1 }; blob_type = blob.0 }

-- the id in its name
abbrev pub id_of : BlobData → Id
id_of blob = (blob_id_of blob).id

-- whether two blobs have one name
abbrev pub is_same : BlobData → BlobData → Bool
is_same a b = blob_eq (blob_id_of a) (blob_id_of b)

-- the names of the blobs, each once
abbrev pub names_once : List BlobData → List BlobId
names_once blobs = map blob_id_of (first_of_each is_same blobs)

-- whether the repository has no place for the blob
abbrev pub is_new : Repository → BlobData → Bool
is_new r blob = is_none (chosen_listing r (blob_id_of blob))

-- whether it is of the type
abbrev pub is_tree_type : BlobType → Bool
is_tree_type Content = false
is_tree_type Tree = true

abbrev pub is_of : BlobType → BlobData → Bool
is_of Content blob = not (is_tree_type blob.0)
is_of Tree blob = is_tree_type blob.0

-- the new blobs of a type, in their order
unfoldable pub new_of : BlobType → Repository → List BlobData → List BlobData
new_of blob_type r blobs = filter (is_of blob_type) (filter (is_new r) (first_of_each is_same blobs))

-- 4,294,967,296 bytes or more: the length of a blob is written in 32 bits
abbrev pub is_full : BlobData → Bool
is_full blob = nat_le (2 ^ 32) (length blob.1)

-- the blob of a tree of these nodes: its document (restic's design document, "Trees and Data")
unfoldable pub tree_blob : List NodeData → BlobData
tree_blob nodes = (Tree, compact_text (tree_data nodes))
