-- The names of blobs by their ids.
use Rattle.keep_names.specs.declared.blob.BlobId.{BlobId}
use Rattle.keep_names.specs.declared.blob.BlobType.TheVariants.{Content, Tree}
use Rattle.keep_names.specs.declared.id.Id.{Id}

-- the blob of this id that is a piece of a file, and the one that is a tree
abbrev pub piece_of : Id → BlobId
piece_of id = record { id = id; blob_type = Content }

abbrev pub tree_at : Id → BlobId
tree_at id = record { id = id; blob_type = Tree }
