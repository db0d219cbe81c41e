-- Blobs whose bytes have another hash than their id.
use Rattle.std.specs.Prelude.{List, Option, None, Some, map, if◌then◌else◌}
use Rattle.std.specs.List.{filter_map, flat_map}
use Rattle.keep_index.specs.Joining.{first_of_each}
use Rattle.keep_names.specs.declared.blob.BlobId.{BlobId}
use Rattle.keep_names.specs.declared.file_name.Kind.TheVariants.{Pack}
use Rattle.keep_names.specs.declared.id.Id.{Id}
use Rattle.keep_repo.specs.Repository.{Repository}
use Rattle.keep_catalog.specs.Files.{ids_in}
use Rattle.keep_catalog.specs.Orders.{blob_eq}
use Rattle.keep_catalog.specs.Places.{is_honest, stored_in}
use Rattle.keep_catalog.specs.declared.spot.PackedBlob.{PackedBlob}

-- the blob at a place, where the bytes have another hash
abbrev pub wrong_at : Repository → PackedBlob → Option BlobId
wrong_at r p = if is_honest r p.blob p.spot then None else Some p.blob

-- the wrong blobs of this pack in the order of its header, each once
abbrev pub wrong_in : Repository → Id → List (Id × BlobId)
wrong_in r pack = map (λ blob. (pack, blob)) (first_of_each blob_eq (filter_map (wrong_at r) (stored_in r pack)))

-- the wrong blobs of all packs that can be read, the packs by name
abbrev pub wrong_blobs_in : Repository → List (Id × BlobId)
wrong_blobs_in r = flat_map (wrong_in r) (ids_in r Pack)
