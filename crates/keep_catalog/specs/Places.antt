-- Where a repository has a blob (restic's design document, "Pack Format" and "Indexing").
use Rattle.std.specs.Prelude.{ℕ, ◌+◌, Bool, false, ◌&&◌, nat_le, List, map, take, drop, length, Option, None, Some, is_none, if◌then◌else◌}
use Rattle.std.specs.List.{filter_map, find, flat_map, list_any}
use Rattle.std.specs.Option.{option_and_then, option_map, option_map_or}
use Rattle.std.specs.FinMap as finite
use Rattle.keep_names.specs.Sha256.{sha256}
use Rattle.keep_names.specs.declared.blob.BlobId.{BlobId}
use Rattle.keep_names.specs.declared.file_name.Kind.TheVariants.{Pack, Index}
use Rattle.keep_names.specs.declared.id.Id.{Id}
use Rattle.keep_repo.specs.Repository.{Repository}
use Rattle.keep_pack.specs.Reading.{header_of}
use Rattle.keep_index.specs.Index.{PackData}
use Rattle.keep_names.specs.declared.blob.Blob.{Blob}
use Rattle.keep_catalog.specs.Files.{file_in, ids_in, index_of, what_is_read}
use Rattle.keep_catalog.specs.Orders.{spot_cmp, blob_eq, id_eq, packed_blob_eq}
use Rattle.keep_catalog.specs.declared.spot.PackedBlob.{PackedBlob}
use Rattle.keep_catalog.specs.declared.spot.Spot.{Spot}

-- a blob at a spot
abbrev pub at : BlobId → Spot → PackedBlob
at blob spot = record { blob = blob; spot = spot }

-- whether the place is one of these
abbrev pub is_among : List PackedBlob → PackedBlob → Bool
is_among places p = list_any (packed_blob_eq p) places

-- a blob of this pack, as the pack's header or an index says it
abbrev pub packed_of : Id → Blob → PackedBlob
packed_of pack b = record { blob = b.blob; spot = record { pack = pack; offset = b.offset; length = b.length } }

-- the places that the header in these bytes of a pack has; nothing where there are none, or none that can be
-- read
abbrev pub places_stored : Id → Option (List ℕ) → List PackedBlob
places_stored pack bytes = map (packed_of pack) (what_is_read (option_map header_of bytes))

-- what the header of this pack has
unfoldable pub stored_in : Repository → Id → List PackedBlob
stored_in r pack = places_stored pack (file_in r Pack pack)

-- what an index says of a pack
abbrev pub listed_of : PackData → List PackedBlob
listed_of listed = map (packed_of listed.id) listed.blobs

-- the places that the index in these bytes lists; nothing where there are none, or none that can be read
abbrev pub places_listed : Option (List ℕ) → List PackedBlob
places_listed bytes = flat_map listed_of (what_is_read (option_map index_of bytes))

-- what this index lists
unfoldable pub listed_in : Repository → Id → List PackedBlob
listed_in r index = places_listed (file_in r Index index)

-- whether the header of the place's pack has it
abbrev pub is_stored : Repository → PackedBlob → Bool
is_stored r p = is_among (stored_in r p.spot.pack) p

-- each place that this index lists, with its name
abbrev pub listings_of : Repository → Id → List (PackedBlob × Id)
listings_of r index = map (λ p. (p, index)) (listed_in r index)

-- all listings, the indexes by name
abbrev pub listings_in : Repository → List (PackedBlob × Id)
listings_in r = flat_map (listings_of r) (ids_in r Index)

-- the spot of a listing, where it is the blob's and is stored
abbrev pub candidate : (PackedBlob → Bool) → BlobId → PackedBlob × Id → Option (Spot × Id)
candidate stored blob listing =
    if blob_eq blob listing.0.blob && stored listing.0 then Some (listing.0.spot, listing.1) else None

-- The spots at which an index lists the blob and a header has it, each with the least-named index that lists
-- it there: of equal keys `from_entries` keeps the first.
unfoldable pub spots_of : Repository → BlobId → finite.FinMap spot_cmp Id
spots_of r blob = finite.from_entries (filter_map (candidate (is_stored r) blob) (listings_in r))

-- bytes of a file, none where it has fewer
abbrev pub slice_of : ℕ → ℕ → List ℕ → Option (List ℕ)
slice_of offset count bytes =
    if nat_le (offset + count) (length bytes) then Some (take count (drop offset bytes)) else None

-- the bytes at a spot
unfoldable pub bytes_at : Repository → Spot → Option (List ℕ)
bytes_at r spot = option_and_then (slice_of spot.offset spot.length) (file_in r Pack spot.pack)

-- the SHA-256 of bytes, as an id
abbrev pub id_of : List ℕ → Id
id_of bytes = record { 0 = sha256 bytes }

-- whether bytes have this SHA-256
abbrev pub has_id : Id → List ℕ → Bool
has_id id bytes = id_eq (id_of bytes) id

-- the id of the bytes at the place
abbrev pub id_at : Repository → PackedBlob → Option Id
id_at r p = option_map id_of (bytes_at r p.spot)

-- whether the bytes at the spot have the blob's id
abbrev pub is_honest : Repository → BlobId → Spot → Bool
is_honest r blob spot = option_map_or (has_id blob.id) (bytes_at r spot) false

abbrev pub is_unmarked : Repository → Id → Bool
is_unmarked r pack = is_none (finite.get r.marks pack)

-- whether the spot is honest and its pack has no mark
abbrev pub is_usable : Repository → BlobId → Spot → Bool
is_usable r blob spot = is_unmarked r spot.pack && is_honest r blob spot

-- the chosen spot of the blob: the first open one by pack and offset, with the least-named index that lists
-- it
unfoldable pub chosen_listing : Repository → BlobId → Option (Spot × Id)
chosen_listing r blob = find (λ e. is_usable r blob e.0) (finite.entries (spots_of r blob))

-- the chosen place
abbrev pub chosen : Repository → BlobId → Option PackedBlob
chosen r blob = option_map (λ e. at blob e.0) (chosen_listing r blob)

-- what a use of the blob where it is rests on: the pack, and the least-named index that lists the chosen
-- place
abbrev pub reuse_of : Repository → BlobId → Option (Id × Id)
reuse_of r blob = option_map (λ e. (e.0.pack, e.1)) (chosen_listing r blob)
