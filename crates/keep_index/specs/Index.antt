-- What an index says, as restic's design document has it ("Indexing").
use Rattle.std.specs.Prelude.{◌<◌, ◌^◌, List, map}
use Rattle.std.specs.List.{AllByRecursion}
use Rattle.keep_names.specs.Id.{IsDigest}
use Rattle.keep_names.specs.declared.id.Id.{Id}
use Rattle.keep_index.specs.declared.index.Index.{Index}
use Rattle.keep_names.specs.declared.blob.Blob.{Blob}
use Rattle.keep_index.specs.declared.index.IndexedPack.{IndexedPack}

-- a pack and its blobs, without where they lie in memory
pub record PackData : Type 0 where
  pub id : Id
  pub blobs : List Blob

-- what is said of a pack
abbrev pub pack_view : IndexedPack → PackData
pack_view pack = record { id = pack.id; blobs = pack.blobs.items }

-- what is said of each pack, in order
abbrev pub index_view : Index → List PackData
index_view index = map pack_view index.packs.items

-- what the types of its fields say of a blob: its id has 32 bytes, and its numbers are below these
abbrev pub FitsBlob : Blob → Type 0
FitsBlob entry = IsDigest entry.blob.id × (entry.offset < 2 ^ 64) × (entry.length < 2 ^ 32)

-- what the types say of a pack: its id has 32 bytes, and each blob fits
abbrev pub FitsPack : PackData → Type 0
FitsPack pack = IsDigest pack.id × AllByRecursion FitsBlob pack.blobs

-- what the types say of an index: each pack fits
abbrev pub Fits : List PackData → Type 0
Fits packs = AllByRecursion FitsPack packs
