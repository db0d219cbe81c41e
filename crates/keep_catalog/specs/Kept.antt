-- What a catalog keeps of the files of a repository. All but `packs_at` and `snap_at` is of private
-- invariants alone.
use Rattle.std.specs.Prelude.{◌≡◌, ⊤, ℕ, Bool, false, List, [], ◌∷◌, map, Option, None, Some, is_some}
use Rattle.std.specs.BTreeMap.{BTreeMap, IsOrdered, is_at}
use Rattle.std.specs.BTreeMap as tree
use Rattle.std.specs.FinMap as finite
use Rattle.std.specs.Global.{Vec}
use Rattle.std.specs.List.{flat_map, list_any}
use Rattle.std.specs.Option.{option_map, option_map_or}
use Rattle.indexmap.specs.IndexMap.{IndexMap, get}
use Rattle.keep_index.specs.Index.{PackData, pack_view}
use Rattle.keep_index.specs.declared.index.IndexedPack.{IndexedPack}
use Rattle.keep_names.specs.Orders.{blob_cmp, id_cmp, name_cmp}
use Rattle.keep_names.specs.declared.blob.BlobId.{BlobId}
use Rattle.keep_names.specs.declared.file_name.FileName.{FileName}
use Rattle.keep_names.specs.declared.id.Id.{Id}
use Rattle.keep_repo.specs.Repository.{Repository}
use Rattle.keep_snap.specs.Snap.{SnapData, snap_view}
use Rattle.keep_snap.specs.declared.snap.Snap.{Snap}
use Rattle.keep_change.specs.NamedBytes.{NamedBytes}
use Rattle.keep_change.specs.Result.{put_files, remove_files}
use Rattle.keep_catalog.specs.Files.{packs_in, snap_in, why_unread}
use Rattle.keep_catalog.specs.Orders.{listing_cmp, packed_blob_cmp, same_name}
use Rattle.keep_catalog.specs.Places.{at, id_at, is_among, is_honest, is_stored, listed_in, listed_of}
use Rattle.keep_catalog.specs.declared.listings.Listings.{Listings}
use Rattle.keep_catalog.specs.declared.listings.Listings.TheVariants.{More, One}
use Rattle.keep_catalog.specs.declared.spot.Listing.{Listing}
use Rattle.keep_catalog.specs.declared.spot.PackedBlob.{PackedBlob}
use Rattle.keep_catalog.specs.declared.tables.Tables.{Tables}
use Rattle.keep_catalog.specs.declared.unread.FileError.{FileError}

-- ---- tables

-- the places that headers have, each with whether it is honest, where that was hashed
abbrev pub Stored : Type 0
Stored = BTreeMap PackedBlob (Option Bool)

-- the listings of each blob
abbrev pub Listed : Type 0
Listed = BTreeMap BlobId Listings

-- those of one blob, in their order
abbrev pub listings_in : Listings → List Listing
listings_in (One listing) = listing ∷ []
listings_in (More listings) = listings.keys

-- what indexes say of packs, by name
abbrev pub Indexes : Type 0
Indexes = BTreeMap Id (Vec IndexedPack)

-- snapshots by name
abbrev pub Snaps : Type 0
Snaps = BTreeMap Id Snap

-- whether the listing is one of them
abbrev pub has : Option Listings → Listing → Bool
has None l = false
has (Some listings) l = list_any (is_at (listing_cmp l)) (listings_in listings)

-- whether the blob is kept with this listing
abbrev pub lists_at : Listed → BlobId → Listing → Bool
lists_at listed blob l = has (tree.get blob_cmp listed blob) l

-- whether the index of the listing lists the blob there
abbrev pub lists_in : Repository → BlobId → Listing → Bool
lists_in r blob l = is_among (listed_in r l.index) (at blob l.spot)

-- what is said of packs, without where it lies in memory
abbrev pub said_view : Vec IndexedPack → List PackData
said_view packs = map pack_view packs.items

-- what is kept of the index of this name
abbrev pub packs_at : Indexes → Id → Option (List PackData)
packs_at indexes index = option_map said_view (tree.get id_cmp indexes index)

-- the places that an index lists which says this; nothing where it can't be read
abbrev pub places_said : Option (List PackData) → List PackedBlob
places_said packs = option_map_or (flat_map listed_of) packs []

-- what is kept of the snapshot of this name
abbrev pub snap_at : Snaps → Id → Option SnapData
snap_at snaps snapshot = option_map snap_view (tree.get id_cmp snaps snapshot)

-- just the places that the headers have are kept
abbrev pub IsStoredIn : Repository → Stored → Type 0
IsStoredIn r stored = (p : PackedBlob) → is_some (tree.get packed_blob_cmp stored p) ≡ is_stored r p

-- what was hashed is remembered as it is
abbrev pub IsHashedIn : Repository → Stored → Type 0
IsHashedIn r stored =
    (p : PackedBlob) (honest : Bool)
    → tree.get packed_blob_cmp stored p ≡ Some (Some honest) → is_honest r p.blob p.spot ≡ honest

-- these are the ids of the bytes at these places, one for one
abbrev pub HaveIds : Repository → List PackedBlob → List Id → Type 0
HaveIds r places ids = map (id_at r) places ≡ map Some ids

-- just the listings of the indexes are kept
abbrev pub IsListedIn : Repository → Listed → Type 0
IsListedIn r listed = (blob : BlobId) (l : Listing) → lists_at listed blob l ≡ lists_in r blob l

-- just the indexes that can be read are kept, each with what it says
abbrev pub AreIndexesOf : Repository → Indexes → Type 0
AreIndexesOf r indexes = (index : Id) → packs_at indexes index ≡ packs_in r index

-- just the snapshots that can be read are kept
abbrev pub AreSnapsOf : Repository → Snaps → Type 0
AreSnapsOf r snaps = (snapshot : Id) → snap_at snaps snapshot ≡ snap_in r snapshot

-- just the files that can't be read are kept, each with why
abbrev pub AreUnreadOf : {S : Type 0} → Repository → IndexMap FileName FileError S → Type 0
AreUnreadOf r unread = (name : FileName) → get same_name unread name ≡ why_unread r name

-- the tables say just what the files of the repository say
pub record IsKept (r : Repository) (t : Tables) : Type 0 where
  pub stored : IsStoredIn r t.stored
  pub hashed : IsHashedIn r t.stored
  pub listed : IsListedIn r t.listed
  pub indexes : AreIndexesOf r t.indexes
  pub indexes_ordered : IsOrdered id_cmp t.indexes
  pub snaps : AreSnapsOf r t.snaps
  pub ordered : IsOrdered id_cmp t.snaps
  pub unread : AreUnreadOf r t.unread

-- ---- files that come and go

-- the repository with the file
abbrev pub with_file : Repository → FileName → List ℕ → Repository
with_file r name bytes = record r { files = finite.insert r.files name bytes }

-- the repository without the file
abbrev pub without_file : Repository → FileName → Repository
without_file r name = record r { files = finite.remove r.files name }

abbrev pub with_files : List NamedBytes → Repository → Repository
with_files fs r = record r { files = put_files fs r.files }

abbrev pub without_files : List NamedBytes → Repository → Repository
without_files fs r = record r { files = remove_files fs r.files }

-- each of these isn't there when it is put
abbrev pub AreNew : List NamedBytes → finite.FinMap name_cmp (List ℕ) → Type 0
AreNew [] files = ⊤
AreNew (f ∷ fs) files = (finite.get files f.name ≡ None) × AreNew fs (finite.insert files f.name f.bytes)

-- each of these is there, with just these bytes, when it is taken
abbrev pub AreThere : List NamedBytes → finite.FinMap name_cmp (List ℕ) → Type 0
AreThere [] files = ⊤
AreThere (f ∷ fs) files = (finite.get files f.name ≡ Some f.bytes) × AreThere fs (finite.remove files f.name)
