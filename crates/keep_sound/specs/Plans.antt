-- What each kind of planner shows of its change, in the change's lists and the bytes that it built.
use Rattle.std.specs.Prelude.{◌≡◌, ◌⊎◌, Bool, true, ℕ, List, [], All, map, Option, Some, Ok, IsSome}
use Rattle.std.specs.List.{flat_map}
use Rattle.std.specs.Option.{option_map}
use Rattle.keep_names.specs.BlobId.{tree_at}
use Rattle.keep_names.specs.declared.blob.Blob.{Blob}
use Rattle.keep_names.specs.declared.blob.BlobId.{BlobId}
use Rattle.keep_names.specs.declared.blob.BlobType.TheVariants.{Tree}
use Rattle.keep_names.specs.declared.file_name.Kind.TheVariants.{Pack, Index, Snapshot}
use Rattle.keep_names.specs.declared.id.Id.{Id}
use Rattle.keep_repo.specs.Repository.{Repository, is_filled}
use Rattle.keep_repo.specs.declared.facet.Facet.TheVariants.{Mark}
use Rattle.keep_pack.specs.Reading.{header_of}
use Rattle.keep_index.specs.Index.{PackData}
use Rattle.keep_snap.specs.Snap.{SnapData}
use Rattle.keep_change.specs.Filling.{asks_empty, empties, fills, finds_filled, leaves_empty, leaves_filled}
use Rattle.keep_change.specs.Form.{HasNoFacetTwice}
use Rattle.keep_change.specs.declared.change.Change.{Change}
use Rattle.keep_catalog.specs.Files.{file_in, index_of, snap_in, snap_of}
use Rattle.keep_catalog.specs.Naming.{named_of, read_tree_of}
use Rattle.keep_catalog.specs.Places.{at, bytes_at, chosen_listing, is_among, is_honest, is_stored, listed_in, listed_of, packed_of, reuse_of}
use Rattle.keep_reach.specs.Reach.{HasBlob}
use Rattle.keep_reach.specs.Snapshots.{Owes, broken_in, root_of}
use Rattle.keep_catalog.specs.declared.spot.PackedBlob.{PackedBlob}
use Rattle.keep_catalog.specs.declared.spot.Spot.{Spot}
use Rattle.keep_tree.specs.Tree.{NodeData}
use Rattle.keep_sound.specs.Careful.{GivesPlace, IsSafe}
use Rattle.keep_sound.specs.Forms.{AreOf}
use Rattle.keep_sound.specs.Met.{AddsPart, HasOneText, IsPartOf}
use Rattle.keep_sound.specs.Standing.{Supports, file_facet}

-- ---- forgetting and retagging

-- a change that drops snapshots, and nothing else
abbrev pub ForgettingIsSafe : Type 0
ForgettingIsSafe =
    (all : Repository) (known : Id → Bool) (c : Change) → HasOneText all → HasNoFacetTwice c
    → c.adds ≡ [] → c.sets ≡ [] → AreOf Snapshot c.drops → IsSafe all known c

-- the root of a snapshot, by the bytes of all files
abbrev pub root_in : Repository → Id → Option BlobId
root_in all snapshot = option_map root_of (snap_in all snapshot)

-- each added snapshot has the root of one that has to be there
abbrev pub KeepsRoots : Repository → Change → Type 0
KeepsRoots all c =
    (snapshot : Id) → fills c (file_facet Snapshot snapshot) ≡ true
    → (old : Id) × (finds_filled c (file_facet Snapshot old) ≡ true) × (root_in all snapshot ≡ root_in all old)

abbrev pub RetaggingIsSafe : Type 0
RetaggingIsSafe =
    (all : Repository) (known : Id → Bool) (c : Change) → HasOneText all → HasNoFacetTwice c → AddsPart all c
    → c.sets ≡ [] → AreOf Snapshot c.drops → KeepsRoots all c → IsSafe all known c

-- ---- storing

-- the change records what a use of a blob rests on: the pack, which has no mark, and the index
pub record Records (c : Change) (pack index : Id) : Type 0 where
  pub has_pack : leaves_filled c (file_facet Pack pack) ≡ true
  pub has_index : leaves_filled c (file_facet Index index) ≡ true
  pub free : leaves_empty c (Mark pack) ≡ true

-- what the use of a blob in the view rests on is recorded
abbrev pub RecordsReuse : Repository → Change → BlobId → Type 0
RecordsReuse view c blob = (pair : Id × Id) → reuse_of view blob ≡ Some pair → Records c pair.0 pair.1

-- then a blob that has a chosen place there is given
abbrev pub ReusedIsGiven : Type 0
ReusedIsGiven =
    (view all : Repository) (c : Change) (blob : BlobId) → IsPartOf view all
    → IsSome (chosen_listing view blob) → RecordsReuse view c blob → GivesPlace all c blob

-- a pack whose header has the blob, and an index that lists it, support each spot where the bytes are the blob's
abbrev pub BuiltSupports : Type 0
BuiltSupports =
    (all : Repository) (blob : BlobId) (spot : Spot) (index : Id)
    (pack listing : List ℕ) (entries : List Blob) (packs : List PackData)
    → file_in all Pack spot.pack ≡ Some pack → header_of pack ≡ Ok entries
    → is_among (map (packed_of spot.pack) entries) (at blob spot) ≡ true
    → file_in all Index index ≡ Some listing → index_of listing ≡ Ok packs
    → is_among (flat_map listed_of packs) (at blob spot) ≡ true
    → is_honest all blob spot ≡ true → Supports all blob spot index

-- ---- backing up

-- the bytes of some blobs: all that a walk cuts and builds, new or not
abbrev pub Texts : Type 0
Texts = BlobId → Option (List ℕ)

-- wherever all files have such a blob, they have these bytes
abbrev pub AreMet : Repository → Texts → Type 0
AreMet all texts =
    (blob : BlobId) (text : List ℕ) → texts blob ≡ Some text
    → (spot : Spot) → is_honest all blob spot ≡ true → bytes_at all spot ≡ Some text

-- the trees among them name blobs among them alone
abbrev pub IsClosed : Texts → Type 0
IsClosed texts =
    (tree blob : BlobId) (text : List ℕ) (nodes : List NodeData)
    → tree.blob_type ≡ Tree → texts tree ≡ Some text → read_tree_of text ≡ Ok nodes
    → HasBlob (flat_map named_of nodes) blob → IsSome (texts blob)

-- It sets no mark and drops nothing; the snapshots that it adds have this root, which is among the blobs; and
-- each of the blobs is given.
pub record BacksUp (all : Repository) (c : Change) (texts : Texts) (root : Id) : Type 0 where
  pub no_marks : c.sets ≡ []
  pub no_drops : c.drops ≡ []
  pub snapshots : All (λ f. f.name.kind ≡ Snapshot
      → (snap : SnapData) → snap_of f.bytes ≡ Ok snap → snap.tree ≡ root) c.adds
  pub top : IsSome (texts (tree_at root))
  pub closed : IsClosed texts
  pub given : (blob : BlobId) → IsSome (texts blob) → GivesPlace all c blob

abbrev pub BackingUpIsSafe : Type 0
BackingUpIsSafe =
    (all : Repository) (known : Id → Bool) (c : Change) (texts : Texts) (root : Id)
    → HasOneText all → HasNoFacetTwice c → AddsPart all c
    → AreMet all texts → BacksUp all c texts root → IsSafe all known c

-- ---- reindexing

-- a stored place that a dropped index lists is in a pack that can't be there or has to be marked, or an index
-- that the change leaves lists it
abbrev pub RelistsPlaces : Repository → Change → Type 0
RelistsPlaces all c =
    (index : Id) → empties c (file_facet Index index) ≡ true
    → (p : PackedBlob) → is_among (listed_in all index) p ≡ true → is_stored all p ≡ true
    → (asks_empty c (file_facet Pack p.spot.pack) ≡ true)
    ⊎ ((finds_filled c (Mark p.spot.pack) ≡ true)
    ⊎ ((other : Id) × (leaves_filled c (file_facet Index other) ≡ true) × (is_among (listed_in all other) p ≡ true)))

-- it sets no mark, adds indexes alone, drops marked packs alone, and relists places
pub record Reindexes (all : Repository) (c : Change) : Type 0 where
  pub no_marks : c.sets ≡ []
  pub adds : AreOf Index c.adds
  pub packs : (pack : Id) → empties c (file_facet Pack pack) ≡ true → finds_filled c (Mark pack) ≡ true
  pub relists : RelistsPlaces all c

abbrev pub ReindexingIsSafe : Type 0
ReindexingIsSafe =
    (all : Repository) (known : Id → Bool) (c : Change) → HasOneText all → HasNoFacetTwice c → AddsPart all c
    → Reindexes all c → IsSafe all known c

-- ---- marking

-- It adds and drops nothing; each known snapshot is in the view, or recorded as absent; and what the use of each
-- blob that a snapshot of the view reaches rests on is recorded.
pub record MarksIn (view : Repository) (known : Id → Bool) (c : Change) : Type 0 where
  pub no_adds : c.adds ≡ []
  pub no_drops : c.drops ≡ []
  pub absent : (snapshot : Id) → known snapshot ≡ true
      → (is_filled view (file_facet Snapshot snapshot) ≡ true) ⊎ (asks_empty c (file_facet Snapshot snapshot) ≡ true)
  pub used : (snapshot : Id) (blob : BlobId) → Owes view snapshot blob → RecordsReuse view c blob

abbrev pub MarkingIsSafe : Type 0
MarkingIsSafe =
    (view all : Repository) (known : Id → Bool) (c : Change) → HasOneText all → HasNoFacetTwice c
    → IsPartOf view all → broken_in view ≡ [] → MarksIn view known c → IsSafe all known c
