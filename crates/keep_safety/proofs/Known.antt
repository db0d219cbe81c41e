-- What is known of names and of the files that are built.
use Rattle.std.proofs.Common.{◌≡◌, ℕ, List, map, All, Ok, Some}
use Rattle.std.specs.List.{slice_get}
use Rattle.std.specs.Option.{IsSomeAnd}
use Rattle.serde_json.specs.Written.{compact_text}
use Rattle.keep_names.specs.Laws.{DigestsAreIds, TellsApart}
use Rattle.keep_names.specs.Orders.{blob_cmp, id_cmp, name_cmp}
use Rattle.keep_names.specs.declared.blob.Blob.{Blob}
use Rattle.keep_names.specs.declared.blob.BlobId.{BlobId}
use Rattle.keep_repo.specs.Repository.{Repository}
use Rattle.keep_change.specs.Form.{IsWellFormed}
use Rattle.keep_change.specs.NamedBytes.{NamedBytes}
use Rattle.keep_change.specs.declared.change.Change.{Change}
use Rattle.keep_pack.specs.Pack.{HasHeader, IsHonestPackOf, LiesIn, StandsAt, entries_from, listing}
use Rattle.keep_pack.specs.Reading.{header_of}
use Rattle.keep_index.specs.Index.{Fits, PackData}
use Rattle.keep_index.specs.Reading as index_reading
use Rattle.keep_index.specs.Writing.{index_text}
use Rattle.keep_tree.specs.Shape.{IsTree}
use Rattle.keep_tree.specs.Tree.{NodeData}
use Rattle.keep_tree.specs.Tree as tree_reading
use Rattle.keep_tree.specs.Written.{tree_data}
use Rattle.keep_snap.specs.Shape.{IsSnap}
use Rattle.keep_snap.specs.Snap.{SnapData}
use Rattle.keep_snap.specs.Snap as snap_reading
use Rattle.keep_snap.specs.Written.{snap_data}
use Rattle.keep_plan.specs.Storing.{StoresBuilt, stored_built}
use Rattle.keep_sound.specs.Plans.{BuiltSupports, ReusedIsGiven, BackingUpIsSafe}
use Rattle.keep_backup.specs.Backup.{FactsData, backup_change}
use Rattle.keep_build.specs.Blobs.{BlobData}
use Rattle.keep_safety.specs.SafeBackup.{StoringGives}

-- the laws on which what is stored rests
pub record Known : Type 0 where
  pub digests : DigestsAreIds
  pub ids : TellsApart id_cmp
  pub names : TellsApart name_cmp
  pub blobs : TellsApart blob_cmp
  -- a header is read as it was built, and its entries are the blobs'
  pub header : (pack : List ℕ) (blobs : List BlobData) → IsHonestPackOf pack blobs → header_of pack ≡ Ok (entries_from 0 (map listing blobs))
  pub stands : (pack : List ℕ) (blobs : List BlobData) (k : ℕ) (blob : BlobData) → IsHonestPackOf pack blobs
      → slice_get blobs k ≡ Some blob → IsSomeAnd (slice_get (entries_from 0 (map listing blobs)) k) (StandsAt pack blob)
  pub within : (pack : List ℕ) (entries : List Blob) → HasHeader pack entries → All (LiesIn pack) entries
  -- an index is read as it was built
  pub index : (packs : List PackData) → Fits packs → index_reading.index_of (index_text packs) ≡ Ok packs
  pub settles : (r : Repository) (used : List BlobId) (built : List NamedBytes) → StoresBuilt built (stored_built r used built)
  pub reused : ReusedIsGiven
  pub supports : BuiltSupports

-- the laws on which it rests that a backup is safe
pub record KnownOfBackups : Type 0 where
  pub digests : DigestsAreIds
  pub blobs : TellsApart blob_cmp
  -- a tree and a snapshot are read as they were written
  pub trees : (nodes : List NodeData) → IsTree nodes → tree_reading.tree_of (compact_text (tree_data nodes)) ≡ Ok nodes
  pub snapshots : (s : SnapData) → IsSnap s → snap_reading.snap_of (compact_text (snap_data s)) ≡ Ok s
  pub storing : StoringGives
  pub well_formed : (r : Repository) (facts : FactsData) (cut : ℕ) (given : List (List ℕ × List ℕ)) (c : Change)
      → backup_change r facts cut given ≡ Ok c → IsWellFormed c
  pub backing_up : BackingUpIsSafe
