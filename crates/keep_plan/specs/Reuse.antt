-- What a change rests on that uses blobs where they are.
use Rattle.std.specs.Prelude.{◌≡◌, List, map}
use Rattle.std.specs.BTreeSet.{contains}
use Rattle.std.specs.List.{filter_map, flat_map, list_any}
use Rattle.std.specs.Ordering.{eq_by_cmp}
use Rattle.keep_names.specs.Orders.{id_cmp, name_cmp}
use Rattle.keep_names.specs.declared.blob.BlobId.{BlobId}
use Rattle.keep_names.specs.declared.file_name.FileName.{FileName}
use Rattle.keep_names.specs.declared.id.Id.{Id}
use Rattle.keep_repo.specs.Repository.{Repository}
use Rattle.keep_catalog.specs.Places.{reuse_of}
use Rattle.keep_plan.specs.Files.{files_used}
use Rattle.keep_plan.specs.declared.reuses.Reuses.{Reuses}

-- the pack of the chosen place, and the least-named index that lists it, of each of the blobs that has one
abbrev pub uses_of : Repository → List BlobId → List (Id × Id)
uses_of r blobs = filter_map (reuse_of r) blobs

-- the files that the uses of these blobs rest on: they have to be present
unfoldable pub reused_files : Repository → List BlobId → List FileName
reused_files r blobs = flat_map files_used (uses_of r blobs)

-- and their packs: they must have no mark
unfoldable pub reused_packs : Repository → List BlobId → List Id
reused_packs r blobs = map (λ pair. pair.0) (uses_of r blobs)

-- just what the uses of these blobs rest on
pub record RestOn (r : Repository) (blobs : List BlobId) (reuses : Reuses) : Type 0 where
  pub files : (name : FileName) → contains name_cmp reuses.present name
      ≡ list_any (eq_by_cmp name_cmp name) (reused_files r blobs)
  pub packs : (pack : Id) → contains id_cmp reuses.unmarked pack
      ≡ list_any (eq_by_cmp id_cmp pack) (reused_packs r blobs)
