-- What is stored of a list of blobs, and what that relies on.
use Rattle.std.specs.Prelude.{List, [], ◌∷◌, ◌++◌, map, Result, Ok, Err, if◌then◌else◌}
use Rattle.std.specs.List.{list_any}
use Rattle.keep_names.specs.declared.blob.BlobId.{BlobId}
use Rattle.keep_names.specs.declared.blob.BlobType.TheVariants.{Content, Tree}
use Rattle.keep_names.specs.declared.file_name.Kind.TheVariants.{Pack, Index}
use Rattle.keep_repo.specs.Repository.{Repository}
use Rattle.keep_pack.specs.Pack.{entries_from, listing, pack_text}
use Rattle.keep_index.specs.Index.{PackData}
use Rattle.keep_index.specs.Writing.{index_text}
use Rattle.keep_change.specs.NamedBytes.{NamedBytes, file_of}
use Rattle.keep_plan.specs.Refusal.{unless, unread_first}
use Rattle.keep_plan.specs.Storing.{stored_built}
use Rattle.keep_plan.specs.declared.plan_error.PlanError.{PlanError}
use Rattle.keep_plan.specs.declared.plan_error.PlanError.TheVariants.{Full}
use Rattle.keep_plan.specs.declared.stored.Stored.{Stored}
use Rattle.keep_build.specs.Blobs.{BlobData, is_full, names_once, new_of}
use Rattle.keep_build.specs.Packs.{packs_of}

-- ---- what is built

-- the honest pack of these blobs
unfoldable pub pack_file : List BlobData → NamedBytes
pack_file blobs = file_of Pack (pack_text (map (λ blob. blob.1) blobs) (map listing blobs))

-- what an index says of the pack: its name, and what its header says
unfoldable pub pack_listed : List BlobData → PackData
pack_listed blobs =
    record { id = (pack_file blobs).name.id; blobs = entries_from 0 (map listing blobs) }

-- the index of these packs, in their order
unfoldable pub index_file : List (List BlobData) → NamedBytes
index_file packs = file_of Index (index_text (map pack_listed packs))

-- the packs, and their index, if there are packs
abbrev pub packs_and_index : List (List BlobData) → List NamedBytes
packs_and_index [] = []
packs_and_index (pack ∷ packs) = map pack_file (pack ∷ packs) ++ index_file (pack ∷ packs) ∷ []

-- the packs of the new blobs: those of the pieces of files, and then those of the trees
abbrev pub packs_built : Repository → List BlobData → List (List BlobData)
packs_built r blobs = packs_of (new_of Content r blobs) ++ packs_of (new_of Tree r blobs)

-- the files that are built of the new blobs: packs, and their index
abbrev pub built : Repository → List BlobData → List NamedBytes
built r blobs = packs_and_index (packs_built r blobs)

-- ---- the whole

-- what becomes of the files that are built, where the blobs that have a place are used there
unfoldable pub stored_of : Repository → List BlobData → Stored
stored_of r blobs = stored_built r (names_once blobs) (built r blobs)

-- what becomes of them where these named blobs are used where they are besides
unfoldable pub stored_with : Repository → List BlobId → List BlobData → Stored
stored_with r named blobs = stored_built r (named ++ names_once blobs) (built r blobs)

-- what is stored, where each blob is short enough
abbrev pub stored_short : Repository → List BlobData → Result Stored PlanError
stored_short r blobs = if list_any is_full blobs then Err Full else Ok (stored_of r blobs)

-- what is stored, or the first refusal
unfoldable pub store_of : Repository → List BlobData → Result Stored PlanError
store_of r blobs = unless (unread_first r) (stored_short r blobs)
