-- What a repair changes: one index of what packs say stands in the place of all others.
use Rattle.std.specs.Prelude.{Bool, ◌&&◌, ◌==◌, not, List, [], length, map, filter, Result, Ok, Err, if◌then◌else◌}
use Rattle.std.specs.List.{flat_map}
use Rattle.keep_names.specs.FileName.{named}
use Rattle.keep_names.specs.Orders.{name_cmp}
use Rattle.keep_names.specs.declared.blob.Blob.{Blob}
use Rattle.keep_names.specs.declared.file_name.FileName.{FileName}
use Rattle.keep_names.specs.declared.file_name.Kind.TheVariants.{Index, Pack}
use Rattle.keep_names.specs.declared.id.Id.{Id}
use Rattle.keep_repo.specs.Repository.{Repository}
use Rattle.keep_index.specs.Index.{PackData}
use Rattle.keep_change.specs.Filling.{has_name}
use Rattle.keep_change.specs.Lists.{file_names}
use Rattle.keep_change.specs.NamedBytes.{NamedBytes}
use Rattle.keep_change.specs.declared.change.Change.{Change}
use Rattle.keep_catalog.specs.Files.{headers_in, ids_in, indexes_in}
use Rattle.keep_catalog.specs.Ordered.{in_order}
use Rattle.keep_plan.specs.Storing.{is_there}
use Rattle.keep_plan.specs.declared.plan_error.PlanError.{PlanError}
use Rattle.keep_plan.specs.declared.plan_error.PlanError.TheVariants.{NothingToDo}
use Rattle.keep_plan.specs.FilesThere.{files_there}
use Rattle.keep_upkeep.specs.Reindexing.{index_files, other_indexes, reindexing}

-- ---- the new index

-- what a pack's header says, as an index says it
abbrev pub header_listed : Id × List Blob → PackData
header_listed header = record { id = header.0; blobs = header.1 }

-- each pack that is there and can be read, by id, be it marked or without blobs
abbrev pub packs_there : Repository → List PackData
packs_there r = map header_listed (headers_in r)

-- the file of the index of them, if there are any
abbrev pub whole_files : Repository → List NamedBytes
whole_files r = index_files (packs_there r)

-- ---- the others

-- those of these indexes that aren't among the new files
abbrev pub other_listings : List NamedBytes → List (Id × List PackData) → List (Id × List PackData)
other_listings built indexes = filter (λ index. not (has_name (file_names built) (named Index index.0))) indexes

-- those of these packs that aren't there, by name
abbrev pub absent_among : Repository → List PackData → List FileName
absent_among r packs = filter (λ name. not (is_there r name)) (map (λ pack. named Pack pack.id) packs)

-- the packs that one of these indexes lists, and that aren't there
abbrev pub absent_listed : Repository → List (Id × List PackData) → List FileName
absent_listed r indexes = flat_map (λ index. absent_among r index.1) indexes

-- what has to be absent: each pack that a dropped index lists, and that isn't there
abbrev pub absent_packs : Repository → List FileName
absent_packs r = in_order name_cmp (absent_listed r (other_listings (whole_files r) (indexes_in r)))

-- what is dropped: each other index, be it read or not
abbrev pub other_files : Repository → List NamedBytes
other_files r = files_there r Index (other_indexes (whole_files r) (ids_in r Index))

-- ---- the change

abbrev pub repairing : Repository → Change
repairing r = reindexing r (whole_files r) (other_files r) [] (absent_packs r)

-- whether the change adds and drops nothing
abbrev pub is_idle : Change → Bool
is_idle c = (length c.adds == 0) && (length c.drops == 0)

-- the change that puts the one index in the place of all others, unless nothing would change
unfoldable pub repair_change : Repository → Result Change PlanError
repair_change r = if is_idle (repairing r) then Err NothingToDo else Ok (repairing r)
