-- What a sweep changes: packs go whose marks have waited, and with them what indexes list of them.
use Rattle.std.specs.Prelude.{ℕ, ℤ, pos, ◌+ℤ◌, int_le, Bool, List, [], ◌∷◌, ◌++◌, map, filter, Result, Ok, Err, if◌then◌else◌}
use Rattle.std.specs.FinMap as finite
use Rattle.std.specs.List.{list_any}
use Rattle.keep_names.specs.declared.file_name.Kind.TheVariants.{Index, Pack}
use Rattle.keep_names.specs.declared.id.Id.{Id}
use Rattle.keep_repo.specs.Repository.{Repository}
use Rattle.keep_repo.specs.declared.facet.Mark.{Mark}
use Rattle.keep_index.specs.Index.{PackData}
use Rattle.keep_index.specs.Joining.{joined, left_without}
use Rattle.keep_change.specs.Filling.{has_pack}
use Rattle.keep_change.specs.Lists.{marked_packs}
use Rattle.keep_change.specs.NamedBytes.{NamedBytes}
use Rattle.keep_change.specs.declared.change.Change.{Change}
use Rattle.keep_change.specs.declared.change.PackMark.{PackMark}
use Rattle.keep_catalog.specs.Files.{indexes_in}
use Rattle.keep_plan.specs.Refusal.{unless, unread_first}
use Rattle.keep_change.specs.Marks.{pack_mark}
use Rattle.keep_plan.specs.declared.plan_error.PlanError.{PlanError}
use Rattle.keep_plan.specs.declared.plan_error.PlanError.TheVariants.{NothingToDo}
use Rattle.keep_plan.specs.FilesThere.{files_there}
use Rattle.keep_upkeep.specs.Reindexing.{index_files, other_indexes, reindexing}

-- ---- which packs

-- whether by now so many seconds have gone by since the moment of the mark; none of these numbers wraps
abbrev pub has_waited : ℤ → ℕ → Mark → Bool
has_waited now wait mark = int_le (mark.moment +ℤ pos wait) now

-- the marks that have waited so long, by pack; whether their packs are there isn't asked
unfoldable pub waited_marks : Repository → ℤ → ℕ → List PackMark
waited_marks r now wait = filter (λ m. has_waited now wait m.mark) (map pack_mark (finite.entries r.marks))

-- ---- what indexes list of them

-- whether the index lists a pack that goes
abbrev pub lists_gone : (Id → Bool) → Id × List PackData → Bool
lists_gone is_gone index = list_any (λ pack. is_gone pack.id) index.1

-- those of the indexes that do, in their order
abbrev pub listing_gone : (Id → Bool) → List (Id × List PackData) → List (Id × List PackData)
listing_gone is_gone indexes = filter (lists_gone is_gone) indexes

-- their names
abbrev pub names_of : List (Id × List PackData) → List Id
names_of indexes = map (λ index. index.0) indexes

-- what each of them lists without the packs that go
abbrev pub left_of : (Id → Bool) → List (Id × List PackData) → List (List PackData)
left_of is_gone indexes = map (λ index. left_without is_gone index.1) indexes

-- the indexes of a repository that list one of these packs, by name
abbrev pub listing : Repository → List Id → List (Id × List PackData)
listing r packs = listing_gone (has_pack packs) (indexes_in r)

-- the join of what is left of them
abbrev pub packs_left : Repository → List Id → List PackData
packs_left r packs = joined (left_of (has_pack packs) (listing r packs))

-- ---- the change

-- the file of the join, if it lists any pack
abbrev pub left_files : Repository → List Id → List NamedBytes
left_files r packs = index_files (packs_left r packs)

-- what is dropped: the packs that are there, and the indexes that list one, but for the join
abbrev pub swept_files : Repository → List Id → List NamedBytes
swept_files r packs =
    files_there r Pack packs
    ++ files_there r Index (other_indexes (left_files r packs) (names_of (listing r packs)))

-- the change that sweeps the packs of these marks
abbrev pub sweeping : Repository → List PackMark → Change
sweeping r marks = reindexing r (left_files r (marked_packs marks)) (swept_files r (marked_packs marks)) marks []

-- the change that sweeps the packs of these marks, unless there are none
abbrev pub sweep_of : Repository → List PackMark → Result Change PlanError
sweep_of r [] = Err NothingToDo
sweep_of r (mark ∷ marks) = Ok (sweeping r (mark ∷ marks))

-- the change that sweeps the packs that are marked and have waited, or the first refusal
unfoldable pub sweep_change : Repository → ℤ → ℕ → Result Change PlanError
sweep_change r now wait = unless (unread_first r) (sweep_of r (waited_marks r now wait))
