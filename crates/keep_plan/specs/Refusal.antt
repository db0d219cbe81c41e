-- The refusals of planners: how they print, which numbers they have, and which of them a catalog's and a reach's
-- are.
use Rattle.std.specs.Prelude.{ℕ, List, codes, Option, Some, None, Result, Err, option_map, slice_get}
use Rattle.keep_repo.specs.Repository.{Repository}
use Rattle.keep_catalog.specs.Files.{unread_in}
use Rattle.keep_catalog.specs.Words.{file_number, reach_number, reach_text, unread_text}
use Rattle.keep_catalog.specs.declared.catalog_error.CatalogError.{CatalogError}
use Rattle.keep_catalog.specs.declared.catalog_error.CatalogError.TheVariants as catalog
use Rattle.keep_catalog.specs.declared.reach_error.ReachError.{ReachError}
use Rattle.keep_catalog.specs.declared.reach_error.ReachError.TheVariants as reach
use Rattle.keep_plan.specs.declared.plan_error.PlanError.{PlanError}
use Rattle.keep_plan.specs.declared.plan_error.PlanError.TheVariants.{BadEdit, BadPath, BadPattern, BadTime, Full, Memory, NothingToDo, Reach, SamePathTwice, SnapshotThere, TooDeep, Unread}
use Rattle.keep_plan.specs.declared.unreached.Unreached.{Unreached}
use Rattle.keep_plan.specs.declared.unreached.Unreached.TheVariants as unreached

-- what a catalog's refusal is to a planner
abbrev pub of_catalog : CatalogError → PlanError
of_catalog (catalog.Unread file) = Unread file
of_catalog catalog.Memory = Memory

-- what a reach's refusal is to a planner
abbrev pub of_reach : ReachError → PlanError
of_reach reach.TooDeep = Reach unreached.TooDeep
of_reach reach.BadTree = Reach unreached.BadTree
of_reach (reach.MissingBlob id) = Reach (unreached.MissingBlob id)
of_reach (reach.WrongHash id) = Reach (unreached.WrongHash id)
of_reach reach.Memory = Memory

-- the reach's refusal that a planner tells of
abbrev pub reach_error : Unreached → ReachError
reach_error unreached.TooDeep = reach.TooDeep
reach_error unreached.BadTree = reach.BadTree
reach_error (unreached.MissingBlob id) = reach.MissingBlob id
reach_error (unreached.WrongHash id) = reach.WrongHash id

-- the number by which operators know a refusal; want of memory has none
abbrev pub plan_number : PlanError → Option ℕ
plan_number BadPath = Some 16
plan_number SamePathTwice = Some 17
plan_number BadTime = Some 11
plan_number BadEdit = Some 20
plan_number BadPattern = Some 21
plan_number (Unread file) = file_number file.refusal
plan_number (Reach why) = reach_number (reach_error why)
plan_number TooDeep = Some 14
plan_number Full = Some 27
plan_number SnapshotThere = Some 18
plan_number NothingToDo = Some 19
plan_number Memory = None

-- how a refusal prints: its word, and behind it the name of a file that can't be read or the id of a blob that
-- can't be had
abbrev pub plan_text : PlanError → List ℕ
plan_text BadPath = codes "BadPath"
plan_text SamePathTwice = codes "SamePathTwice"
plan_text BadTime = codes "BadTime"
plan_text BadEdit = codes "BadEdit"
plan_text BadPattern = codes "BadPattern"
plan_text (Unread file) = unread_text file
plan_text (Reach why) = reach_text (reach_error why)
plan_text TooDeep = codes "TooDeep"
plan_text Full = codes "Full"
plan_text SnapshotThere = codes "SnapshotThere"
plan_text NothingToDo = codes "NothingToDo"
plan_text Memory = codes "Memory"

-- the first file that can't be read, if there is one
abbrev pub unread_first : Repository → Option PlanError
unread_first r = option_map Unread (slice_get (unread_in r) 0)

-- what a planner tells of these refusals of reaches: the first
abbrev pub unreached_first : List ReachError → Option PlanError
unreached_first refusals = option_map of_reach (slice_get refusals 0)

-- what is due, unless it is refused
abbrev pub unless : {X : Type 0} → Option PlanError → Result X PlanError → Result X PlanError
unless (Some refusal) due = Err refusal
unless None due = due
