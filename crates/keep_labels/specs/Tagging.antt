-- What a tag edit changes.
use Rattle.std.specs.Prelude.{not, List, filter, map, option_map, Option, Some, None, Result, Ok, Err, if◌then◌else◌}
use Rattle.std.specs.List.{filter_map}
use Rattle.serde_json.specs.Written.{compact_text}
use Rattle.keep_names.specs.declared.file_name.Kind.TheVariants.{Snapshot}
use Rattle.keep_names.specs.declared.id.Id.{Id}
use Rattle.keep_repo.specs.Repository.{Repository}
use Rattle.keep_snap.specs.Facts.{FactsData}
use Rattle.keep_snap.specs.Relabel.{retagged}
use Rattle.keep_snap.specs.Snap.{SnapData}
use Rattle.keep_snap.specs.Written.{snap_data}
use Rattle.keep_change.specs.NamedBytes.{NamedBytes, file_of}
use Rattle.keep_change.specs.declared.change.Change.{Change}
use Rattle.keep_catalog.specs.Files.{snap_in}
use Rattle.keep_plan.specs.Taking.{taken_in}
use Rattle.keep_plan.specs.declared.pick.Pick.{Pick}
use Rattle.keep_plan.specs.Refusal.{unless, unread_first}
use Rattle.keep_plan.specs.Storing.{absent_files, is_any_taken}
use Rattle.keep_plan.specs.declared.plan_error.PlanError.{PlanError}
use Rattle.keep_plan.specs.declared.plan_error.PlanError.TheVariants.{BadEdit, NothingToDo, SnapshotThere}
use Rattle.keep_labels.specs.Edits.{EditData, Tags, are_same, edited, is_bad_edit, is_empty}
use Rattle.keep_plan.specs.FilesThere.{files_there}
use Rattle.keep_labels.specs.Swapping.{swapping}

-- those whose tags the edit changes
abbrev pub changed_by : EditData → List FactsData → List FactsData
changed_by edit all = filter (λ s. not (are_same s.tags (edited edit s.tags))) all

-- the file of the snapshot of this name with these tags
unfoldable pub tagged_file : SnapData → Id → Tags → NamedBytes
tagged_file snap name tags = file_of Snapshot (compact_text (snap_data (retagged snap name tags)))

-- the file of the snapshot with the tags that the edit makes of its own, if the repository has it
abbrev pub retagged_file : Repository → EditData → FactsData → Option NamedBytes
retagged_file r edit s = option_map (λ snap. tagged_file snap s.name (edited edit s.tags)) (snap_in r s.name)

-- the files of these
abbrev pub retagged_files : Repository → EditData → List FactsData → List NamedBytes
retagged_files r edit all = filter_map (retagged_file r edit) all

-- the new files stand in the place of the old ones, unless one of them is there already, or two are the same
abbrev pub tagging : Repository → List NamedBytes → List NamedBytes → Result Change PlanError
tagging r old new =
    if is_any_taken r new then Err SnapshotThere
    else (if is_empty old then Err NothingToDo else Ok (swapping old (absent_files r new)))

-- the files of these snapshots, whose tags the edit changes, and of those that stand in their place
abbrev pub tagging_of : Repository → EditData → List FactsData → Result Change PlanError
tagging_of r edit changed =
    tagging r (files_there r Snapshot (map (λ s. s.name) changed)) (retagged_files r edit changed)

abbrev pub bad_edit : EditData → Option PlanError
bad_edit edit = if is_bad_edit edit then Some BadEdit else None

-- the change that edits the tags of the taken snapshots, or the first refusal
unfoldable pub tag_change : Repository → Pick → EditData → Result Change PlanError
tag_change r rule edit =
    unless (bad_edit edit) (unless (unread_first r) (tagging_of r edit (changed_by edit (taken_in rule r))))
