-- What a forget changes.
use Rattle.std.specs.Prelude.{Bool, ◌&&◌, ◌||◌, List, [], is_none, Result, Ok, Err, if◌then◌else◌}
use Rattle.keep_names.specs.declared.file_name.Kind.TheVariants.{Snapshot}
use Rattle.keep_repo.specs.Repository.{Repository}
use Rattle.keep_change.specs.NamedBytes.{NamedBytes}
use Rattle.keep_change.specs.declared.change.Change.{Change}
use Rattle.keep_snap.specs.Facts.{FactsData}
use Rattle.keep_plan.specs.Taking.{taken_in}
use Rattle.keep_plan.specs.declared.pick.Pick.{Pick}
use Rattle.keep_plan.specs.Refusal.{unless, unread_first}
use Rattle.keep_plan.specs.declared.plan_error.PlanError.{PlanError}
use Rattle.keep_plan.specs.declared.plan_error.PlanError.TheVariants.{NothingToDo}
use Rattle.keep_labels.specs.Edits.{is_empty}
use Rattle.keep_labels.specs.Keeping.{PolicyData, dropped_names}
use Rattle.keep_plan.specs.FilesThere.{files_there}
use Rattle.keep_labels.specs.Swapping.{swapping}

-- whether the policy has no rule
abbrev pub has_no_rule : PolicyData → Bool
has_no_rule policy =
    is_none policy.last && is_none policy.daily && is_none policy.weekly && is_none policy.monthly
    && is_none policy.yearly && is_empty policy.tags

-- the files are dropped, if the policy has a rule, and there are any
abbrev pub forgetting : PolicyData → List NamedBytes → Result Change PlanError
forgetting policy files =
    if has_no_rule policy || is_empty files then Err NothingToDo else Ok (swapping files [])

-- those of these snapshots are dropped that the policy doesn't keep, if it has a rule, and there are any
abbrev pub forgetting_of : Repository → PolicyData → List FactsData → Result Change PlanError
forgetting_of r policy taken = forgetting policy (files_there r Snapshot (dropped_names policy taken))

-- the change that forgets the taken snapshots that the policy doesn't keep, or the first refusal
unfoldable pub forget_change : Repository → Pick → PolicyData → Result Change PlanError
forget_change r rule policy = unless (unread_first r) (forgetting_of r policy (taken_in rule r))
