-- What a planner's refusal says, and what to do then.
use Rattle.std.specs.Prelude.{ℕ, List, ◌++◌, codes}
use Rattle.keep_catalog.specs.Words.{unread_text}
use Rattle.keep_plan.specs.Refusal.{plan_text}
use Rattle.keep_plan.specs.declared.plan_error.PlanError.{PlanError}
use Rattle.keep_plan.specs.declared.plan_error.PlanError.TheVariants.{BadEdit, BadPath, BadPattern, BadTime, Full, Memory, NothingToDo, Reach, SamePathTwice, SnapshotThere, TooDeep, Unread}

-- what keeps it from being planned, and where something is to be done, that behind a colon
abbrev pub plan_advice_text : PlanError → List ℕ
plan_advice_text BadPath = codes "a path can't be backed up: name a file or a folder that is there"
plan_advice_text SamePathTwice =
    codes "a path is named twice, or is a file here and a folder there: name it once"
plan_advice_text BadTime = codes "no snapshot can have the time: write it as in 2026-11-29T04:00:00Z"
plan_advice_text BadEdit =
    codes "these tags can't be asked for at once: set some, or add and remove some, none of them empty"
plan_advice_text BadPattern = codes "a pattern can't be read: the guide has the patterns that there are"
plan_advice_text (Unread file) =
    codes "a file can't be read, " ++ (unread_text file ++ codes ": keep check lists all of them")
plan_advice_text (Reach why) =
    codes "a snapshot isn't whole, " ++ (plan_text (Reach why) ++ codes ": keep check lists all of them")
plan_advice_text TooDeep =
    codes "a path has more than 256 folders, one below the other: back up from further below"
plan_advice_text Full = codes "a tree or a piece of a file has 4 GiB or more: back up less at once"
plan_advice_text SnapshotThere = codes "this very snapshot is there already"
plan_advice_text NothingToDo = codes "nothing would change"
plan_advice_text Memory = codes "no memory: run it with more"
