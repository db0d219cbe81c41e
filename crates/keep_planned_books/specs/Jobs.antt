-- What a job says and builds, and the changes that are planned as jobs.
use Rattle.std.specs.Prelude.{◌≡◌, ◌⊎◌, ℕ, Bool, true, List, [], ◌∷◌, All, Ok, unwrap_or}
use Rattle.std.specs.FinSet as set
use Rattle.std.specs.Result.{result_unwrap_or}
use Rattle.keep_names.specs.declared.id.Id.{Id}
use Rattle.keep_repo.specs.Repository.{Repository}
use Rattle.keep_change.specs.Lists.{marked_packs}
use Rattle.keep_change.specs.NamedBytes.{NamedBytes}
use Rattle.keep_change.specs.declared.change.Change.{Change}
use Rattle.keep_change.specs.declared.change.Planned.{Planned}
use Rattle.keep_plan.specs.Taking.{taken_in}
use Rattle.keep_plan.specs.declared.pick.Pick.{Pick}
use Rattle.keep_sound.specs.Careful.{Keeps}
use Rattle.keep_sound.specs.Met.{AddsPart, IsIn}
use Rattle.keep_view.specs.Shown.{Shown}
use Rattle.keep_backup.specs.Backup.{snapshot_file}
use Rattle.keep_build.specs.Blobs.{BlobData, id_of}
use Rattle.keep_backup.specs.Folders.{Folder, root_folder}
use Rattle.keep_backup.specs.Paths.{files_in_order}
use Rattle.keep_build.specs.Stored.{built}
use Rattle.keep_backup.specs.Walk.{blobs_of, root_tree}
use Rattle.keep_rewrite.specs.Rewriting.{finished_for}
use Rattle.keep_upkeep.specs.Repair.{whole_files}
use Rattle.keep_upkeep.specs.Sweep.{left_files, waited_marks}
use Rattle.keep_jobs.specs.Job.{Backup, Filtered, Forget, JobData, Mark, Repair, Rewrite, SettingsData, Sweep, Tag, TaskData, job_change}
use Rattle.keep_jobs.specs.Patterns.{patterns_in}
use Rattle.keep_safety.specs.Met.{AreFiles, IsMet}
use Rattle.keep_safety.specs.SafeBackup.{AreTexts, HaveTextPaths}
use Rattle.keep_safety.specs.SafeLabels.{HasTexts}
use Rattle.keep_safety.specs.SafeRewrite.{IsOneText}

-- ---- what is said in texts

-- the tags of an edit are texts
abbrev pub TaskIsText : TaskData → Type 0
TaskIsText (Tag edit) = HasTexts edit
TaskIsText (Forget policy) = Unit {0}
TaskIsText (Rewrite forget patterns) = Unit {0}

-- so are the facts and the paths of a backup
abbrev pub IsText : JobData → Type 0
IsText (Backup facts files) = AreTexts facts × HaveTextPaths files
IsText (Filtered rule task) = TaskIsText task
IsText Repair = Unit {0}
IsText Mark = Unit {0}
IsText (Sweep wait) = Unit {0}

-- ---- what is built

-- the folder of a backup's files
abbrev pub folder_of : List (List ℕ × List ℕ) → Folder
folder_of files = root_folder (result_unwrap_or (files_in_order files) [])

-- the trees that a rewrite writes anew
abbrev pub trees_of : Repository → Pick → TaskData → List BlobData
trees_of r rule (Tag edit) = []
trees_of r rule (Forget policy) = []
trees_of r rule (Rewrite forget patterns) = finished_for r (unwrap_or (patterns_in patterns) []) (taken_in rule r)

-- the blobs that a job cuts and writes, be they there already or not
abbrev pub blobs_built : Shown → SettingsData → JobData → List BlobData
blobs_built shown settings (Backup facts files) = blobs_of settings.cut (folder_of files)
blobs_built shown settings (Filtered rule task) = trees_of shown.repo rule task
blobs_built shown settings Repair = []
blobs_built shown settings Mark = []
blobs_built shown settings (Sweep wait) = []

-- the other files that it builds beside the packs of these blobs and their index: a snapshot, or an index
abbrev pub others_built : Shown → SettingsData → JobData → List NamedBytes
others_built shown settings (Backup facts files) =
    snapshot_file facts (id_of (root_tree settings.cut (folder_of files))) ∷ []
others_built shown settings (Filtered rule task) = []
others_built shown settings Repair = whole_files shown.repo
others_built shown settings Mark = []
others_built shown settings (Sweep wait) =
    left_files shown.repo (marked_packs (waited_marks shown.repo settings.now wait))

-- what a job builds is among all that is met, be it there already or not: no name of a file, and no id of a blob,
-- stands for two texts
pub record Meets (all : Repository) (shown : Shown) (settings : SettingsData) (job : JobData) : Type 0 where
  pub blobs : All (IsOneText all) (blobs_built shown settings job)
  pub stored : All (IsIn all) (built shown.repo (blobs_built shown settings job))
  pub others : All (IsIn all) (others_built shown settings job)

-- ---- planned changes

-- the change is that of a job, planned on what was shown, at its length; what it builds and adds is met
pub record IsOfJob (all : Repository) (shown : Shown) (p : Planned) : Type 0 where
  pub settings : SettingsData
  pub job : JobData
  pub text : IsText job
  pub change : job_change shown settings job ≡ Ok p.change
  pub seen : p.seen ≡ shown.length
  pub meets : Meets all shown settings job
  pub adds : AddsPart all p.change

-- ---- what they keep

-- the change keeps what holds of a repository: whatever snapshots are known; or it may be committed only at the length
-- that was shown, and keeps it where those are known that were shown
abbrev pub KeepsFor : (Repository → Type 0) → Repository → Shown → Change → Type 0
KeepsFor IsSo all shown c =
    ((known : Id → Bool) → Keeps IsSo all known c)
    ⊎ ((c.strict ≡ true) × Keeps IsSo all (set.contains shown.known) c)

-- so does the change of each job, where all that is ever met are files, among which no blob has two texts
abbrev pub PlannedChangesKeep : (Repository → Type 0) → Type 0
PlannedChangesKeep IsSo =
    (all : Repository) (shown : Shown) (p : Planned) → AreFiles all → IsMet all shown.repo → IsOfJob all shown p
    → KeepsFor IsSo all shown p.change
