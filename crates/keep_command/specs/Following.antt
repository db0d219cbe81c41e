-- How the program ends by its options: a shelf is had, its script is answered, and what follows is done: where it was
-- answered to its end without a fault, the crew that the options ask for works. What is left is let go.
--
-- What shelves may be had, what is let go and what a crew answers is said by tests: `gives`, `takes` and `answers`.
use Rattle.std.specs.Prelude.{◌≡◌, ◌≢◌, ◌≤◌, ◌<◌, ◌⊎◌, ℕ, List, ◌++◌, Option, Result, Ok, Err, String, codes, string_bytes}
use Rattle.std.specs.Fmt.{decimal}
use Rattle.std.specs.Global.{Global}
use Rattle.std.specs.Io.KnownBytes.{Appends}
use Rattle.keep_hooks.specs.Guards.{HooksData}
use Rattle.keep_shelf.specs.Shelved.{Shelved}
use Rattle.keep_disk.specs.declared.folder_error.FolderError.{FolderError}
use Rattle.keep_opening.specs.declared.open_error.OpenError.{OpenError}
use Rattle.keep_opening.specs.declared.open_error.OpenError.TheVariants.{BadEntry}
use Rattle.keep_ledger.specs.OnShelf.{OnShelf}
use Rattle.keep_ledger.specs.Opened.{IsGivenBack, IsNotOpened}
use Rattle.keep_jobs.specs.Job.{SettingsData}
use Rattle.keep_jobs.specs.Kits.{KitData}
use Rattle.keep_answers.specs.Known.{AppendsPart, Writes, line}
use Rattle.keep_answers.specs.State.{State, ledger_in}
use Rattle.keep_operators.specs.Crewed.{IsCrewed}
use Rattle.keep_operators.specs.declared.order.NoCrew.{NoCrew}
use Rattle.keep_operators.specs.declared.order.CrewTally.{CrewTally}
use Rattle.keep_script.specs.Run.{EndsFrom, IsUntouched}
use Rattle.keep_script.specs.declared.status.RunStatus.{RunStatus}
use Rattle.keep_script.specs.declared.status.RunStatus.TheVariants.{Done, NoMemory, Untold, WriteFailed}
use Rattle.keep_options.specs.Option.{OptionsData}
use Rattle.keep_command.specs.Damage.{IsRefusedSo}
use Rattle.keep_command.specs.Ending.{ending_uncrewed, ending_unopened}
use Rattle.keep_command.specs.Left.{LeftBook, LeftData, LeftShelf}
use Rattle.keep_command.specs.Running.{settings_of, stored, stored_filters}
use Rattle.keep_command.specs.declared.ending.Ending.{Ending}
use Rattle.keep_command.specs.declared.ending.Ending.TheVariants as ending

-- ---- a crew

-- what is said of a crew of this size: how many of its backups were accepted, and the number of the last event
abbrev pub report_text : (size accepted last : ℕ) → List ℕ
report_text size accepted last =
    codes "crew " ++ (decimal size ++ (codes " accepted " ++ (decimal accepted ++ (codes " length " ++ decimal last))))

-- the line is written whole and the program is done, or a first part of it is, where it can't be written
abbrev pub Reports : (old new : Option (List ℕ)) → (text : List ℕ) → Ending → Type 0
Reports old new text ended =
    (Appends old new (line text) × (ended ≡ ending.Ran Done))
    ⊎ (AppendsPart old new (line text) × (ended ≡ ending.Ran WriteFailed))

-- nothing is said of a crew of this size: it isn't known of one of its backups whether it is in
abbrev pub IsHeldBack : (old new : Option (List ℕ)) → (size accepted : ℕ) → Ending → Type 0
IsHeldBack old new size accepted ended = (accepted < size) × (new ≡ old) × (ended ≡ ending.Ran Untold)

-- what a crew of this size did is reported, or held back
abbrev pub ReportsCrew : (old new : Option (List ℕ)) → (size : ℕ) → CrewTally → Ending → Type 0
ReportsCrew old new size tally ended =
    Reports old new (report_text size tally.accepted tally.length) ended ⊎ IsHeldBack old new size tally.accepted ended

-- a crew of this size worked over a book with this ledger and left it with another; that is let go, and told of
pub record CrewReports (takes : LeftData → Type 0) (answers : Result CrewTally NoCrew → Type 0) (settings : SettingsData)
    (time : List ℕ) (size : ℕ) (before : OnShelf) (armed : HooksData) (old new : Option (List ℕ)) (ended : Ending) : Type 0 where
  pub after : OnShelf
  pub tally : CrewTally
  pub answered : answers (Ok tally)
  pub crewed : IsCrewed armed.vetoes settings time size before.state after.state tally.accepted tally.length
  pub let_go : takes (LeftBook after armed)
  pub told : ReportsCrew old new size tally ended

-- no operator worked, since the crew was refused: the book is let go as it was, and nothing is written
pub record IsUncrewed (takes : LeftData → Type 0) (answers : Result CrewTally NoCrew → Type 0) (before : OnShelf)
    (armed : HooksData) (old new : Option (List ℕ)) (ended : Ending) : Type 0 where
  pub error : NoCrew
  pub answered : answers (Err error)
  pub let_go : takes (LeftBook before armed)
  pub told : ended ≡ ending_uncrewed error
  pub unwritten : new ≡ old

-- a crew is had work over a book with this ledger, under what is armed
abbrev pub Crews : (takes : LeftData → Type 0) → (answers : Result CrewTally NoCrew → Type 0) → SettingsData → (time : List ℕ)
    → (size : ℕ) → OnShelf → HooksData → (old new : Option (List ℕ)) → Ending → Type 0
Crews takes answers settings time size before armed old new ended =
    CrewReports takes answers settings time size before armed old new ended
    ⊎ IsUncrewed takes answers before armed old new ended

-- ---- a script and what follows it

-- a crew is due behind a run that ended so: one is asked for, and the script was answered to its end without a fault
abbrev pub IsCrewDue : (size : ℕ) → RunStatus → Type 0
IsCrewDue size status = (1 ≤ size) × (status ≡ Done)

-- what follows a run that ended so and left a book with this ledger, under what is armed: the crew that the options ask
-- for has it, where one is due, and else it is let go
abbrev pub Follows : (takes : LeftData → Type 0) → (answers : Result CrewTally NoCrew → Type 0) → OptionsData → OnShelf → HooksData
    → (old new : Option (List ℕ)) → RunStatus → Ending → Type 0
Follows takes answers options ledger armed old new status ended =
    ((IsCrewDue options.crew status → ⊥) × takes (LeftBook ledger armed) × (new ≡ old) × (ended ≡ ending.Ran status))
    ⊎ (IsCrewDue options.crew status
    × Crews takes answers (settings_of options) options.time options.crew ledger armed old new ended)

-- a script is answered so, up to a state, and what follows is done with the book as that state has it
pub record Serves (takes : LeftData → Type 0) (answers : Result CrewTally NoCrew → Type 0)
    (answered : List ℕ → RunStatus → State → Type 0) (options : OptionsData) (old new : Option (List ℕ)) (ended : Ending) : Type 0 where
  pub status : RunStatus
  pub after : State
  -- what is written then
  pub middle : Option (List ℕ)
  pub writes : Writes old middle (λ text. answered text status after)
  pub follows : Follows takes answers options (ledger_in after) after.armed middle new status ended

-- this shelf isn't opened, and is let go as that left it; where what stands there says nothing, it may be read once more,
-- for what is wrong with it
pub record IsUnopened (takes : LeftData → Type 0) (shelf : Shelved) (ended : Ending) : Type 0 where
  pub error : OpenError
  pub why : IsNotOpened shelf error
  pub told : IsRefusedSo shelf.content error ended
  pub left : Shelved
  pub given : IsGivenBack shelf error left
  pub after : Shelved
  pub same : after.content ≡ left.content
  pub unread : ((number : ℕ) → error ≢ BadEntry number) → after ≡ left
  pub let_go : takes (LeftShelf after)

-- ---- the program

-- the script is answered over this shelf by the options with this kit, or nothing is read or written
abbrev pub EndsOver : (takes : LeftData → Type 0) → (answers : Result CrewTally NoCrew → Type 0) → Shelved → KitData
    → OptionsData → (known rest old new : Option (List ℕ)) → Ending → Type 0
EndsOver takes answers shelf kit options known rest old new ended =
    Serves takes answers (EndsFrom shelf (settings_of options) kit known rest) options old new ended
    ⊎ (IsUnopened takes shelf ended × IsUntouched known rest old new)

-- the folder that the options name is no shelf
pub record HasNoShelf {S : Type 0} (gives : Option (List ℕ) → Result S FolderError → Type 0) (options : OptionsData)
    (ended : Ending) : Type 0 where
  pub error : FolderError
  pub refused : gives options.folder (Err error)
  pub told : ended ≡ ending_unopened error

-- how the program ends by options with this kit: a shelf is had of the folder that they name, and it ends over that
abbrev pub EndsWith : {S : Type 0} → (shelved : S → Shelved) → (gives : Option (List ℕ) → Result S FolderError → Type 0)
    → (takes : LeftData → Type 0) → (answers : Result CrewTally NoCrew → Type 0) → KitData → OptionsData
    → (known rest old new : Option (List ℕ)) → Ending → Type 0
EndsWith {S} shelved gives takes answers kit options known rest old new ended =
    ((shelf : S) × gives options.folder (Ok shelf)
    × EndsOver takes answers (shelved shelf) kit options known rest old new ended)
    ⊎ (HasNoShelf gives options ended × IsUntouched known rest old new)

-- how it ends by options, with the filters, vetoes and watches that are stored for them; there may be no memory for those
abbrev pub EndsBy : {S : Type 0} → (shelved : S → Shelved) → (gives : Option (List ℕ) → Result S FolderError → Type 0)
    → (takes : LeftData → Type 0) → (answers : Result CrewTally NoCrew → Type 0) → OptionsData
    → (known rest old new : Option (List ℕ)) → Ending → Type 0
EndsBy shelved gives takes answers options known rest old new ended =
    ((host tag : String Global) × (string_bytes host ≡ options.host) × (string_bytes tag ≡ options.tagged)
    × EndsWith shelved gives takes answers (stored (stored_filters host tag) options.drops) options known rest old new ended)
    ⊎ ((ended ≡ ending.Ran NoMemory) × IsUntouched known rest old new)
