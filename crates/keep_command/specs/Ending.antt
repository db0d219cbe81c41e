-- How the program tells of its end.
use Rattle.std.specs.Prelude.{◌≡◌, ℕ, List, [], ◌++◌, Some, None, Result, Ok, Err, codes, string_bytes}
use Rattle.std.specs.Borrow.{Bor}
use Rattle.std.specs.Fmt.{decimal}
use Rattle.keep_disk.specs.Ends.{cause_text}
use Rattle.keep_disk.specs.declared.folder_error.FolderError.{FolderError}
use Rattle.keep_disk.specs.declared.folder_error.FolderError.TheVariants as unopened
use Rattle.keep_opening.specs.OpenError.{open_error_text}
use Rattle.keep_opening.specs.declared.open_error.OpenError.{OpenError}
use Rattle.keep_opening.specs.declared.open_error.OpenError.TheVariants as unread
use Rattle.keep_opening.specs.declared.open_error.OpenError.TheVariants.{BadEntry}
use Rattle.keep_lines.specs.Mistake.{mistake_text}
use Rattle.keep_script.specs.declared.status.RunStatus.TheVariants.{Done, Faulted, BadLine, ReadFailed, ScriptTooLong, WriteFailed, NoMemory, Untold, NotOpened}
use Rattle.keep_options.specs.Option.{IsBadWord}
use Rattle.keep_operators.specs.declared.order.NoCrew.{NoCrew}
use Rattle.keep_operators.specs.declared.order.NoCrew.TheVariants as uncrewed
use Rattle.keep_command.specs.declared.ending.Ending.{Ending}
use Rattle.keep_command.specs.declared.ending.Ending.TheVariants as ending
use Rattle.keep_options.specs.declared.options.BadOptions.{BadOptions}
use Rattle.keep_options.specs.declared.options.BadOptions.TheVariants.{Memory, Refused}

-- the exit status: 0 where the script was answered and the shelf never failed, 1 where it did or the run failed, 2
-- where a line isn't of the language or the words aren't options
abbrev pub code_of : Ending → ℕ
code_of (ending.Ran Done) = 0
code_of (ending.Ran Faulted) = 1
code_of (ending.Ran (BadLine number why)) = 2
code_of (ending.Ran ReadFailed) = 1
code_of (ending.Ran ScriptTooLong) = 1
code_of (ending.Ran WriteFailed) = 1
code_of (ending.Ran NoMemory) = 1
code_of (ending.Ran Untold) = 1
code_of (ending.Ran (NotOpened error)) = 1
code_of (ending.BadOptions word) = 2
code_of (ending.NoFolder error) = 1
code_of (ending.Damaged number damage) = 1
code_of (ending.NoCrew error) = 1

-- the end where no options are read, and no word is named
abbrev pub ending_of : BadOptions → Ending
ending_of Refused = ending.BadOptions None
ending_of Memory = ending.Ran NoMemory

-- the end where what was written last is handed on, and where it can't be
abbrev pub ending_flushed : {A E : Type 0} → Result A E → Ending
ending_flushed (Ok done) = ending.Ran Done
ending_flushed (Err error) = ending.Ran WriteFailed

-- the end where the folder isn't opened
abbrev pub ending_unopened : FolderError → Ending
ending_unopened unopened.Memory = ending.Ran NoMemory
ending_unopened error = ending.NoFolder error

-- the end where a crew is refused
abbrev pub ending_uncrewed : NoCrew → Ending
ending_uncrewed uncrewed.Memory = ending.Ran NoMemory
ending_uncrewed uncrewed.NoPass = ending.NoCrew uncrewed.NoPass

-- how the program is called
abbrev pub usage : List ℕ
usage = codes "usage: keepd [--cut N] [--now TIME] [--host H] [--tagged T] [--drops N] [--folder DIR] [--crew N] < SCRIPT"

-- what to do where what stands on a shelf can't be read
abbrev pub copy_advice : List ℕ
copy_advice = codes "put journal, trash and files back from one copy"

-- what to do where a shelf isn't opened for this cause
abbrev pub advice_on : OpenError → List ℕ
advice_on (BadEntry number) = copy_advice
advice_on unread.Fault = codes "make room, and see that all in it can be read and written"
advice_on unread.Memory = codes "run it with more memory"

-- the line on standard error
abbrev pub ending_text : Ending → List ℕ
ending_text (ending.Ran Done) = codes "keepd: done"
ending_text (ending.Ran Faulted) = codes "keepd: the shelf failed"
ending_text (ending.Ran (BadLine number why)) =
    codes "keepd: line " ++ (decimal number ++ (codes ": " ++ mistake_text why))
ending_text (ending.Ran ReadFailed) = codes "keepd: cannot read the script"
ending_text (ending.Ran ScriptTooLong) = codes "keepd: the script has more than 67,108,863 bytes"
ending_text (ending.Ran WriteFailed) = codes "keepd: cannot write the answers"
ending_text (ending.Ran NoMemory) = codes "keepd: no memory"
ending_text (ending.Ran Untold) = codes "keepd: the shelf can't be told"
ending_text (ending.Ran (NotOpened error)) =
    codes "keepd: cannot open: " ++ (open_error_text error ++ (codes "; " ++ advice_on error))
ending_text (ending.BadOptions None) = codes "keepd: bad options; " ++ usage
ending_text (ending.BadOptions (Some word)) =
    codes "keepd: bad options: " ++ (word.now ++ (codes "; " ++ usage))
ending_text (ending.Damaged number damage) =
    codes "keepd: cannot open: BadEntry " ++ (decimal number ++ (string_bytes damage ++ (codes "; " ++ copy_advice)))
ending_text (ending.NoFolder unopened.BadConfig) =
    codes "keepd: cannot open: BadConfig; name a folder with the config of a repository"
ending_text (ending.NoFolder unopened.Locked) =
    codes "keepd: cannot open: Locked; wait for the end of the other run on this folder"
ending_text (ending.NoFolder (unopened.Fault cause)) =
    codes "keepd: cannot open: Fault: " ++ (cause_text cause ++ codes "; see that all in it can be read")
ending_text (ending.NoFolder unopened.Memory) = codes "keepd: no memory"
ending_text (ending.NoCrew uncrewed.NoPass) = codes "keepd: cannot open: NoPass; run it with fewer operators"
ending_text (ending.NoCrew uncrewed.Memory) = codes "keepd: no memory"

-- what is written on standard error: that line, unless each line of the script was answered and the shelf never failed
abbrev pub told_text : Ending → List ℕ
told_text (ending.Ran Done) = []
told_text ended = ending_text ended ++ codes "\n"

-- the end names the bad one of these words
abbrev pub NamesBadWord : List (List ℕ) → Ending → Type 0
NamesBadWord words ended = (word : Bor (List ℕ)) × (ended ≡ ending.BadOptions (Some word)) × IsBadWord words word.now
