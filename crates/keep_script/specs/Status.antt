-- How a run ends.
use Rattle.std.specs.Prelude.{◌≡◌, ◌⊎◌, ℕ, Bool, true, false, Result, Ok, Err}
use Rattle.keep_opening.specs.declared.open_error.OpenError.{OpenError}
use Rattle.keep_opening.specs.declared.open_error.OpenError.TheVariants.{BadEntry, Fault, Memory}
use Rattle.keep_answers.specs.declared.halt.Halt.{Halt}
use Rattle.keep_answers.specs.declared.halt.Halt.TheVariants as halt
use Rattle.keep_script.specs.declared.status.RunStatus.{RunStatus}
use Rattle.keep_script.specs.declared.status.RunStatus.TheVariants as ended
use Rattle.keep_script.specs.declared.status.Stop.{Stop}
use Rattle.keep_script.specs.declared.status.Stop.TheVariants.{BadLine, ReadFailed, ScriptTooLong, WriteFailed, NoMemory, Untold}

-- the status of a run at the script's end, by whether a fault was answered
abbrev pub status_at_end : Bool → RunStatus
status_at_end true = ended.Faulted
status_at_end false = ended.Done

-- the status of a run whose shelf isn't opened
abbrev pub status_unopened : OpenError → RunStatus
status_unopened Memory = ended.NoMemory
status_unopened (BadEntry n) = ended.NotOpened (BadEntry n)
status_unopened Fault = ended.NotOpened Fault

-- the script ended, and each line was answered
abbrev pub ReachesEnd : RunStatus → Type 0
ReachesEnd status = (status ≡ ended.Done) ⊎ (status ≡ ended.Faulted)

-- a run stops at a line that isn't answered to its end
abbrev pub stop_of : Halt → Stop
stop_of (halt.BadLine why) = BadLine why
stop_of halt.WriteFailed = WriteFailed
stop_of halt.NoMemory = NoMemory
stop_of halt.Untold = Untold

-- the status of a run that stops at the line of this number, and why
abbrev pub status_at : Stop → ℕ → RunStatus
status_at (BadLine why) number = ended.BadLine number why
status_at ReadFailed number = ended.ReadFailed
status_at ScriptTooLong number = ended.ScriptTooLong
status_at WriteFailed number = ended.WriteFailed
status_at NoMemory number = ended.NoMemory
status_at Untold number = ended.Untold

-- the status of a run that would end so, once the writer was flushed: a flush that fails is a failed write
abbrev pub status_once_flushed : RunStatus → Result (Unit {0}) Stop → RunStatus
status_once_flushed status (Ok _) = status
status_once_flushed status (Err stop) = ended.WriteFailed
