-- With which status a command ends.
use Rattle.std.specs.Prelude.{ℕ}
use Rattle.keep_run.specs.declared.failure.Failure.{Failure}
use Rattle.keep_run.specs.declared.failure.Failure.TheVariants.{BadWords, Memory, Partly, Refused, Told, Unmeant, Unwritten}

-- 2 where its words are bad, 3 where it is done but for some files, 1 where it is refused or failed
abbrev pub status_of : Failure → ℕ
status_of BadWords = 2
status_of (Unmeant cause) = 2
status_of Partly = 3
status_of (Refused cause) = 1
status_of Told = 1
status_of Unwritten = 1
status_of Memory = 1
