-- What a restore asks of the place where it writes (POSIX: mkdir, open with O_CREAT and O_EXCL, write, symlink, chown,
-- lchown, chmod, futimens), and how it ended.
use Rattle.std.specs.Prelude.{if◌then◌else◌, ℕ, ◌==◌, List, Result, Ok, Err}
use Rattle.keep_targets.specs.declared.attributes.Owner.{Owner}
use Rattle.keep_targets.specs.declared.attributes.Times.{Times}
use Rattle.keep_targets.specs.declared.target_error.TargetError.{TargetError}
use Rattle.keep_targets.specs.declared.target_error.Short.{Short}

-- what can be asked, by paths below the root
pub data Act : Type 0 where
  -- make a folder where nothing is
  MakeFolder : List ℕ → Act
  -- make a file without bytes where nothing is
  MakeFile : List ℕ → Act
  -- write these bytes behind those that the file has
  Append : List ℕ → List ℕ → Act
  -- make a link to the second where nothing is
  MakeLink : List ℕ → List ℕ → Act
  SetOwner : List ℕ → Owner → Act
  -- the owner of a link itself
  SetLinkOwner : List ℕ → Owner → Act
  SetMode : List ℕ → ℕ → Act
  SetTimes : List ℕ → Times → Act

-- how it ended
pub data Call : Type 0 where
  -- it was done
  Did : Act → Call
  -- nothing was done
  Refused : TargetError → Call
  -- of these bytes, which were to be written behind those of the file, only so many first ones were
  Cut : List ℕ → List ℕ → Short → Call

-- a call that is done whole or not at all
abbrev pub ended : Result (Unit {0}) TargetError → Act → Call
ended (Ok _) act = Did act
ended (Err refusal) act = Refused refusal

-- a call that writes bytes behind those of a file
abbrev pub appended : Result (Unit {0}) Short → List ℕ → List ℕ → Call
appended (Ok _) path bytes = Did (Append path bytes)
appended (Err short) path bytes = if short.written == 0 then Refused short.refusal else Cut path bytes short
