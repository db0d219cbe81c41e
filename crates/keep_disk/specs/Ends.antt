-- How an opening ends where the file system refuses something.
use Rattle.std.specs.IoError.{error_kind}
use Rattle.std.specs.Prelude.{ℕ, List, codes}
use Rattle.std.specs.declared.io.Error.{Error}
use Rattle.std.specs.declared.io.ErrorKind.{ErrorKind}
use Rattle.std.specs.declared.io.ErrorKind.TheVariants.{HostUnreachable, InvalidInput, IsADirectory, NotADirectory, NotConnected, NotFound, OutOfMemory, PermissionDenied, StaleNetworkFileHandle, TimedOut}
use Rattle.keep_disk.specs.declared.folder_error.Cause.{Cause}
use Rattle.keep_disk.specs.declared.folder_error.Cause.TheVariants.{Away, Denied, Failed, Missing, OtherSort}
use Rattle.keep_disk.specs.declared.folder_error.FolderError.{FolderError}
use Rattle.keep_disk.specs.declared.folder_error.FolderError.TheVariants.{Fault, Memory}

-- want of memory is told from all else
abbrev pub ended_by : ErrorKind → FolderError
ended_by OutOfMemory = Memory
ended_by NotFound = Fault Missing
ended_by PermissionDenied = Fault Denied
ended_by NotADirectory = Fault OtherSort
ended_by IsADirectory = Fault OtherSort
ended_by InvalidInput = Fault OtherSort
ended_by NotConnected = Fault Away
ended_by StaleNetworkFileHandle = Fault Away
ended_by HostUnreachable = Fault Away
ended_by TimedOut = Fault Away
ended_by _ = Fault Failed

abbrev pub end_of : Error → FolderError
end_of error = ended_by (error_kind error)

-- what the system said, in words
abbrev pub cause_text : Cause → List ℕ
cause_text Missing = codes "no such file or folder"
cause_text Denied = codes "permission denied"
cause_text OtherSort = codes "another sort of thing where a file or a folder has to be"
cause_text Away = codes "the file system doesn't answer"
cause_text Failed = codes "the file system failed"
