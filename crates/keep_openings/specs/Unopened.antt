-- What is said where a repository's folder isn't opened, and what to do then.
use Rattle.std.specs.Prelude.{ℕ, List, ◌++◌, codes, string_bytes}
use Rattle.std.specs.Fmt.{decimal}
use Rattle.keep_disk.specs.Ends.{cause_text}
use Rattle.keep_disk.specs.declared.folder_error.Cause.{Cause}
use Rattle.keep_disk.specs.declared.folder_error.Cause.TheVariants.{Away, Denied, Failed, Missing, OtherSort}
use Rattle.keep_disk.specs.declared.folder_error.FolderError.TheVariants as folder
use Rattle.keep_opening.specs.declared.open_error.OpenError.TheVariants as shelf
use Rattle.keep_openings.specs.declared.unopened.Unopened as the_unopened
use Rattle.keep_openings.specs.declared.unopened.Unopened.TheVariants.{Damaged, Folder, Unread}

-- where what stands there can't be read
abbrev pub copy_advice : List ℕ
copy_advice = codes "put journal, trash and files back from one copy"

-- where memory ran out
abbrev pub memory_advice : List ℕ
memory_advice = codes "no memory: run it with more"

-- where the system doesn't let the folder be read, for this cause
abbrev pub folder_advice : Cause → List ℕ
folder_advice Missing = codes "name another folder, or make one with keep init"
folder_advice Denied = codes "see that all in it can be read"
folder_advice OtherSort = codes "see that all in it can be read"
folder_advice Away = codes "see that all in it can be read"
folder_advice Failed = codes "see that all in it can be read"

-- what is wrong, and behind a colon what to do
abbrev pub unopened_text : the_unopened.Unopened → List ℕ
unopened_text (Folder folder.BadConfig) =
    codes "it has no config of a repository: name another folder, or make one with keep init"
unopened_text (Folder folder.Locked) = codes "another run has it: wait for its end, or longer with --wait"
unopened_text (Folder (folder.Fault cause)) = cause_text cause ++ (codes ": " ++ folder_advice cause)
unopened_text (Folder folder.Memory) = memory_advice
unopened_text (Unread (shelf.BadEntry number)) =
    codes "can't be read: event " ++ (decimal number ++ (codes "; " ++ copy_advice))
unopened_text (Unread shelf.Fault) =
    codes "it failed: make room, and see that all in it can be read and written"
unopened_text (Unread shelf.Memory) = memory_advice
unopened_text (Damaged number damage) =
    codes "can't be read: event " ++ (decimal number ++ (string_bytes damage ++ (codes "; " ++ copy_advice)))
