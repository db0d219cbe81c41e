-- Lines are kept where nothing is read or written.
use Rattle.std.proofs.Common.{◌≡◌, ◌∙◌, ℕ, List, [], Option, Some, None, append-nil, inl, refl, sym}
use Rattle.std.specs.Io.KnownBytes.{Keeps}
use Rattle.keep_disk.specs.declared.folder_error.FolderError.{FolderError}
use Rattle.keep_disk.specs.declared.folder_error.FolderError.TheVariants as unopened
use Rattle.keep_answers.proofs.KnownLemmas.{WritesLines-none}
use Rattle.keep_answers.specs.Known.{WritesLines}
use Rattle.keep_script.specs.Run.{IsUntouched}
use Rattle.keep_script.specs.declared.status.RunStatus.TheVariants.{ScriptTooLong, NoMemory}
use Rattle.keep_command.specs.Ending.{ending_unopened}
use Rattle.keep_command.specs.Running.{KeepsLines}
use Rattle.keep_command.specs.declared.ending.Ending.{Ending}
use Rattle.keep_command.specs.declared.ending.Ending.TheVariants.{Ran}

-- where no folder is opened no script is too long
never-long : (error : FolderError) → ending_unopened error ≡ Ran ScriptTooLong → ⊥
never-long unopened.Memory e = cc e
never-long unopened.BadConfig e = cc e
never-long unopened.Locked e = cc e
never-long (unopened.Fault cause) e = cc e

pub keeps-idle : (known old : Option (List ℕ)) (error : FolderError) (ended : Ending) → ended ≡ ending_unopened error → KeepsLines known old old ended
keeps-idle known old error ended e = ((λ other. WritesLines-none old), (λ short. absurd (never-long error (sym e ∙ short))))

-- nothing that is written is whole lines
lines-kept : (old new : Option (List ℕ)) → Keeps old new → WritesLines old new
lines-kept None new kept = ([], tt, inl refl)
lines-kept (Some xs) None kept = absurd kept
lines-kept (Some xs) (Some ys) kept = ([], kept ∙ sym (append-nil xs), inl refl)

memory-short : Ran NoMemory ≡ Ran ScriptTooLong → ⊥
memory-short e = cc e

-- nor is it where there is no memory
pub keeps-untouched : (known left old new : Option (List ℕ)) (ended : Ending) → ended ≡ Ran NoMemory → IsUntouched known left old new → KeepsLines known old new ended
keeps-untouched known left old new ended e untouched =
    ((λ other. lines-kept old new untouched.1), (λ short. absurd (memory-short (sym e ∙ short))))
