-- What is to be shown by the options that are given, and where memory runs out before anything is read or written.
use Rattle.std.proofs.Common.{◌≡◌, ℕ, IfErr, IfSome, List, Option, Some, None, Result, Ok, Err, inr, refl, subst, sym}
use Rattle.std.proofs.KnownBytes.{Keeps-refl}
use Rattle.keep_shelf.specs.Shelved.{Shelved}
use Rattle.keep_disk.specs.declared.folder_error.FolderError.{FolderError}
use Rattle.keep_operators.specs.declared.order.NoCrew.{NoCrew}
use Rattle.keep_operators.specs.declared.order.CrewTally.{CrewTally}
use Rattle.keep_script.specs.Run.{IsUntouched}
use Rattle.keep_script.specs.declared.status.RunStatus.TheVariants.{NoMemory}
use Rattle.keep_options.specs.Option.{OptionsData}
use Rattle.keep_command.specs.Following.{EndsBy}
use Rattle.keep_command.specs.Left.{LeftData}
use Rattle.keep_command.specs.declared.ending.Ending.TheVariants.{Ran}

pub nothing-done : (known old : Option (List ℕ)) → IsUntouched known known old old
nothing-done known old = (Keeps-refl known, Keeps-refl old)

-- an error behind which nothing was done
pub refused-untouched : {T E : Type 0} (r : Result T E) (known old : Option (List ℕ)) → IfErr r (λ error. IsUntouched known known old old)
refused-untouched (Ok value) known old = tt
refused-untouched (Err error) known old = nothing-done known old

-- whatever the options are
pub without-memory : {S : Type 0} (shelved : S → Shelved) (gives : Option (List ℕ) → Result S FolderError → Type 0) (takes : LeftData → Type 0) (answers : Result CrewTally NoCrew → Type 0) (found : Option OptionsData) (known left old new : Option (List ℕ))
    → IsUntouched known left old new → IfSome found (λ options. EndsBy shelved gives takes answers options known left old new (Ran NoMemory))
without-memory shelved gives takes answers None known left old new same = tt
without-memory shelved gives takes answers (Some options) known left old new same = inr (refl, same)

-- by just the options that are given
pub by-given : (ends : OptionsData → Type 0) (found : Option OptionsData) (given asked : OptionsData) → found ≡ Some given → asked ≡ given → ends asked → IfSome found ends
by-given ends found given asked is same h =
    subst (λ (options : Option OptionsData). IfSome options ends) (sym is) (subst ends same h)
