-- What calls of a source answered, before they were asked for.
use Rattle.std.specs.Prelude.{ℕ, List, Ok, Err}
use Rattle.keep_sources.specs.Told.{Told}
use Rattle.keep_ahead.specs.declared.answer.Answer.{Answer}
use Rattle.keep_ahead.specs.declared.answer.Answer.TheVariants.{Look, FolderList, Open, Read}

-- the source told this of the path
abbrev pub IsTold : Told → List ℕ → Answer → Type 0
IsTold told path (Look (Ok stat)) = told.saw path stat
IsTold told path (Look (Err why)) = told.lost path why
IsTold told path (FolderList (Ok listing)) = told.listed path listing
IsTold told path (FolderList (Err why)) = told.lost path why
IsTold told path (Open (Ok done)) = Unit {0}
IsTold told path (Open (Err why)) = told.lost path why
IsTold told path (Read offset (Ok read)) = told.read path offset read.bytes.items
IsTold told path (Read offset (Err why)) = told.lost path why

-- what a source told, as far as it is known that it did
abbrev pub merely : Told → Told
merely told = record {
  saw = λ path stat. ∥ told.saw path stat ∥₁;
  listed = λ folder listing. ∥ told.listed folder listing ∥₁;
  read = λ path offset bytes. ∥ told.read path offset bytes ∥₁;
  lost = λ path why. ∥ told.lost path why ∥₁;
}
