-- What all that is met has to be: files, where no name and no id stands for two texts.
use Rattle.std.specs.Prelude.{◌≡◌, ℕ, ◌<◌, ◌^◌, List, length, Some}
use Rattle.std.specs.FinMap as finite
use Rattle.keep_names.specs.Id.{IsDigest}
use Rattle.keep_names.specs.declared.file_name.FileName.{FileName}
use Rattle.keep_repo.specs.Repository.{Repository}
use Rattle.keep_pack.specs.Reading.{IsBytes}
use Rattle.keep_sound.specs.Met.{HasOneText, IsPartOf}

-- Among all files that are ever met no blob has two texts, and those of the repository are among them.
pub record IsMet (all r : Repository) : Type 0 where
  pub one_text : HasOneText all
  pub part : IsPartOf r all

-- a file as the program holds one: its name has 32 bytes, and what it says are fewer bytes than 2 to the 64
pub record IsFile (name : FileName) (text : List ℕ) : Type 0 where
  pub digest : IsDigest name.id
  pub bytes : IsBytes text
  pub few : length text < 2 ^ 64

-- so is each file of the repository
abbrev pub AreFiles : Repository → Type 0
AreFiles r = (name : FileName) (text : List ℕ) → finite.get r.files name ≡ Some text → IsFile name text
