-- What is given to an archive.
use Rattle.std.specs.Prelude.{◌≡◌, ℕ, List, [], ◌∷◌}
use Rattle.keep_names.specs.declared.id.Id.{Id}
use Rattle.keep_sources.specs.declared.stat.Stat.{Stat}

pub data Given : Type 0 where
  -- from here on nodes lie in a folder of this name
  OpenedFolder : List ℕ → Given
  -- the folder that was opened last ends, and was seen so
  ClosedFolder : Stat → Given
  -- bytes of a file
  Wrote : List ℕ → Given
  -- the bytes since the last file are one of this name, which was seen so
  EndedFile : List ℕ → Stat → Given
  -- the bytes since the last file are of none
  DroppedFile : Given
  -- a file of this name, of stored blobs, which was seen so
  GotSame : List ℕ → List Id → Stat → Given
  -- something else of this name, which was seen so
  GotOther : List ℕ → Stat → Given

-- all of these are given, one after another, where this tells what one makes of what was so before it
abbrev pub GivesAll : {X : Type 0} → (X → Given → X → Type 0) → X → List Given → X → Type 0
GivesAll {X} gives before [] now = now ≡ before
GivesAll {X} gives before (given ∷ more) now = (next : X) × gives before given next × GivesAll gives next more now
