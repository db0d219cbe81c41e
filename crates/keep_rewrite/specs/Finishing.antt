-- The trees that a walk has finished, each once, beside the list in which each stands as often as it is shared.
use Rattle.std.specs.Prelude.{◌≡◌, ◌⊎◌, List, [], ◌∷◌, ◌++◌}
use Rattle.std.specs.List.{list_any}
use Rattle.keep_index.specs.Joining.{first_of_each}
use Rattle.keep_build.specs.Blobs.{BlobData, is_full, is_same}

-- the blob is one of these
abbrev pub HasBlobData : List BlobData → BlobData → Type 0
HasBlobData [] b = ⊥
HasBlobData (x ∷ xs) b = (x ≡ b) ⊎ HasBlobData xs b

-- what is stored of the second list is what is stored of the first
pub record StandsFor (all once : List BlobData) : Type 0 where
  pub firsts : first_of_each is_same all ≡ first_of_each is_same once
  pub full : list_any is_full all ≡ list_any is_full once
  pub among : (b : BlobData) → HasBlobData once b → HasBlobData all b

-- between the two lists just these were finished: those that weren't there were added
pub record Finishes (old new trees : List BlobData) : Type 0 where
  pub kept : (b : BlobData) → HasBlobData old b → HasBlobData new b
  pub there : (b : BlobData) → HasBlobData trees b → HasBlobData new b
  pub stands : (all : List BlobData) → StandsFor all old → StandsFor (all ++ trees) new
