-- What a source told, by paths.
use Rattle.std.specs.Prelude.{ℕ, List}
use Rattle.keep_sources.specs.declared.stat.Stat.{Stat}
use Rattle.keep_sources.specs.declared.skipped.Why.{Why}
use Rattle.keep_sources.specs.declared.source.FolderListing.{FolderListing}

pub record Told : Type 1 where
  -- a look at the path answered this
  pub saw : List ℕ → Stat → Type 0
  -- the folder was listed, and has this
  pub listed : List ℕ → FolderListing → Type 0
  -- a read of the file, from this offset on, answered these bytes
  pub read : List ℕ → ℕ → List ℕ → Type 0
  -- a call at the path failed, and this is why
  pub lost : List ℕ → Why → Type 0

-- nothing is said of what was told, as of a machine's files
abbrev pub anything : Told
anything = record {
  saw = λ _ _. Unit {0};
  listed = λ _ _. Unit {0};
  read = λ _ _ _. Unit {0};
  lost = λ _ _. Unit {0};
}
