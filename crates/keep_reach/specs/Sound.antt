-- Repositories that have each blob that their snapshots reach.
use Rattle.std.specs.Prelude.{◌≡◌, ◌⊎◌}
use Rattle.std.specs.Option.{IsSome}
use Rattle.keep_names.specs.declared.blob.BlobId.{BlobId}
use Rattle.keep_names.specs.declared.id.Id.{Id}
use Rattle.keep_repo.specs.Repository.{Repository}
use Rattle.keep_catalog.specs.Places.{chosen}
use Rattle.keep_reach.specs.Snapshots.{Owes}
use Rattle.keep_catalog.specs.declared.reach_error.ReachError.{ReachError}
use Rattle.keep_catalog.specs.declared.reach_error.ReachError.TheVariants.{BadTree, TooDeep}

-- each blob that a present snapshot reaches has a chosen place
abbrev pub IsSound : Repository → Type 0
IsSound r = (snapshot : Id) (blob : BlobId) → Owes r snapshot blob → IsSome (chosen r blob)

-- a tree stands too deep, or its bytes aren't one; no blob is missing, and none has another hash
abbrev pub IsOfTree : ReachError → Type 0
IsOfTree why = (why ≡ TooDeep) ⊎ (why ≡ BadTree)
