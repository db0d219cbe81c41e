-- What the snapshots of a repository reach.
use Rattle.std.specs.Prelude.{List, Option}
use Rattle.std.specs.FinMap as finite
use Rattle.std.specs.List.{Any, filter_map}
use Rattle.std.specs.Option.{IsSomeAnd, option_and_then, option_map}
use Rattle.keep_names.specs.BlobId.{tree_at}
use Rattle.keep_names.specs.declared.blob.BlobId.{BlobId}
use Rattle.keep_names.specs.declared.id.Id.{Id}
use Rattle.keep_repo.specs.Repository.{Repository}
use Rattle.keep_snap.specs.Snap.{SnapData}
use Rattle.keep_catalog.specs.Files.{snap_in, snaps_in}
use Rattle.keep_catalog.specs.Naming.{named_by}
use Rattle.keep_reach.specs.Reach.{Reaches, most_levels, refusal_at}
use Rattle.keep_catalog.specs.declared.reach_error.ReachError.{ReachError}

-- the root tree of a snapshot, which is at level 1
abbrev pub root_of : SnapData → BlobId
root_of snap = tree_at snap.tree

-- the snapshot reaches the blob; one that isn't there or can't be read reaches nothing
abbrev pub Owes : Repository → Id → BlobId → Type 0
Owes r snapshot blob =
    IsSomeAnd (snap_in r snapshot) (λ snap. Reaches (named_by r) most_levels (root_of snap) blob)

-- some snapshot reaches it
abbrev pub IsUsed : Repository → BlobId → Type 0
IsUsed r blob = (snapshot : Id) × Owes r snapshot blob

-- one of these snapshots reaches it
abbrev pub IsOwedByOne : Repository → List Id → BlobId → Type 0
IsOwedByOne r snapshots blob = Any (λ snapshot. Owes r snapshot blob) snapshots

-- the first refusal from this root, depth first
abbrev pub refusal_from : Repository → BlobId → Option ReachError
refusal_from r root = refusal_at (named_by r) most_levels root

-- the first refusal of what the snapshot reaches
abbrev pub refusal_of : Repository → Id → Option ReachError
refusal_of r snapshot = option_and_then (λ snap. refusal_from r (root_of snap)) (snap_in r snapshot)

-- the first refusal of each of these snapshots that has one
abbrev pub refusals_of : Repository → List Id → List ReachError
refusals_of r snapshots = filter_map (refusal_of r) snapshots

-- the snapshot with its first refusal, if it has one
abbrev pub broken_by : Repository → Id → Option (Id × ReachError)
broken_by r snapshot = option_map (λ why. (snapshot, why)) (refusal_of r snapshot)

-- the snapshots that have a refusal, by name, each with its first
abbrev pub broken_in : Repository → List (Id × ReachError)
broken_in r = filter_map (broken_by r) (finite.keys (snaps_in r))
