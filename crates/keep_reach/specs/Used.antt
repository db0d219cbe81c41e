-- The blobs that snapshots reach, as a list.
use Rattle.std.specs.Prelude.{ℕ, zero, suc, List, [], ◌∷◌, unwrap_or, if◌then◌else◌}
use Rattle.std.specs.FinMap as finite
use Rattle.std.specs.List.{flat_map}
use Rattle.std.specs.Option.{option_map_or}
use Rattle.std.specs.Result.{result_ok}
use Rattle.keep_names.specs.Orders.{blob_cmp}
use Rattle.keep_names.specs.declared.blob.BlobId.{BlobId}
use Rattle.keep_names.specs.declared.id.Id.{Id}
use Rattle.keep_repo.specs.Repository.{Repository}
use Rattle.keep_catalog.specs.Files.{snap_in, snaps_in}
use Rattle.keep_catalog.specs.Naming.{named_by}
use Rattle.keep_catalog.specs.Ordered.{in_order}
use Rattle.keep_reach.specs.Reach.{Naming, has_type_tree, most_levels}
use Rattle.keep_reach.specs.Snapshots.{root_of}

-- the blobs that one names; none where it can't be had
abbrev pub names_or_none : Naming → BlobId → List BlobId
names_or_none named blob = unwrap_or (result_ok (named blob)) []

-- the blobs that are reached from one with so many levels of trees, each as often as it is come to
abbrev pub reached_from : Naming → ℕ → BlobId → List BlobId
reached_from named zero blob = if has_type_tree blob.blob_type then [] else blob ∷ []
reached_from named (suc levels) blob = blob ∷ flat_map (reached_from named levels) (names_or_none named blob)

-- the blobs that are reached from the root of a snapshot; none where it isn't there or can't be read
abbrev pub reached_by : Repository → Id → List BlobId
reached_by r snapshot =
    option_map_or (λ snap. reached_from (named_by r) most_levels (root_of snap)) (snap_in r snapshot) []

-- the blobs that are reached from all snapshots that can be read, each as often as it is come to
abbrev pub reached_in : Repository → List BlobId
reached_in r = flat_map (reached_by r) (finite.keys (snaps_in r))

-- the blobs that some snapshot reaches, in their order, each once
unfoldable pub used_in : Repository → List BlobId
used_in r = in_order blob_cmp (reached_in r)
