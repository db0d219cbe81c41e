-- The root of a snapshot, and what a listing has to give by it.
use Rattle.std.proofs.Common.{◌≡◌, ℕ, false, List, Option, None, Some, is_some, Result, Ok, Err, refl, sym, ap, ◌∙◌}
use Rattle.std.specs.FinMap as finite
use Rattle.std.specs.Option.{option_and_then, option_map}
use Rattle.std.specs.Result.{result_ok}
use Rattle.keep_names.specs.BlobId.{tree_at}
use Rattle.keep_names.specs.declared.file_name.Kind.TheVariants.{Snapshot}
use Rattle.keep_names.specs.declared.id.Id.{Id}
use Rattle.keep_repo.specs.Facet.{Stored}
use Rattle.keep_repo.specs.Repository.{Repository, is_filled}
use Rattle.keep_snap.specs.Snap.{SnapData}
use Rattle.keep_snap.specs.Snap as snap_reading
use Rattle.keep_snap.specs.declared.snap.SnapError.{SnapError}
use Rattle.keep_catalog.specs.Files.{file_in, snap_in, snap_of, snapshot_in, unread}
use Rattle.keep_catalog.specs.declared.reach_error.ReachError.{ReachError}
use Rattle.keep_catalog.specs.declared.unread.FileError.TheVariants.{Snap}
use Rattle.keep_reach.specs.Reach.{most_levels}
use Rattle.keep_reach.specs.Snapshots.{refusal_from, refusal_of, root_of}
use Rattle.keep_read.specs.Restored.{snapshot_facet}
use Rattle.keep_read.specs.declared.restore_error.RestoreError.{RestoreError}
use Rattle.keep_read.specs.declared.restore_error.RestoreError.TheVariants.{NoSnapshot, Unread}
use Rattle.keep_nodes.specs.Listed.{listed_by, listed_from, nodes_due, reached, root_by, root_due, tree_refusal, whole_nodes_due, whole_refusal}
use Rattle.keep_nodes.proofs.Whole.{whole_had}

module _ (r : Repository) (snapshot : Id) where
  pub no_root : file_in r Snapshot snapshot ≡ None → root_due r snapshot ≡ Err NoSnapshot
  unfolding root_due
  no_root none = ap (λ o. root_by snapshot (option_map snap_of o)) none

  pub bad_root : (bytes : List ℕ) → file_in r Snapshot snapshot ≡ Some bytes → (why : SnapError) → snap_reading.snap_of bytes ≡ Err why → root_due r snapshot ≡ Err (Unread (unread Snapshot snapshot (Snap why)))
  unfolding root_due snap_of
  bad_root bytes there why is = ap (λ o. root_by snapshot (option_map snap_of o)) there ∙ ap (λ s. root_by snapshot (Some s)) is

  root_read : (tree : Id) (o : Option (Result SnapData SnapError)) → option_map (λ (s : SnapData). s.tree) (option_and_then result_ok o) ≡ Some tree → root_by snapshot o ≡ Ok tree
  root_read tree None h = cc
  root_read tree (Some (Err why)) h = cc
  root_read tree (Some (Ok snap)) h = let same : snap.tree ≡ tree = cc in ap Ok same

  pub root_there : (tree : Id) → option_map (λ (s : SnapData). s.tree) (snap_in r snapshot) ≡ Some tree → root_due r snapshot ≡ Ok tree
  unfolding root_due snap_in
  root_there tree h = root_read tree (snapshot_in r snapshot) h

  module _ (why : RestoreError) (is : root_due r snapshot ≡ Err why) where
    pub nodes_rootless : nodes_due r snapshot ≡ Err why
    nodes_rootless = ap (listed_by r (tree_refusal r)) is

    pub whole_rootless : whole_nodes_due r snapshot ≡ Err why
    whole_rootless = ap (listed_by r (whole_refusal r)) is

  refusal_read : (tree : Id) (o : Option (Result SnapData SnapError)) → root_by snapshot o ≡ Ok tree → option_and_then (λ (s : SnapData). refusal_from r (root_of s)) (option_and_then result_ok o) ≡ whole_refusal r tree
  refusal_read tree None h = cc
  refusal_read tree (Some (Err why)) h = cc
  refusal_read tree (Some (Ok snap)) h = let same : snap.tree ≡ tree = cc in ap (λ t. refusal_from r (tree_at t)) same

  module _ (tree : Id) (is : root_due r snapshot ≡ Ok tree) where
    pub nodes_from : nodes_due r snapshot ≡ reached (listed_from r tree (tree_refusal r tree))
    nodes_from = ap (listed_by r (tree_refusal r)) is

    refusal_there : refusal_of r snapshot ≡ whole_refusal r tree
    unfolding root_due snap_in
    refusal_there = refusal_read tree (snapshot_in r snapshot) is

    whole_from : whole_nodes_due r snapshot ≡ reached (listed_from r tree (refusal_of r snapshot))
    whole_from = ap (listed_by r (whole_refusal r)) is ∙ ap (λ o. reached (listed_from r tree o)) (sym refusal_there)

    pub whole_refused : (why : ReachError) → refusal_of r snapshot ≡ Some why → whole_nodes_due r snapshot ≡ reached (Err why)
    whole_refused why h = whole_from ∙ ap (λ o. reached (listed_from r tree o)) h

    -- where nothing is refused, no tree is
    pub whole_nodes : refusal_of r snapshot ≡ None → whole_nodes_due r snapshot ≡ reached (listed_from r tree (tree_refusal r tree))
    whole_nodes none =
        whole_from ∙ ap (λ o. reached (listed_from r tree o)) (none ∙ sym (whole_had r most_levels tree (sym refusal_there ∙ none)))

none_there : (o : Option (List ℕ)) → is_some (option_map Stored o) ≡ false → o ≡ None
none_there None h = refl
none_there (Some bytes) h = cc

pub not_there : (r : Repository) (snapshot : Id) → is_filled r (snapshot_facet snapshot) ≡ false → root_due r snapshot ≡ Err NoSnapshot
unfolding file_in
not_there r snapshot h = no_root r snapshot (none_there (finite.get r.files (record { kind = Snapshot; id = snapshot })) h)
