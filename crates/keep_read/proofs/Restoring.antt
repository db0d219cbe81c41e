-- What a restore of a snapshot that can be read has to give.
use Rattle.std.proofs.Common.{◌≡◌, ◌↔◌, List, ℕ, Option, None, Some, Result, Ok, Err, IsSomeAnd, true, false, is_some, refl, sym, ap, subst, ◌∙◌}
use Rattle.std.specs.BTreeMap as tree
use Rattle.std.specs.FinMap as finite
use Rattle.std.specs.Option.{option_and_then, option_map}
use Rattle.std.specs.Result.{result_ok}
use Rattle.keep_names.specs.Orders.{blob_cmp}
use Rattle.keep_names.specs.declared.blob.BlobId.{BlobId}
use Rattle.keep_names.specs.declared.file_name.Kind.TheVariants.{Snapshot}
use Rattle.keep_names.specs.declared.id.Id.{Id}
use Rattle.keep_repo.specs.Facet.{Stored}
use Rattle.keep_repo.specs.Repository.{Repository, is_filled}
use Rattle.keep_snap.specs.Snap.{SnapData}
use Rattle.keep_snap.specs.Snap as snap_reading
use Rattle.keep_snap.specs.declared.snap.SnapError.{SnapError}
use Rattle.keep_catalog.specs.Files.{file_in, snap_in, snap_of, snapshot_in, unread}
use Rattle.keep_names.specs.BlobId.{tree_at}
use Rattle.keep_catalog.specs.Naming.{named_by}
use Rattle.keep_catalog.specs.Places.{chosen_listing}
use Rattle.keep_reach.specs.Reach.{Reaches, most_levels}
use Rattle.keep_reach.specs.Snapshots.{Owes, refusal_from, refusal_of, root_of}
use Rattle.keep_reach.specs.Walk.{AreChosen, Knows, Walked}
use Rattle.keep_reach.specs.declared.reached_blobs.ReachedBlob.{ReachedBlob}
use Rattle.keep_catalog.specs.declared.reach_error.ReachError.{ReachError}
use Rattle.keep_catalog.specs.declared.spot.Spot.{Spot}
use Rattle.keep_catalog.specs.declared.unread.FileError.TheVariants.{Snap}
use Rattle.keep_read.specs.Contents.{contents_at}
use Rattle.keep_read.specs.Found.{IsFound}
use Rattle.keep_read.specs.Restored.{restored, restored_by, restored_from, restored_of, snapshot_facet}
use Rattle.keep_read.specs.declared.restore_error.RestoreError.TheVariants.{NoSnapshot, Reach, Unread}

-- ---- a snapshot that isn't there, and one that is

module _ (r : Repository) (snapshot : Id) where
  pub no_file : file_in r Snapshot snapshot ≡ None → restored r snapshot ≡ Err NoSnapshot
  no_file none = ap (λ o. restored_by r snapshot (option_map snap_of o)) none

  module _ (bytes : List ℕ) (there : file_in r Snapshot snapshot ≡ Some bytes) where
    pub good_file : (snap : SnapData) → snap_reading.snap_of bytes ≡ Ok snap → snapshot_in r snapshot ≡ Some (Ok snap)
    unfolding snap_of
    good_file snap is = ap (option_map snap_of) there ∙ ap Some is

    pub bad_file : (why : SnapError) → snap_reading.snap_of bytes ≡ Err why → restored r snapshot ≡ Err (Unread (unread Snapshot snapshot (Snap why)))
    unfolding snap_of
    bad_file why is = ap (λ o. restored_by r snapshot (option_map snap_of o)) there ∙ ap (λ s. restored_by r snapshot (Some s)) is

none_there : (o : Option (List ℕ)) → is_some (option_map Stored o) ≡ false → o ≡ None
none_there None h = refl
none_there (Some bytes) h = cc

pub not_there : (r : Repository) (snapshot : Id) → is_filled r (snapshot_facet snapshot) ≡ false → restored r snapshot ≡ Err NoSnapshot
unfolding file_in
not_there r snapshot h = no_file r snapshot (none_there (finite.get r.files (record { kind = Snapshot; id = snapshot })) h)

-- ---- what is reached from its tree

placed_by : (r : Repository) (reached : Walked) (blob : BlobId) (o : Option ReachedBlob) → tree.get blob_cmp reached blob ≡ o → is_some o ≡ true → ((found : ReachedBlob) → o ≡ Some found → chosen_listing r blob ≡ Some (found.spot, found.index)) → option_map (λ f. f.spot) o ≡ option_map (λ e. e.0) (chosen_listing r blob)
placed_by r reached blob None is known chosen = cc
placed_by r reached blob (Some found) is known chosen = sym (ap (option_map (λ (e : Spot × Id). e.0)) (chosen found refl))

module _ (r : Repository) (snapshot : Id) (snap : SnapData) (read : snapshot_in r snapshot ≡ Some (Ok snap)) where
  snap_there : snap_in r snapshot ≡ Some snap
  unfolding snap_in
  snap_there = ap (option_and_then result_ok) read

  refusal_there : refusal_of r snapshot ≡ refusal_from r (root_of snap)
  refusal_there = ap (option_and_then (λ s. refusal_from r (root_of s))) snap_there

  due : restored r snapshot ≡ restored_from r snap.tree (refusal_from r (root_of snap))
  due = ap (restored_by r snapshot) read

  pub had_there : refusal_of r snapshot ≡ None → refusal_from r (root_of snap) ≡ None
  had_there none = sym refusal_there ∙ none

  pub restored_there : refusal_of r snapshot ≡ None → restored r snapshot ≡ Ok (restored_of (contents_at r most_levels snap.tree))
  restored_there none = due ∙ ap (restored_from r snap.tree) (had_there none)

  refused_there : (why : ReachError) → refusal_of r snapshot ≡ Some why → restored r snapshot ≡ Err (Reach why)
  refused_there why is = due ∙ ap (restored_from r snap.tree) (sym refusal_there ∙ is)

  -- in a repository that is the same
  pub refused_alike : (now : Repository) → now ≡ r → (why : ReachError) → refusal_of now snapshot ≡ Some why → restored r snapshot ≡ Err (Reach why)
  refused_alike now same why is = refused_there why (sym (ap (λ x. refusal_of x snapshot) same) ∙ is)

  -- where it was found
  pub found_there : (reached : Walked) → ((blob : BlobId) → Knows reached blob ↔ Owes r snapshot blob) → AreChosen (chosen_listing r) reached → IsFound r reached most_levels (tree_at snap.tree)
  found_there reached knows chosen = record {
    placed = λ blob reaches.
        let O : Option SnapData → Type 0 = λ o. IsSomeAnd o (λ s. Reaches (named_by r) most_levels (root_of s) blob) in
        let known : Knows reached blob = (knows blob).1 (subst O (sym snap_there) reaches) in
        record { spot = placed_by r reached blob (tree.get blob_cmp reached blob) refl known.known (chosen blob) };
  }

-- ---- by the tree of its root

read_of : (o : Option (Result SnapData SnapError)) (tree : Id) → option_map (λ (s : SnapData). s.tree) (option_and_then result_ok o) ≡ Some tree → (snap : SnapData) × (o ≡ Some (Ok snap)) × (snap.tree ≡ tree)
read_of None tree h = absurd (cc)
read_of (Some (Err why)) tree h = absurd (cc)
read_of (Some (Ok snap)) tree h = (snap, refl, cc)

module _ (r : Repository) (snapshot tree : Id) (root : option_map (λ (s : SnapData). s.tree) (snap_in r snapshot) ≡ Some tree) where
  read_with : (snap : SnapData) × (snapshot_in r snapshot ≡ Some (Ok snap)) × (snap.tree ≡ tree)
  unfolding snap_in
  read_with = read_of (snapshot_in r snapshot) tree root

  pub found_at : (reached : Walked) → ((blob : BlobId) → Knows reached blob ↔ Owes r snapshot blob) → AreChosen (chosen_listing r) reached → IsFound r reached most_levels (tree_at tree)
  found_at reached knows chosen =
      let F : Id → Type 0 = λ t. IsFound r reached most_levels (tree_at t) in
      subst F read_with.2 (found_there r snapshot read_with.0 read_with.1 reached knows chosen)

  pub had_at : refusal_of r snapshot ≡ None → refusal_from r (tree_at tree) ≡ None
  had_at none =
      let F : Id → Type 0 = λ t. refusal_from r (tree_at t) ≡ None in
      subst F read_with.2 (had_there r snapshot read_with.0 read_with.1 none)

  pub restored_at : refusal_of r snapshot ≡ None → restored r snapshot ≡ Ok (restored_of (contents_at r most_levels tree))
  restored_at none = restored_there r snapshot read_with.0 read_with.1 none ∙ ap (λ t. Ok (restored_of (contents_at r most_levels t))) read_with.2

  pub refused_at : (why : ReachError) → refusal_of r snapshot ≡ Some why → restored r snapshot ≡ Err (Reach why)
  refused_at why is = refused_alike r snapshot read_with.0 read_with.1 r refl why is

-- ---- a file that can't be read

module _ (r : Repository) (snapshot : Id) (bytes : List ℕ) (there : file_in r Snapshot snapshot ≡ Some bytes) (unread : snap_in r snapshot ≡ None) where
  pub not_read : (snap : SnapData) → snap_reading.snap_of bytes ≡ Ok snap → ⊥
  unfolding snap_in
  not_read snap is =
      let read : option_and_then result_ok (snapshot_in r snapshot) ≡ Some snap = ap (option_and_then result_ok) (good_file r snapshot bytes there snap is) in
      cc
