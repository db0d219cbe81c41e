-- What a snapshot of a part reaches there, and what it reaches among all files.
use Rattle.std.proofs.Common.{◌≡◌, inl, inr, ℕ, zero, suc, true, List, [], Option, None, Some, Result, Ok, Err, refl, sym, ap, subst, ◌∙◌}
use Rattle.std.specs.Prelude.{IsOkAnd, IsSome, is_some}
use Rattle.std.specs.Option.{IsSomeAnd, option_map_or}
use Rattle.keep_names.specs.declared.blob.BlobId.{BlobId}
use Rattle.keep_names.specs.declared.blob.BlobType.{BlobType}
use Rattle.keep_names.specs.declared.blob.BlobType.TheVariants.{Content, Tree}
use Rattle.keep_names.specs.declared.file_name.Kind.TheVariants.{Pack, Snapshot}
use Rattle.keep_names.specs.declared.id.Id.{Id}
use Rattle.keep_repo.specs.Repository.{Repository, is_filled}
use Rattle.keep_snap.specs.Snap.{SnapData}
use Rattle.keep_catalog.specs.Chosen.{IsUsablePlace}
use Rattle.keep_catalog.specs.Files.{snap_read, snap_in}
use Rattle.keep_catalog.specs.Naming.{blobs_named, missing, named_at, named_by, names_at, nodes_read, read_tree_of}
use Rattle.keep_catalog.specs.Places.{bytes_at, chosen, chosen_listing}
use Rattle.keep_reach.specs.Reach.{HasBlob, Names, Reaches, most_levels}
use Rattle.keep_reach.specs.Snapshots.{Owes, root_of}
use Rattle.keep_reach.specs.Sound.{IsSound}
use Rattle.keep_catalog.specs.declared.reach_error.ReachError.{ReachError}
use Rattle.keep_catalog.specs.declared.reach_error.ReachError.TheVariants.{BadTree}
use Rattle.keep_catalog.specs.declared.spot.Spot.{Spot}
use Rattle.keep_sound.specs.Careful.{SoundByNames}
use Rattle.keep_sound.specs.Met.{HasOneText, IsPartOf}
use Rattle.keep_sound.specs.Standing.{IsSoundIn, file_facet}
use Rattle.keep_sound.proofs.Parts.{bytes_by, filled_from, has_blob_at, honest_by, same_file, slice_at, snap_by}
use Rattle.keep_sound.proofs.Places.{LeastIsChosen, chosen_listed, chosen_of_place, chosen_of_support, open_of_chosen, place_of_chosen, supports_from}

pub named_where : (r : Repository) (blob : BlobId) (o : Option (Spot × Id)) → chosen_listing r blob ≡ o → named_by r blob ≡ named_at r blob o
unfolding named_by
named_where r blob o is = ap (named_at r blob) is

-- what a blob of this type names, by its bytes
abbrev pub names_of_bytes : BlobType → Option (List ℕ) → Result (List BlobId) ReachError
names_of_bytes Content bytes = Ok []
names_of_bytes Tree bytes = blobs_named (option_map_or (λ b. nodes_read (read_tree_of b)) bytes (Err BadTree))

pub names_by_bytes : (r : Repository) (blob_type : BlobType) (spot : Spot) → names_at r blob_type spot ≡ names_of_bytes blob_type (bytes_at r spot)
names_by_bytes r Content spot = refl
names_by_bytes r Tree spot = refl

-- a blob that names others has a chosen place
pub chosen_of_names : (r : Repository) (a b : BlobId) → Names (named_by r) a b → is_some (chosen_listing r a) ≡ true
chosen_of_names r a b names = cases (chosen_listing r a) refl where
  none : named_by r a ≡ Err (missing r a) → Names (named_by r) a b → ⊥
  none is named = (rw is at named)

  cases : (o : Option (Spot × Id)) → chosen_listing r a ≡ o → is_some o ≡ true
  cases None is = absurd (none (named_where r a None is) names)
  cases (Some e) is = refl

module _ (least : LeastIsChosen) (r all : Repository) (part : IsPartOf r all) (one : HasOneText all) where
  -- a blob that has a chosen place names the same
  same_names : (a : BlobId) → is_some (chosen_listing r a) ≡ true → named_by r a ≡ named_by all a
  same_names a there = cases (chosen_listing r a) refl there where
    both : (e d : Spot × Id) → chosen_listing r a ≡ Some e → chosen_listing all a ≡ Some d → named_by r a ≡ named_by all a
    both e d here among =
        let place : IsUsablePlace r a e.0 e.1 = open_of_chosen least r a e here in
        let all_place : IsUsablePlace all a d.0 d.1 = open_of_chosen least all a d among in
        let filled : is_filled r (file_facet Pack e.0.pack) ≡ true = filled_from r (has_blob_at a e.0) refl Pack e.0.pack (sym (honest_by r a e.0) ∙ place.honest) in
        let same : bytes_at r e.0 ≡ bytes_at all e.0 = bytes_by r e.0 ∙ ap (slice_at e.0) (same_file r all part Pack e.0.pack filled) ∙ sym (bytes_by all e.0) in
        let text : bytes_at r e.0 ≡ bytes_at all d.0 = same ∙ one.one a e.0 d.0 (supports_from r all part a e.0 e.1 place).honest all_place.honest in
        named_where r a (Some e) here ∙ names_by_bytes r a.blob_type e.0 ∙ ap (names_of_bytes a.blob_type) text
        ∙ sym (names_by_bytes all a.blob_type d.0) ∙ sym (named_where all a (Some d) among)

    among : (e : Spot × Id) → chosen_listing r a ≡ Some e → (o : Option (Spot × Id)) → chosen_listing all a ≡ o → is_some o ≡ true → named_by r a ≡ named_by all a
    among e here None is none = cc none
    among e here (Some d) is _ = both e d here is

    cases : (o : Option (Spot × Id)) → chosen_listing r a ≡ o → is_some o ≡ true → named_by r a ≡ named_by all a
    cases None is none = cc none
    cases (Some e) is _ =
        among e is (chosen_listing all a) refl (chosen_of_support least all one a e.0 e.1 (supports_from r all part a e.0 e.1 (open_of_chosen least r a e is)))

  -- what is reached in the part is reached among all
  pub reached_among : (levels : ℕ) (a b : BlobId) → Reaches (named_by r) levels a b → Reaches (named_by all) levels a b
  reached_among zero a b reaches = reaches
  reached_among (suc levels) a b (inl same) = inl same
  reached_among (suc levels) a b (inr through) =
      let same : named_by r a ≡ named_by all a = same_names a (chosen_of_names r a through.0 through.1) in
      let N : Result (List BlobId) ReachError → Type 0 = λ t. IsOkAnd t (λ blobs. HasBlob blobs through.0) in
      inr (through.0, subst N same through.1, reached_among levels through.0 b through.2)

  -- what is reached among all is reached in the part, if all that is reached there has a chosen place
  pub reached_back : (levels : ℕ) (a b : BlobId) → ((x : BlobId) → Reaches (named_by r) levels a x → IsSome (chosen r x)) → Reaches (named_by all) levels a b → Reaches (named_by r) levels a b
  reached_back zero a b there reaches = reaches
  reached_back (suc levels) a b there (inl same) = inl same
  reached_back (suc levels) a b there (inr through) =
      let same : named_by r a ≡ named_by all a = same_names a (chosen_listed r a (there a (inl refl))) in
      let N : Result (List BlobId) ReachError → Type 0 = λ t. IsOkAnd t (λ blobs. HasBlob blobs through.0) in
      let names : Names (named_by r) a through.0 = subst N (sym same) through.1 in
      inr (through.0, names, reached_back levels through.0 b (λ x below. there x (inr (through.0, names, below))) through.2)

  -- ---- snapshots

  same_snap : (snapshot : Id) → is_filled r (file_facet Snapshot snapshot) ≡ true → snap_in r snapshot ≡ snap_in all snapshot
  same_snap snapshot there = snap_by r snapshot ∙ ap snap_read (same_file r all part Snapshot snapshot there) ∙ sym (snap_by all snapshot)

  snap_there : (snapshot : Id) (snap : SnapData) → snap_in r snapshot ≡ Some snap → is_filled r (file_facet Snapshot snapshot) ≡ true
  snap_there snapshot snap is = filled_from r (λ file. is_some (snap_read file)) refl Snapshot snapshot (ap is_some (sym (snap_by r snapshot) ∙ is))

  pub owes_among : (snapshot : Id) (blob : BlobId) → Owes r snapshot blob → (is_filled r (file_facet Snapshot snapshot) ≡ true) × Owes all snapshot blob
  owes_among snapshot blob owes = cases (snap_in r snapshot) refl owes where
    cases : (o : Option SnapData) → snap_in r snapshot ≡ o → IsSomeAnd o (λ snap. Reaches (named_by r) most_levels (root_of snap) blob) → (is_filled r (file_facet Snapshot snapshot) ≡ true) × Owes all snapshot blob
    cases None is h = absurd h
    cases (Some snap) is reaches =
        let there : is_filled r (file_facet Snapshot snapshot) ≡ true = snap_there snapshot snap is in
        let O : Option SnapData → Type 0 = λ o. IsSomeAnd o (λ s. Reaches (named_by all) most_levels (root_of s) blob) in
        (there, subst O (sym is ∙ same_snap snapshot there) (reached_among most_levels (root_of snap) blob reaches))

  pub owes_back : IsSound r → (snapshot : Id) → is_filled r (file_facet Snapshot snapshot) ≡ true → (blob : BlobId) → Owes all snapshot blob → Owes r snapshot blob
  owes_back sound snapshot there blob owes = cases (snap_in all snapshot) refl owes where
    cases : (o : Option SnapData) → snap_in all snapshot ≡ o → IsSomeAnd o (λ snap. Reaches (named_by all) most_levels (root_of snap) blob) → Owes r snapshot blob
    cases None is h = absurd h
    cases (Some snap) is reaches = owes_so blob (reached_back most_levels (root_of snap) blob (λ x below. sound snapshot x (owes_so x below)) reaches) where
      owes_so : (x : BlobId) → Reaches (named_by r) most_levels (root_of snap) x → Owes r snapshot x
      owes_so x below =
          let O : Option SnapData → Type 0 = λ o. IsSomeAnd o (λ s. Reaches (named_by r) most_levels (root_of s) x) in
          subst O (sym is ∙ sym (same_snap snapshot there)) below

  sound_in : IsSound r → IsSoundIn all r
  sound_in sound snapshot there blob owes = place_of_chosen least r all part blob (sound snapshot blob (owes_back sound snapshot there blob owes))

  sound_from : IsSoundIn all r → IsSound r
  sound_from sound snapshot blob owes =
      let among = owes_among snapshot blob owes in
      chosen_of_place least r all part blob (sound snapshot among.0 blob among.1)

pub sound_by_names : LeastIsChosen → SoundByNames
sound_by_names least r all part one = (sound_in least r all part one, sound_from least r all part one)
