-- What is reached is what is reached by texts.
use Rattle.std.proofs.Common.{◌≡◌, inl, inr, ℕ, zero, suc, true, false, List, Option, None, Some, Result, Ok, Err, refl, sym, ap, subst, ◌∙◌}
use Rattle.std.specs.Prelude.{IsOkAnd, IsSome, is_some}
use Rattle.std.specs.FinMap as finite
use Rattle.std.specs.List.{flat_map}
use Rattle.std.specs.Option.{IsSomeAnd, option_map}
use Rattle.keep_names.specs.BlobId.{tree_at}
use Rattle.keep_names.specs.FileName.{named}
use Rattle.keep_names.specs.declared.blob.BlobId.{BlobId}
use Rattle.keep_names.specs.declared.blob.BlobType.{BlobType}
use Rattle.keep_names.specs.declared.blob.BlobType.TheVariants.{Content, Tree}
use Rattle.keep_names.specs.declared.file_name.Kind.TheVariants.{Pack, Snapshot}
use Rattle.keep_names.specs.declared.id.Id.{Id}
use Rattle.keep_repo.specs.Repository.{Repository}
use Rattle.keep_tree.specs.Tree.{NodeData}
use Rattle.keep_tree.specs.declared.tree.TreeError.{TreeError}
use Rattle.keep_snap.specs.Snap.{SnapData}
use Rattle.keep_catalog.specs.Chosen.{IsUsablePlace}
use Rattle.keep_catalog.specs.Files.{snap_in, snap_read, what_is_read}
use Rattle.keep_catalog.specs.Naming.{blobs_named, named_by, named_of, nodes_read, read_tree_of}
use Rattle.keep_catalog.specs.Places.{at, bytes_at, chosen, chosen_listing}
use Rattle.keep_catalog.specs.declared.spot.Spot.{Spot}
use Rattle.keep_reach.specs.Reach as by_places
use Rattle.keep_reach.specs.Reach.{HasBlob, has_type_tree, most_levels}
use Rattle.keep_reach.specs.Snapshots.{Owes, root_of}
use Rattle.keep_reach.specs.Sound.{IsSound}
use Rattle.keep_sound.specs.Met.{HasOneText, IsPartOf}
use Rattle.keep_sound.proofs.Owing.{chosen_of_names, named_where, names_by_bytes, names_of_bytes}
use Rattle.keep_sound.proofs.Parts.{bytes_by, filled_from, has_blob_at, honest_by, same_file, slice_at, snap_by}
use Rattle.keep_sound.proofs.Places.{LeastIsChosen, chosen_listed, chosen_of_open, open_of_chosen, supports_from}
use Rattle.keep_sound.specs.Restic.{SoundIsWhole, restic}
use Rattle.keep_sound.specs.Whole.{HasFile, HasText, IsWhole, Names, Reaches}
use Rattle.keep_sound.proofs.Open.{file_is, open_of_text, something, text_of_open}

-- ---- types of blobs

is_content : (t : BlobType) → has_type_tree t ≡ false → t ≡ Content
is_content Content e = refl
is_content Tree e = cc e

no_tree : (t : BlobType) → t ≡ Content → has_type_tree t ≡ false
no_tree t e = ap has_type_tree e

-- ---- what a text names

abbrev restic_names : Result (List NodeData) TreeError → List BlobId
restic_names read = flat_map named_of (what_is_read (Some read))

named_so : (b : BlobId) (read : Result (List NodeData) TreeError) → HasBlob (restic_names read) b → IsOkAnd (blobs_named (nodes_read read)) (λ blobs. HasBlob blobs b)
named_so b (Ok nodes) has = has
named_so b (Err why) has = has

so_named : (b : BlobId) (read : Result (List NodeData) TreeError) → IsOkAnd (blobs_named (nodes_read read)) (λ blobs. HasBlob blobs b) → HasBlob (restic_names read) b
so_named b (Ok nodes) has = has
so_named b (Err why) has = has

module _ (least : LeastIsChosen) (r all : Repository) (part : IsPartOf r all) (one : HasOneText all) where
  -- ---- one text

  text_in_all : (a : BlobId) (spot : Spot) (index : Id) → IsUsablePlace r a spot index → bytes_at r spot ≡ bytes_at all spot
  text_in_all a spot index place =
      let there = filled_from r (has_blob_at a spot) refl Pack spot.pack (sym (honest_by r a spot) ∙ place.honest) in
      bytes_by r spot ∙ ap (slice_at spot) (same_file r all part Pack spot.pack there) ∙ sym (bytes_by all spot)

  same_text : (a : BlobId) (s t : Spot) (i j : Id) → IsUsablePlace r a s i → IsUsablePlace r a t j → bytes_at r s ≡ bytes_at r t
  same_text a s t i j p q =
      text_in_all a s i p ∙ one.one a s t (supports_from r all part a s i p).honest (supports_from r all part a t j q).honest ∙ sym (text_in_all a t j q)

  -- ---- what is named

  by_text : (a : BlobId) (e : Spot × Id) (text : List ℕ) → chosen_listing r a ≡ Some e → bytes_at r e.0 ≡ Some text → named_by r a ≡ names_of_bytes a.blob_type (Some text)
  by_text a e text is bytes = named_where r a (Some e) is ∙ names_by_bytes r a.blob_type e.0 ∙ ap (names_of_bytes a.blob_type) bytes

  names_by_place : (a b : BlobId) → Names restic r a b → by_places.Names (named_by r) a b
  names_by_place a b names = cases (chosen_listing r a) refl (chosen_of_open least r a names.there.spot names.there.index (open_of_text r a names.text names.there).0) where
    cases : (o : Option (Spot × Id)) → chosen_listing r a ≡ o → is_some o ≡ true → by_places.Names (named_by r) a b
    cases None is none = cc none
    cases (Some e) is _ =
        let place = open_of_text r a names.text names.there in
        let bytes : bytes_at r e.0 ≡ Some names.text =
        same_text a e.0 names.there.spot e.1 names.there.index (open_of_chosen least r a e is) place.0 ∙ place.1 in
        let told : named_by r a ≡ names_of_bytes Tree (Some names.text) =
        by_text a e names.text is bytes ∙ ap (λ t. names_of_bytes t (Some names.text)) names.is_tree in
        subst (λ named. IsOkAnd named (λ blobs. HasBlob blobs b)) (sym told) (named_so b (read_tree_of names.text) names.named)

  names_by_text : (a b : BlobId) → by_places.Names (named_by r) a b → Names restic r a b
  names_by_text a b names = cases (chosen_listing r a) refl (chosen_of_names r a b names) where
    of_type : (text : List ℕ) (t : BlobType) → a.blob_type ≡ t → HasText restic r a text → IsOkAnd (names_of_bytes t (Some text)) (λ blobs. HasBlob blobs b) → Names restic r a b
    of_type text Content is there has = absurd has
    of_type text Tree is there has = record { is_tree = is; text = text; there = there; named = so_named b (read_tree_of text) has }

    cases : (o : Option (Spot × Id)) → chosen_listing r a ≡ o → is_some o ≡ true → Names restic r a b
    cases None is none = cc none
    cases (Some e) is _ =
        let text = text_of_open r a e.0 e.1 (open_of_chosen least r a e is) in
        of_type text.0 a.blob_type refl text.2
        (subst (λ named. IsOkAnd named (λ blobs. HasBlob blobs b)) (by_text a e text.0 is text.1) names)

  -- ---- what is reached

  reached_by_place : (levels : ℕ) (a b : BlobId) → Reaches restic r levels a b → by_places.Reaches (named_by r) levels a b
  reached_by_place zero a b reaches = (no_tree a.blob_type reaches.0, reaches.1)
  reached_by_place (suc levels) a b (inl same) = inl same
  reached_by_place (suc levels) a b (inr through) = inr (through.0, names_by_place a through.0 through.1, reached_by_place levels through.0 b through.2)

  reached_by_text : (levels : ℕ) (a b : BlobId) → by_places.Reaches (named_by r) levels a b → Reaches restic r levels a b
  reached_by_text zero a b reaches = (is_content a.blob_type reaches.0, reaches.1)
  reached_by_text (suc levels) a b (inl same) = inl same
  reached_by_text (suc levels) a b (inr through) = inr (through.0, names_by_text a through.0 through.1, reached_by_text levels through.0 b through.2)

  -- ---- snapshots

  has_text : (blob : BlobId) → IsSome (chosen r blob) → (text : List ℕ) × HasText restic r blob text
  has_text blob there = cases (chosen_listing r blob) refl (chosen_listed r blob there) where
    cases : (o : Option (Spot × Id)) → chosen_listing r blob ≡ o → is_some o ≡ true → (text : List ℕ) × HasText restic r blob text
    cases None is none = cc none
    cases (Some e) is _ =
        let text = text_of_open r blob e.0 e.1 (open_of_chosen least r blob e is) in
        (text.0, text.2)

  is_chosen : (blob : BlobId) (text : List ℕ) → HasText restic r blob text → IsSome (chosen r blob)
  is_chosen blob text there = cases (chosen_listing r blob) (chosen_of_open least r blob there.spot there.index (open_of_text r blob text there).0) where
    cases : (o : Option (Spot × Id)) → is_some o ≡ true → is_some (option_map (λ e. at blob e.0) o) ≡ true
    cases None none = cc none
    cases (Some e) _ = refl

  snap_is : (snapshot : Id) (bytes : List ℕ) → HasFile r Snapshot snapshot bytes → snap_in r snapshot ≡ snap_read (Some bytes)
  snap_is snapshot bytes file = snap_by r snapshot ∙ ap snap_read (file_is r Snapshot snapshot ∙ file)

  whole_of_sound : IsSound r → IsWhole restic r
  whole_of_sound sound snapshot root bytes blob file is reaches = has_text blob (sound snapshot blob (cases (snap_read (Some bytes)) (snap_is snapshot bytes file) is)) where
    cases : (o : Option SnapData) → snap_in r snapshot ≡ o → option_map (λ (s : SnapData). s.tree) o ≡ Some root → Owes r snapshot blob
    cases None there e = cc e
    cases (Some snap) there e =
        let tree : root ≡ snap.tree = cc e in
        subst (λ o. IsSomeAnd o (λ s. by_places.Reaches (named_by r) most_levels (root_of s) blob)) (sym there)
        (reached_by_place most_levels (root_of snap) blob (subst (λ t. Reaches restic r most_levels (tree_at t) blob) tree reaches))

  sound_of_whole : IsWhole restic r → IsSound r
  sound_of_whole whole snapshot blob owes = cases (snap_in r snapshot) refl owes where
    cases : (o : Option SnapData) → snap_in r snapshot ≡ o → IsSomeAnd o (λ s. by_places.Reaches (named_by r) most_levels (root_of s) blob) → IsSome (chosen r blob)
    cases None is none = absurd none
    cases (Some snap) is reaches =
        let read : is_some (snap_read (finite.get r.files (named Snapshot snapshot))) ≡ true =
        ap (λ o. is_some (snap_read o)) (sym (file_is r Snapshot snapshot)) ∙ ap is_some (sym (snap_by r snapshot) ∙ is) in
        let file = something (λ o. is_some (snap_read o)) refl (finite.get r.files (named Snapshot snapshot)) read in
        let root : option_map (λ (s : SnapData). s.tree) (snap_read (Some file.0)) ≡ Some snap.tree =
        ap (option_map (λ (s : SnapData). s.tree)) (sym (snap_is snapshot file.0 file.1) ∙ is) in
        let text = whole snapshot snap.tree file.0 blob file.1 root (reached_by_text most_levels (root_of snap) blob reaches) in
        is_chosen blob text.0 text.1

pub sound_is_whole : LeastIsChosen → SoundIsWhole
sound_is_whole least r all part one = (whole_of_sound least r all part one, sound_of_whole least r all part one)
