-- A careful change keeps a repository sound.
use Rattle.std.proofs.Common.{◌≡◌, ◌⊎◌, inl, inr, Bool, true, false, List, Some, refl, sym, ap, subst, ◌∙◌, true≢false}
use Rattle.std.specs.FinMap as finite
use Rattle.std.specs.List.{All, Any}
use Rattle.keep_names.specs.declared.blob.BlobId.{BlobId}
use Rattle.keep_names.specs.declared.file_name.Kind.TheVariants.{Pack, Index, Snapshot}
use Rattle.keep_names.specs.declared.id.Id.{Id}
use Rattle.keep_repo.specs.Repository.{Repository, is_filled}
use Rattle.keep_repo.specs.declared.facet.Facet.TheVariants.{Mark}
use Rattle.keep_change.specs.Filling.{FacetsFollow, FilesComeFrom, Follows, asks_empty, empties, fills, finds_filled}
use Rattle.keep_change.specs.Result.{result_of}
use Rattle.keep_change.specs.declared.change.Change.{Change}
use Rattle.keep_reach.specs.Snapshots.{Owes}
use Rattle.keep_catalog.specs.declared.spot.Spot.{Spot}
use Rattle.keep_sound.specs.Careful.{AreKnown, CarefulIsSafe, GivesPlace, IsCareful, ListedElsewhere, OwedByNeeded, SoundByNames}
use Rattle.keep_sound.specs.Met.{AddsPart, IsIn, IsPartOf}
use Rattle.keep_sound.specs.Standing.{HasPlace, IsSoundIn, Stands, file_facet}

clash : {A : Type 0} (b : Bool) → b ≡ true → b ≡ false → A
clash b holds fails = absurd (true≢false (sym holds ∙ fails))

module _ (all : Repository) (known : Id → Bool) (c : Change) (r : Repository) (follows : Follows c r) where
  -- what the change gives stands after it
  given_after : (blob : BlobId) → GivesPlace all c blob → HasPlace all (result_of c r) blob
  given_after blob gives = (
    gives.0,
    gives.1,
    record {
      supports = gives.2.supports;
      has_pack = follows.left (file_facet Pack gives.0.pack) gives.2.has_pack;
      has_index = follows.left (file_facet Index gives.1) gives.2.has_index;
      free = follows.emptied (Mark gives.0.pack) gives.2.free;
    },
  )

  -- a mark that wasn't there and isn't set isn't there after it
  free_after : (pack : Id) → is_filled r (Mark pack) ≡ false → fills c (Mark pack) ≡ false → is_filled (result_of c r) (Mark pack) ≡ false
  free_after pack free unset = cases (is_filled (result_of c r) (Mark pack)) refl where
    cases : (b : Bool) → is_filled (result_of c r) (Mark pack) ≡ b → b ≡ false
    cases true there = clash (fills c (Mark pack)) (follows.new (Mark pack) free there) unset
    cases false _ = refl

  module _ (careful : IsCareful all known c) where
    -- a place whose pack gets no mark and isn't dropped stands by its own index, or by another
    stays : (blob : BlobId) (spot : Spot) (index : Id) → Stands all r blob spot index → is_filled (result_of c r) (Mark spot.pack) ≡ false → is_filled (result_of c r) (file_facet Pack spot.pack) ≡ true → HasPlace all (result_of c r) blob
    stays blob spot index stands free has_pack = cases (empties c (file_facet Index index)) refl where
      by_other : ListedElsewhere all c blob spot → HasPlace all (result_of c r) blob
      by_other other = (
        spot,
        other.0,
        record {
          supports = other.2;
          has_pack = has_pack;
          has_index = follows.left (file_facet Index other.0) other.1;
          free = free;
        },
      )

      relisted : (asks_empty c (file_facet Pack spot.pack) ≡ true) ⊎ ((finds_filled c (Mark spot.pack) ≡ true) ⊎ ListedElsewhere all c blob spot) → HasPlace all (result_of c r) blob
      relisted (inl absent) = clash (is_filled r (file_facet Pack spot.pack)) stands.has_pack (follows.absent (file_facet Pack spot.pack) absent)
      relisted (inr (inl marked)) = clash (is_filled r (Mark spot.pack)) (follows.found (Mark spot.pack) marked) stands.free
      relisted (inr (inr other)) = by_other other

      cases : (b : Bool) → empties c (file_facet Index index) ≡ b → HasPlace all (result_of c r) blob
      cases true dropped = relisted (careful.indexes index dropped blob spot stands.supports)
      cases false kept = (
        spot,
        index,
        record {
          supports = stands.supports;
          has_pack = has_pack;
          has_index = follows.stays (file_facet Index index) stands.has_index kept;
          free = free;
        },
      )

    -- a dropped pack was marked
    pack_after : (blob : BlobId) (spot : Spot) (index : Id) → Stands all r blob spot index → is_filled (result_of c r) (file_facet Pack spot.pack) ≡ true
    pack_after blob spot index stands = cases (empties c (file_facet Pack spot.pack)) refl where
      cases : (b : Bool) → empties c (file_facet Pack spot.pack) ≡ b → is_filled (result_of c r) (file_facet Pack spot.pack) ≡ true
      cases true dropped = clash (is_filled r (Mark spot.pack)) (follows.found (Mark spot.pack) (careful.packs spot.pack dropped)) stands.free
      cases false kept = follows.stays (file_facet Pack spot.pack) stands.has_pack kept

    -- what a known snapshot that was there reaches stands after the change
    kept : (snapshot : Id) → known snapshot ≡ true → is_filled r (file_facet Snapshot snapshot) ≡ true → (blob : BlobId) → Owes all snapshot blob → HasPlace all r blob → HasPlace all (result_of c r) blob
    kept snapshot is_known there blob owes place = cases (fills c (Mark place.0.pack)) refl where
      given_known : (asks_empty c (file_facet Snapshot snapshot) ≡ true) ⊎ ((b : BlobId) → Owes all snapshot b → GivesPlace all c b) → HasPlace all (result_of c r) blob
      given_known (inl absent) = clash (is_filled r (file_facet Snapshot snapshot)) there (follows.absent (file_facet Snapshot snapshot) absent)
      given_known (inr gives) = given_after blob (gives blob owes)

      cases : (b : Bool) → fills c (Mark place.0.pack) ≡ b → HasPlace all (result_of c r) blob
      cases true marks = given_known (careful.marks place.0.pack marks snapshot is_known)
      cases false unset = stays blob place.0 place.1 place.2 (free_after place.0.pack place.2.free unset) (pack_after blob place.0 place.1 place.2)

    pub careful_keeps_sound : AreKnown known r → IsSoundIn all r → IsSoundIn all (result_of c r)
    careful_keeps_sound are_known sound snapshot after blob owes = cases (is_filled r (file_facet Snapshot snapshot)) refl where
      old : (s : Id) → is_filled r (file_facet Snapshot s) ≡ true → Owes all s blob → HasPlace all (result_of c r) blob
      old s there reaches = kept s (are_known s there) there blob reaches (sound s there blob reaches)

      added : GivesPlace all c blob ⊎ OwedByNeeded all c blob → HasPlace all (result_of c r) blob
      added (inl gives) = given_after blob gives
      added (inr needed) = old needed.0 (follows.found (file_facet Snapshot needed.0) needed.1) needed.2

      cases : (b : Bool) → is_filled r (file_facet Snapshot snapshot) ≡ b → HasPlace all (result_of c r) blob
      cases true there = old snapshot there owes
      cases false new = added (careful.covers snapshot (follows.new (file_facet Snapshot snapshot) new after) blob owes)

-- ---- the files of a result are all met

all_and_any : {X : Type 0} (P Q : X → Type 0) (xs : List X) → All P xs → Any Q xs → (x : X) × P x × Q x
all_and_any P Q xs each found = (found.1, subst P found.3 (each found.0 found.1 found.2), found.4)

pub part_after : FilesComeFrom → (all : Repository) (c : Change) (r : Repository) → AddsPart all c → IsPartOf r all → IsPartOf (result_of c r) all
part_after come all c r adds part name bytes after = cases (come c r name bytes after) where
  cases : (finite.get r.files name ≡ Some bytes) ⊎ Any (λ f. (f.name ≡ name) × (f.bytes ≡ bytes)) c.adds → finite.get all.files name ≡ Some bytes
  cases (inl there) = part name bytes there
  cases (inr added) =
      let f = all_and_any (IsIn all) (λ g. (g.name ≡ name) × (g.bytes ≡ bytes)) c.adds adds added in
      sym (ap (finite.get all.files) f.2.0) ∙ f.1 ∙ ap Some f.2.1

pub careful_is_safe : SoundByNames → FacetsFollow → FilesComeFrom → CarefulIsSafe
careful_is_safe by_names follow come all known c one once adds careful r part are_known met sound =
    let by = by_names r all part one in
    let after = by_names (result_of c r) all (part_after come all c r adds part) one in
    after.1 (careful_keeps_sound all known c r (follow c r once met) careful are_known (by.0 sound))
