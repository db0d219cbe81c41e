-- A blob has a chosen place in a part just where it stands there by the bytes of all files.
use Rattle.std.proofs.Common.{◌≡◌, true, Option, None, Some, refl, sym, subst, ◌∙◌}
use Rattle.std.specs.Prelude.{IsSome, is_some, option_map}
use Rattle.keep_names.specs.declared.blob.BlobId.{BlobId}
use Rattle.keep_names.specs.declared.file_name.Kind.TheVariants.{Pack, Index}
use Rattle.keep_names.specs.declared.id.Id.{Id}
use Rattle.keep_repo.specs.Repository.{Repository}
use Rattle.keep_catalog.specs.Chosen.{IsChosen, IsUsablePlace}
use Rattle.keep_catalog.specs.Places.{at, chosen, chosen_listing}
use Rattle.keep_catalog.specs.declared.spot.Spot.{Spot}
use Rattle.keep_sound.specs.Met.{HasOneText, IsPartOf}
use Rattle.keep_sound.specs.Standing.{HasPlace, Stands, Supports}
use Rattle.keep_sound.proofs.Parts.{filled_from, free_from, has_blob_at, honest_by, listed_by, lists_at, part_back, part_carries, stored_by, stores_at, unmarked_from}

-- the law of the chosen place
abbrev pub LeastIsChosen : Type 0
LeastIsChosen = (r : Repository) (blob : BlobId) → IsChosen r blob (chosen_listing r blob)

module _ (r all : Repository) (part : IsPartOf r all) where
  -- what lists, has and holds a blob in a part does so among all files
  pub supports_from : (blob : BlobId) (spot : Spot) (index : Id) → IsUsablePlace r blob spot index → Supports all blob spot index
  supports_from blob spot index place = record {
    listed = listed_by all index (at blob spot) ∙ part_carries r all part (lists_at (at blob spot)) refl Index index (sym (listed_by r index (at blob spot)) ∙ place.listed);
    stored = stored_by all (at blob spot) ∙ part_carries r all part (stores_at (at blob spot)) refl Pack spot.pack (sym (stored_by r (at blob spot)) ∙ place.stored);
    honest = honest_by all blob spot ∙ part_carries r all part (has_blob_at blob spot) refl Pack spot.pack (sym (honest_by r blob spot) ∙ place.honest);
  }

  pub stands_from : (blob : BlobId) (spot : Spot) (index : Id) → IsUsablePlace r blob spot index → Stands all r blob spot index
  stands_from blob spot index place = record {
    supports = supports_from blob spot index place;
    has_pack = filled_from r (has_blob_at blob spot) refl Pack spot.pack (sym (honest_by r blob spot) ∙ place.honest);
    has_index = filled_from r (lists_at (at blob spot)) refl Index index (sym (listed_by r index (at blob spot)) ∙ place.listed);
    free = free_from r spot.pack place.unmarked;
  }

  pub opens_from : (blob : BlobId) (spot : Spot) (index : Id) → Stands all r blob spot index → IsUsablePlace r blob spot index
  opens_from blob spot index stands = record {
    listed = listed_by r index (at blob spot) ∙ part_back r all part (lists_at (at blob spot)) Index index stands.has_index (sym (listed_by all index (at blob spot)) ∙ stands.supports.listed);
    stored = stored_by r (at blob spot) ∙ part_back r all part (stores_at (at blob spot)) Pack spot.pack stands.has_pack (sym (stored_by all (at blob spot)) ∙ stands.supports.stored);
    honest = honest_by r blob spot ∙ part_back r all part (has_blob_at blob spot) Pack spot.pack stands.has_pack (sym (honest_by all blob spot) ∙ stands.supports.honest);
    unmarked = unmarked_from r spot.pack stands.free;
  }

pub chosen_listed : (r : Repository) (blob : BlobId) → IsSome (chosen r blob) → is_some (chosen_listing r blob) ≡ true
chosen_listed r blob there = cases (chosen_listing r blob) there where
  cases : (o : Option (Spot × Id)) → is_some (option_map (λ e. at blob e.0) o) ≡ true → is_some o ≡ true
  cases None none = cc none
  cases (Some e) _ = refl

module _ (least : LeastIsChosen) where
  -- a chosen place is an open one
  pub open_of_chosen : (r : Repository) (blob : BlobId) (e : Spot × Id) → chosen_listing r blob ≡ Some e → IsUsablePlace r blob e.0 e.1
  open_of_chosen r blob e is = let C : Option (Spot × Id) → Type 0 = IsChosen r blob in open_of (subst C is (least r blob)) where
    open_of : IsChosen r blob (Some e) → IsUsablePlace r blob e.0 e.1
    open_of place = place.place

  -- where one is open, one is chosen
  pub chosen_of_open : (r : Repository) (blob : BlobId) (spot : Spot) (index : Id) → IsUsablePlace r blob spot index → is_some (chosen_listing r blob) ≡ true
  chosen_of_open r blob spot index place = cases (chosen_listing r blob) (least r blob) where
    cases : (o : Option (Spot × Id)) → IsChosen r blob o → is_some o ≡ true
    cases None none = absurd (none spot index place)
    cases (Some e) _ = refl

  module _ (r all : Repository) (part : IsPartOf r all) where
    pub place_of_chosen : (blob : BlobId) → IsSome (chosen r blob) → HasPlace all r blob
    place_of_chosen blob there = cases (chosen_listing r blob) refl there where
      cases : (o : Option (Spot × Id)) → chosen_listing r blob ≡ o → is_some (option_map (λ e. at blob e.0) o) ≡ true → HasPlace all r blob
      cases None _ none = cc none
      cases (Some e) is _ = (e.0, e.1, stands_from r all part blob e.0 e.1 (open_of_chosen r blob e is))

    pub chosen_of_place : (blob : BlobId) → HasPlace all r blob → IsSome (chosen r blob)
    chosen_of_place blob place = cases (chosen_listing r blob) (chosen_of_open r blob place.0 place.1 (opens_from r all part blob place.0 place.1 place.2)) where
      cases : (o : Option (Spot × Id)) → is_some o ≡ true → is_some (option_map (λ e. at blob e.0) o) ≡ true
      cases None none = cc none
      cases (Some e) _ = refl

  -- what all files support, they have a chosen place of
  pub chosen_of_support : (all : Repository) → HasOneText all → (blob : BlobId) (spot : Spot) (index : Id) → Supports all blob spot index → is_some (chosen_listing all blob) ≡ true
  chosen_of_support all one blob spot index supports = chosen_of_open all blob spot index place where
    place : IsUsablePlace all blob spot index
    place = record { listed = supports.listed; stored = supports.stored; honest = supports.honest; unmarked = one.unmarked spot.pack }
