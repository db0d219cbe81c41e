-- What the chosen place of a blob rests on is there.
use Rattle.std.proofs.Common.{◌≡◌, ℕ, true, false, List, [], ◌∷◌, map, Option, None, Some, is_some, refl, subst}
use Rattle.std.specs.FinMap.{get}
use Rattle.std.specs.List.{AllByRecursion, cons_option, flat_map}
use Rattle.std.specs.Option.{option_and_then, option_map, option_map_or}
use Rattle.keep_catalog.proofs.Least.{chosen_so}
use Rattle.keep_catalog.specs.Chosen.{IsChosen}
use Rattle.keep_catalog.specs.Files.{file_in, index_of, what_is_read}
use Rattle.keep_catalog.specs.Places.{at, bytes_at, chosen_listing, has_id, is_among, is_unmarked, listed_in, listed_of, reuse_of, slice_of}
use Rattle.keep_catalog.specs.declared.spot.Spot.{Spot}
use Rattle.keep_names.specs.FileName.{named}
use Rattle.keep_names.specs.declared.blob.BlobId.{BlobId}
use Rattle.keep_names.specs.declared.file_name.Kind.TheVariants.{Index, Pack}
use Rattle.keep_names.specs.declared.id.Id.{Id}
use Rattle.keep_repo.specs.Repository.{Repository}
use Rattle.keep_plan.specs.Reuse.{reused_files, reused_packs, uses_of}
use Rattle.keep_plan.specs.Files.{files_used}
use Rattle.keep_plan.specs.Storing.{is_there}

module _ (r : Repository) where
  -- ---- an index that lists a place is there

  index_there : (blob : BlobId) (spot : Spot) (index : Id) → is_among (listed_in r index) (at blob spot) ≡ true → is_there r (named Index index) ≡ true
  unfolding listed_in file_in
  index_there blob spot index listed = cases (get r.files (named Index index)) listed where
    cases : (o : Option (List ℕ)) → is_among (flat_map listed_of (what_is_read (option_map index_of o))) (at blob spot) ≡ true → is_some o ≡ true
    cases None h = cc h
    cases (Some bytes) h = refl

  -- ---- the pack of an honest place is there

  pack_there : (blob : BlobId) (spot : Spot) → option_map_or (has_id blob.id) (bytes_at r spot) false ≡ true → is_there r (named Pack spot.pack) ≡ true
  unfolding bytes_at file_in
  pack_there blob spot honest = cases (get r.files (named Pack spot.pack)) honest where
    cases : (o : Option (List ℕ)) → option_map_or (has_id blob.id) (option_and_then (slice_of spot.offset spot.length) o) false ≡ true → is_some o ≡ true
    cases None h = cc h
    cases (Some bytes) h = refl

  -- ---- the three together

  abbrev AreGrounds : Id × Id → Type 0
  AreGrounds pair =
      (is_there r (named Pack pair.0) ≡ true) × (is_there r (named Index pair.1) ≡ true) × (is_unmarked r pair.0 ≡ true)

  pub grounds_there : (blob : BlobId) (pair : Id × Id) → reuse_of r blob ≡ Some pair → AreGrounds pair
  grounds_there blob pair is = cases (chosen_listing r blob) (chosen_so r blob) is where
    cases : (o : Option (Spot × Id)) → IsChosen r blob o → option_map (λ (e : Spot × Id). (e.0.pack, e.1)) o ≡ Some pair → AreGrounds pair
    cases None chosen h = cc h
    cases (Some e) chosen h =
        let same : (e.0.pack, e.1) ≡ pair = cc h in
        subst AreGrounds same (pack_there blob e.0 chosen.place.honest, index_there blob e.0 e.1 chosen.place.listed, chosen.place.unmarked)

  pub reused_there : (used : List BlobId) → AllByRecursion (λ name. is_there r name ≡ true) (reused_files r used)
  unfolding reused_files
  reused_there [] = tt
  reused_there (blob ∷ used) = cases (reused_there used) (reuse_of r blob) refl where
    cases : AllByRecursion (λ name. is_there r name ≡ true) (flat_map files_used (uses_of r used)) → (o : Option (Id × Id)) → reuse_of r blob ≡ o
        → AllByRecursion (λ name. is_there r name ≡ true) (flat_map files_used (cons_option o (uses_of r used)))
    cases later None is = later
    cases later (Some pair) is =
        let so = grounds_there blob pair is in
        (so.0, (so.1, later))

  pub reused_free : (used : List BlobId) → AllByRecursion (λ pack. is_unmarked r pack ≡ true) (reused_packs r used)
  unfolding reused_packs
  reused_free [] = tt
  reused_free (blob ∷ used) = cases (reused_free used) (reuse_of r blob) refl where
    cases : AllByRecursion (λ pack. is_unmarked r pack ≡ true) (map (λ (pair : Id × Id). pair.0) (uses_of r used)) → (o : Option (Id × Id)) → reuse_of r blob ≡ o
        → AllByRecursion (λ pack. is_unmarked r pack ≡ true) (map (λ (pair : Id × Id). pair.0) (cons_option o (uses_of r used)))
    cases later None is = later
    cases later (Some pair) is = ((grounds_there blob pair is).2, later)
