-- One more use of a blob where it is.
use Rattle.std.proofs.Common.{◌≡◌, ◌||◌, List, [], ◌∷◌, ◌++◌, Option, None, Some, map, ap, sym, ◌∙◌}
use Rattle.std.specs.BTreeSet.{contains}
use Rattle.std.specs.List.{cons_option, flat_map, list_any}
use Rattle.std.specs.Ordering.{eq_by_cmp}
use Rattle.std.proofs.lemmas.Grind.{flat_map-append}
use Rattle.std.proofs.lemmas.List.{append-nil, map-append}
use Rattle.std.proofs.lemmas.List.Elements.{filter_map-append}
use Rattle.std.proofs.lemmas.List.Folds.{list_any-append}
use Rattle.keep_names.specs.Orders.{id_cmp, name_cmp}
use Rattle.keep_names.specs.declared.blob.BlobId.{BlobId}
use Rattle.keep_names.specs.declared.file_name.FileName.{FileName}
use Rattle.keep_names.specs.declared.id.Id.{Id}
use Rattle.keep_repo.specs.Repository.{Repository}
use Rattle.keep_catalog.specs.Places.{reuse_of}
use Rattle.keep_plan.specs.Reuse.{RestOn, reused_files, reused_packs, uses_of}
use Rattle.keep_plan.specs.Files.{files_used}
use Rattle.keep_plan.specs.declared.reuses.Reuses.{Reuses}

module _ (r : Repository) (blobs : List BlobId) (blob : BlobId) where
  uses-append : (o : Option (Id × Id)) → reuse_of r blob ≡ o → uses_of r (blobs ++ blob ∷ []) ≡ uses_of r blobs ++ cons_option o []
  uses-append o is = filter_map-append (reuse_of r) blobs (blob ∷ []) ∙ ap (λ x. uses_of r blobs ++ cons_option x []) is

  pub files_more : (pair : Id × Id) → reuse_of r blob ≡ Some pair → reused_files r (blobs ++ blob ∷ []) ≡ reused_files r blobs ++ files_used pair
  unfolding reused_files
  files_more pair some =
      ap (flat_map files_used) (uses-append (Some pair) some)
      ∙ flat_map-append files_used (uses_of r blobs) (pair ∷ [])
      ∙ ap (λ fs. flat_map files_used (uses_of r blobs) ++ fs) (append-nil (files_used pair))

  pub packs_more : (pair : Id × Id) → reuse_of r blob ≡ Some pair → reused_packs r (blobs ++ blob ∷ []) ≡ reused_packs r blobs ++ pair.0 ∷ []
  unfolding reused_packs
  packs_more pair some =
      ap (map (λ pair. pair.0)) (uses-append (Some pair) some)
      ∙ map-append (λ pair. pair.0) (uses_of r blobs) (pair ∷ [])

  pub one_more_used : (pair : Id × Id) (old new : Reuses) (pack_file index_file : FileName) → pack_file ∷ index_file ∷ [] ≡ files_used pair → reuse_of r blob ≡ Some pair
      → ((name : FileName) → contains name_cmp new.present name ≡ (contains name_cmp old.present name || list_any (eq_by_cmp name_cmp name) (pack_file ∷ index_file ∷ [])))
      → ((pack : Id) → contains id_cmp new.unmarked pack ≡ (contains id_cmp old.unmarked pack || list_any (eq_by_cmp id_cmp pack) (pair.0 ∷ [])))
      → RestOn r blobs old → RestOn r (blobs ++ blob ∷ []) new
  one_more_used pair old new pack_file index_file used is files packs rests = record {
    files = λ name. files name ∙ ap (λ fs. contains name_cmp old.present name || list_any (eq_by_cmp name_cmp name) fs) used ∙ ap (λ t. t || list_any (eq_by_cmp name_cmp name) (files_used pair)) (rests.files name)
        ∙ sym (ap (list_any (eq_by_cmp name_cmp name)) (files_more pair is) ∙ list_any-append (eq_by_cmp name_cmp name) (reused_files r blobs) (files_used pair));
    packs = λ pack. packs pack ∙ ap (λ t. t || list_any (eq_by_cmp id_cmp pack) (pair.0 ∷ [])) (rests.packs pack)
        ∙ sym (ap (list_any (eq_by_cmp id_cmp pack)) (packs_more pair is) ∙ list_any-append (eq_by_cmp id_cmp pack) (reused_packs r blobs) (pair.0 ∷ []));
  }

  -- a blob that has no place rests on nothing
  pub none_more_used : (reuses : Reuses) → reuse_of r blob ≡ None → RestOn r blobs reuses → RestOn r (blobs ++ blob ∷ []) reuses
  unfolding reused_files reused_packs
  none_more_used reuses none rests =
      let same : uses_of r (blobs ++ blob ∷ []) ≡ uses_of r blobs = uses-append None none ∙ append-nil (uses_of r blobs) in
      record {
        files = λ name. rests.files name ∙ sym (ap (λ uses. list_any (eq_by_cmp name_cmp name) (flat_map files_used uses)) same);
        packs = λ pack. rests.packs pack ∙ sym (ap (λ (uses : List (Id × Id)). list_any (eq_by_cmp id_cmp pack) (map (λ pair. pair.0) uses)) same);
      }
