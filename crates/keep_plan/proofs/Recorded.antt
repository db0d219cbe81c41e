-- Each use of a blob where it is is recorded.
use Rattle.std.proofs.Common.{◌≡◌, Bool, true, false, ◌||◌, List, [], ◌∷◌, ◌++◌, map, Option, None, Some, Ordering, refl, sym, ap, ◌∙◌}
use Rattle.std.specs.Cmp.{IsTotalOrder, tied_itself}
use Rattle.std.specs.List.{cons_option, flat_map, list_any}
use Rattle.std.specs.Option.{option_map}
use Rattle.std.specs.Ordering.{eq_by_cmp, is_eq}
use Rattle.std.proofs.lemmas.Bool.{or_left, or_right}
use Rattle.std.proofs.lemmas.List.Folds.{list_any-append}
use Rattle.std.proofs.lemmas.Map.Views.{tells_apart}
use Rattle.keep_catalog.specs.Ordered.{in_order}
use Rattle.keep_catalog.specs.Orders.{blob_eq}
use Rattle.keep_catalog.specs.Places.{chosen_listing, reuse_of}
use Rattle.keep_catalog.specs.declared.spot.Spot.{Spot}
use Rattle.keep_catalog.proofs.Ordered.{in_order-same}
use Rattle.keep_change.specs.NamedBytes.{NamedBytes}
use Rattle.keep_names.proofs.Orders.{blob_exact, id_total, name_total}
use Rattle.keep_names.specs.FileName.{named}
use Rattle.keep_names.specs.Orders.{id_cmp, name_cmp}
use Rattle.keep_names.specs.declared.blob.BlobId.{BlobId}
use Rattle.keep_names.specs.declared.file_name.FileName.{FileName}
use Rattle.keep_names.specs.declared.file_name.Kind.TheVariants.{Index, Pack}
use Rattle.keep_names.specs.declared.id.Id.{Id}
use Rattle.keep_repo.specs.Repository.{Repository}
use Rattle.keep_plan.specs.Files.{files_used}
use Rattle.keep_plan.specs.Reuse.{reused_files, reused_packs, uses_of}
use Rattle.keep_plan.specs.Storing.{RecordsUse, names_there, packs_among, stored_built, unmarked_of}

-- what is among keys is among them and others, in order
module _ {K : Type 0} {R : K → K → Ordering} (total : IsTotalOrder R) where
  pub among_first : (q : K) (xs ys : List K) → list_any (eq_by_cmp R q) xs ≡ true → list_any (eq_by_cmp R q) (in_order R (xs ++ ys)) ≡ true
  among_first q xs ys h =
      in_order-same total q (xs ++ ys) ∙ list_any-append (eq_by_cmp R q) xs ys ∙ or_left (list_any (eq_by_cmp R q) xs) (list_any (eq_by_cmp R q) ys) h

  pub among_second : (q : K) (xs ys : List K) → list_any (eq_by_cmp R q) ys ≡ true → list_any (eq_by_cmp R q) (in_order R (xs ++ ys)) ≡ true
  among_second q xs ys h =
      in_order-same total q (xs ++ ys) ∙ list_any-append (eq_by_cmp R q) xs ys ∙ or_right (list_any (eq_by_cmp R q) xs) (list_any (eq_by_cmp R q) ys) h

itself : {K : Type 0} {R : K → K → Ordering} → IsTotalOrder R → (q : K) → eq_by_cmp R q q ≡ true
itself total q = ap is_eq (tied_itself total q)

module _ (r : Repository) (blob : BlobId) (pair : Id × Id) (is : reuse_of r blob ≡ Some pair) where
  -- what one use rests on is among what all uses rest on
  among_files : (name : FileName) → list_any (eq_by_cmp name_cmp name) (files_used pair) ≡ true → (used : List BlobId) → list_any (blob_eq blob) used ≡ true → list_any (eq_by_cmp name_cmp name) (reused_files r used) ≡ true
  unfolding reused_files
  among_files name here [] h = cc h
  among_files name here (b ∷ used) h = cases (among_files name here used) (blob_eq blob b) refl h where
    later : List FileName
    later = flat_map files_used (uses_of r used)

    behind : (o : Option (Id × Id)) → list_any (eq_by_cmp name_cmp name) later ≡ true → list_any (eq_by_cmp name_cmp name) (flat_map files_used (cons_option o (uses_of r used))) ≡ true
    behind None rest = rest
    behind (Some other) rest = list_any-append (eq_by_cmp name_cmp name) (files_used other) later ∙ or_right (list_any (eq_by_cmp name_cmp name) (files_used other)) (list_any (eq_by_cmp name_cmp name) later) rest

    first : (o : Option (Id × Id)) → o ≡ Some pair → list_any (eq_by_cmp name_cmp name) (flat_map files_used (cons_option o (uses_of r used))) ≡ true
    first o some =
        ap (λ (p : Option (Id × Id)). list_any (eq_by_cmp name_cmp name) (flat_map files_used (cons_option p (uses_of r used)))) some
        ∙ list_any-append (eq_by_cmp name_cmp name) (files_used pair) later ∙ or_left (list_any (eq_by_cmp name_cmp name) (files_used pair)) (list_any (eq_by_cmp name_cmp name) later) here

    cases : (list_any (blob_eq blob) used ≡ true → list_any (eq_by_cmp name_cmp name) later ≡ true) → (t : Bool) → blob_eq blob b ≡ t → (t || list_any (blob_eq blob) used) ≡ true
        → list_any (eq_by_cmp name_cmp name) (flat_map files_used (cons_option (reuse_of r b) (uses_of r used))) ≡ true
    cases rest true same _ = first (reuse_of r b) (ap (reuse_of r) (sym (tells_apart blob_exact blob b same)) ∙ is)
    cases rest false other found = behind (reuse_of r b) (rest found)

  among_packs : (used : List BlobId) → list_any (blob_eq blob) used ≡ true → list_any (eq_by_cmp id_cmp pair.0) (reused_packs r used) ≡ true
  unfolding reused_packs
  among_packs [] h = cc h
  among_packs (b ∷ used) h = cases (among_packs used) (blob_eq blob b) refl h where
    later : List Id
    later = map (λ (p : Id × Id). p.0) (uses_of r used)

    behind : (o : Option (Id × Id)) → list_any (eq_by_cmp id_cmp pair.0) later ≡ true → list_any (eq_by_cmp id_cmp pair.0) (map (λ (p : Id × Id). p.0) (cons_option o (uses_of r used))) ≡ true
    behind None rest = rest
    behind (Some other) rest = or_right (eq_by_cmp id_cmp pair.0 other.0) (list_any (eq_by_cmp id_cmp pair.0) later) rest

    first : (o : Option (Id × Id)) → o ≡ Some pair → list_any (eq_by_cmp id_cmp pair.0) (map (λ (p : Id × Id). p.0) (cons_option o (uses_of r used))) ≡ true
    first o some =
        ap (λ (p : Option (Id × Id)). list_any (eq_by_cmp id_cmp pair.0) (map (λ (p : Id × Id). p.0) (cons_option p (uses_of r used)))) some
        ∙ or_left (eq_by_cmp id_cmp pair.0 pair.0) (list_any (eq_by_cmp id_cmp pair.0) later) (itself id_total pair.0)

    cases : (list_any (blob_eq blob) used ≡ true → list_any (eq_by_cmp id_cmp pair.0) later ≡ true) → (t : Bool) → blob_eq blob b ≡ t → (t || list_any (blob_eq blob) used) ≡ true
        → list_any (eq_by_cmp id_cmp pair.0) (map (λ (p : Id × Id). p.0) (cons_option (reuse_of r b) (uses_of r used))) ≡ true
    cases rest true same _ = first (reuse_of r b) (ap (reuse_of r) (sym (tells_apart blob_exact blob b same)) ∙ is)
    cases rest false other found = behind (reuse_of r b) (rest found)

pub use_recorded : (r : Repository) (used : List BlobId) (built : List NamedBytes) (blob : BlobId) (place : Spot × Id) → list_any (blob_eq blob) used ≡ true
    → chosen_listing r blob ≡ Some place → RecordsUse (stored_built r used built) place
unfolding stored_built
use_recorded r used built blob place among chosen =
    let pair : Id × Id = (place.0.pack, place.1) in
    let is : reuse_of r blob ≡ Some pair = ap (option_map (λ (e : Spot × Id). (e.0.pack, e.1))) chosen in
    let pack_name = named Pack place.0.pack in
    let index_name = named Index place.1 in
    record {
      pack = among_first name_total pack_name (reused_files r used) (names_there r built)
          (among_files r blob pair is pack_name (or_left (eq_by_cmp name_cmp pack_name pack_name) _ (itself name_total pack_name)) used among);
      index = among_first name_total index_name (reused_files r used) (names_there r built)
          (among_files r blob pair is index_name (or_right (eq_by_cmp name_cmp index_name pack_name) _ (or_left (eq_by_cmp name_cmp index_name index_name) _ (itself name_total index_name))) used among);
      mark = among_first id_total place.0.pack (reused_packs r used) (unmarked_of r (packs_among built)) (among_packs r blob pair is used among);
    }
