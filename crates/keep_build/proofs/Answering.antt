-- What `store` answers, by what was offered and what was refused.
use Rattle.std.proofs.Common.{◌≡◌, ℕ, ◌<◌, true, false, cond, List, [], length, map, get_or, Option, None, Some, Ok, Err, option_map, slice_get, refl, sym, ap, subst, ◌∙◌, arith}
use Rattle.std.specs.Global.{Vec}
use Rattle.std.specs.List.{list_any}
use Rattle.std.proofs.lemmas.List.{get_or-map, length-map}
use Rattle.std.proofs.lemmas.List.Folds.{list_any_at}
use Rattle.keep_names.specs.declared.blob.BlobType.{BlobType}
use Rattle.keep_repo.specs.Repository.{Repository}
use Rattle.keep_catalog.specs.Files.{unread_in}
use Rattle.keep_catalog.specs.declared.catalog_error.CatalogError.{CatalogError}
use Rattle.keep_catalog.specs.declared.catalog_error.CatalogError.TheVariants as the_catalog_error
use Rattle.keep_catalog.specs.declared.unread.Unread.{Unread}
use Rattle.keep_build.specs.Blobs.{BlobData, is_full}
use Rattle.keep_plan.specs.Refusal.{of_catalog}
use Rattle.keep_plan.specs.Refusal.{unless, unread_first}
use Rattle.keep_build.specs.Stored.{store_of, stored_of, stored_short, stored_with}
use Rattle.keep_build.specs.Storing.{Keeps, given}
use Rattle.keep_plan.specs.declared.plan_error.PlanError.{PlanError}
use Rattle.keep_plan.specs.declared.plan_error.PlanError.TheVariants as the_error
use Rattle.keep_plan.specs.declared.stored.Stored.{Stored}
use Rattle.keep_build.specs.declared.storing.Storing.{Storing}

module _ (r : Repository) (blobs : List BlobData) where
  all_read : unread_in r ≡ [] → unread_first r ≡ None
  all_read none = ap (λ (us : List Unread). option_map the_error.Unread (slice_get us 0)) none

  read_past : unread_in r ≡ [] → store_of r blobs ≡ stored_short r blobs
  unfolding store_of
  read_past none = ap (λ (o : Option PlanError). unless o (stored_short r blobs)) (all_read none)

  pub stored_is : (stored : Stored) → unread_in r ≡ [] → list_any is_full blobs ≡ false → stored ≡ stored_of r blobs → store_of r blobs ≡ Ok stored
  stored_is stored none fits is = read_past none ∙ ap (λ t. cond t (Err the_error.Full) (Ok (stored_of r blobs))) fits ∙ ap Ok (sym is)

  pub full_is : unread_in r ≡ [] → list_any is_full blobs ≡ true → store_of r blobs ≡ Err the_error.Full
  full_is none full = read_past none ∙ ap (λ t. cond t (Err the_error.Full) (Ok (stored_of r blobs))) full

  pub unread_is : (error : CatalogError) → option_map the_catalog_error.Unread (slice_get (unread_in r) 0) ≡ Some error → store_of r blobs ≡ Err (of_catalog error)
  unfolding store_of
  unread_is error is = first (slice_get (unread_in r) 0) refl is where
    first : (o : Option Unread) → slice_get (unread_in r) 0 ≡ o → option_map the_catalog_error.Unread o ≡ Some error → unless (unread_first r) (stored_short r blobs) ≡ Err (of_catalog error)
    first None same is = cc is
    first (Some u) same is =
        let e : the_catalog_error.Unread u ≡ error = cc is in
        ap (λ (x : Option Unread). unless (option_map the_error.Unread x) (stored_short r blobs)) same ∙ ap (λ (x : CatalogError). Err (of_catalog x)) e

-- one blob that is too long
pub some_full : (blobs : List (BlobType × Vec ℕ)) (i : ℕ) (d : BlobType × Vec ℕ) → i < length blobs → is_full (given (get_or blobs i d)) ≡ true → list_any is_full (map given blobs) ≡ true
some_full blobs i d lt full =
    list_any_at is_full (map given blobs) i (given d) (omega (arith, length-map blobs given))
    (ap is_full (get_or-map given blobs i d (given d) lt) ∙ full)

pub keeps_same : (r : Repository) (blobs others : List BlobData) (storing : Storing) → blobs ≡ others → Keeps r [] blobs storing → Keeps r [] others storing
keeps_same r blobs others storing same keeps = subst (λ (bs : List BlobData). Keeps r [] bs storing) same keeps

-- where no blob is named, only the offered ones are used
pub none_named : (r : Repository) (blobs : List BlobData) → stored_with r [] blobs ≡ stored_of r blobs
unfolding stored_with stored_of
none_named r blobs = refl
