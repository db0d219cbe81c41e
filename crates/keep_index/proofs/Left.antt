-- What is left of an index without some packs lists the blobs of the others.
use Rattle.std.proofs.Common.{◌≡◌, Bool, true, false, cond, List, [], ◌∷◌, ◌++◌, refl, ap}
use Rattle.std.proofs.lemmas.Map.Views.{tells_apart}
use Rattle.keep_names.proofs.Orders.{id_exact}
use Rattle.keep_names.specs.declared.blob.Blob.{Blob}
use Rattle.keep_names.specs.declared.id.Id.{Id}
use Rattle.keep_index.specs.Index.{Fits, FitsPack, PackData}
use Rattle.keep_index.specs.Joining.{blobs_of, left_without, same_id}

when_gone : (gone : Bool) (left all : List Blob) → gone ≡ true → left ≡ cond gone [] all → left ≡ []
when_gone true left all g h = h
when_gone false left all g h = cc

when_there : (gone : Bool) (left all : List Blob) → gone ≡ false → left ≡ cond gone [] all → left ≡ all
when_there true left all g h = cc
when_there false left all g h = h

module _ (is_gone : Id → Bool) where
  -- what is left lists of this pack
  abbrev Left : List PackData → Id → Type 0
  Left packs id = blobs_of (left_without is_gone packs) id ≡ cond (is_gone id) [] (blobs_of packs id)

  nothing : (gone : Bool) (none : List Blob) → none ≡ [] → none ≡ cond gone [] none
  nothing true none e = e
  nothing false none e = refl

  one_more : (pack : PackData) (packs : List PackData) (id : Id) (gone same : Bool) → is_gone pack.id ≡ gone
      → same_id id pack.id ≡ same → (same ≡ true → is_gone id ≡ gone) → Left packs id → Left (pack ∷ packs) id
  one_more pack packs id true true g s one rest =
      rw g (rw (one refl) (when_gone (is_gone id) _ (blobs_of packs id) (one refl) rest))
  one_more pack packs id false true g s one rest =
      rw g (rw s (rw (one refl) (ap (λ (blobs : List Blob). pack.blobs ++ blobs) (when_there (is_gone id) _ (blobs_of packs id) (one refl) rest))))
  one_more pack packs id true false g s one rest = rw g (rw s rest)
  one_more pack packs id false false g s one rest = rw g (rw s rest)

  pub blobs_left : (packs : List PackData) (id : Id) → Left packs id
  blobs_left [] id = nothing (is_gone id) [] refl
  blobs_left (pack ∷ packs) id =
      one_more pack packs id (is_gone pack.id) (same_id id pack.id) refl refl (λ same. ap is_gone (tells_apart id_exact id pack.id same))
      (blobs_left packs id)

  one_more_fits : (pack : PackData) (packs : List PackData) (gone : Bool) → is_gone pack.id ≡ gone → FitsPack pack
      → Fits (left_without is_gone packs) → Fits (left_without is_gone (pack ∷ packs))
  one_more_fits pack packs true g fits rest = rw g rest
  one_more_fits pack packs false g fits rest = rw g (fits, rest)

  pub fits_left : (packs : List PackData) → Fits packs → Fits (left_without is_gone packs)
  fits_left [] fits = tt
  fits_left (pack ∷ packs) fits = one_more_fits pack packs (is_gone pack.id) refl fits.0 (fits_left packs fits.1)
