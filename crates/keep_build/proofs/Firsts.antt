-- One more blob at the end of those that were offered.
use Rattle.std.proofs.Common.{◌≡◌, Bool, true, false, ◌||◌, not, cond, List, [], ◌∷◌, ◌++◌, map, filter, refl, ap, ◌∙◌}
use Rattle.std.specs.Cmp.{eq_by_cmp_equiv}
use Rattle.std.specs.List.{list_any}
use Rattle.std.proofs.lemmas.List.{append-nil, map-append}
use Rattle.std.proofs.lemmas.List.Elements.{filter-append}
use Rattle.keep_names.proofs.Orders.{blob_total}
use Rattle.keep_names.specs.declared.blob.BlobType.{BlobType}
use Rattle.keep_repo.specs.Repository.{Repository}
use Rattle.keep_catalog.specs.Orders.{blob_eq}
use Rattle.keep_index.specs.Joining.{first_of_each}
use Rattle.keep_build.specs.Blobs.{BlobData, blob_id_of, is_new, is_of, is_same, names_once, new_of}

-- whether the blob is among those that were offered
abbrev pub is_seen : BlobData → List BlobData → Bool
is_seen blob blobs = list_any (blob_eq (blob_id_of blob)) (map blob_id_of blobs)

apart : BlobData → BlobData → Bool
apart x b = not (is_same x b)

-- what becomes of the last blob when those that are like an earlier one go
last_stays : (x b : BlobData) → blob_eq (blob_id_of b) (blob_id_of x) ≡ false → filter (λ y. not (is_same x y)) (b ∷ []) ≡ b ∷ []
last_stays x b other =
    ap (λ t. cond (not t) (b ∷ []) []) ((eq_by_cmp_equiv blob_total).symm (blob_id_of x) (blob_id_of b) ∙ other)

last_goes : (x b : BlobData) → blob_eq (blob_id_of b) (blob_id_of x) ≡ true → filter (λ y. not (is_same x y)) (b ∷ []) ≡ []
last_goes x b same =
    ap (λ t. cond (not t) (b ∷ []) []) ((eq_by_cmp_equiv blob_total).symm (blob_id_of x) (blob_id_of b) ∙ same)

abbrev ends_with : Bool → List BlobData → BlobData → List BlobData
ends_with seen blobs b = cond seen blobs (blobs ++ b ∷ [])

-- a blob that comes again changes nothing, another one is the last of the first occurrences
pub firsts_more : (blobs : List BlobData) (b : BlobData) → first_of_each is_same (blobs ++ b ∷ []) ≡ ends_with (is_seen b blobs) (first_of_each is_same blobs) b
firsts_more [] b = refl
firsts_more (x ∷ xs) b =
    ap (λ ys. x ∷ filter (λ y. not (is_same x y)) ys) (firsts_more xs b)
    ∙ cases (blob_eq (blob_id_of b) (blob_id_of x)) refl (is_seen b xs) where
      kept : List BlobData
      kept = filter (λ y. not (is_same x y)) (first_of_each is_same xs)

      cases : (here : Bool) → blob_eq (blob_id_of b) (blob_id_of x) ≡ here → (later : Bool)
          → x ∷ filter (λ y. not (is_same x y)) (ends_with later (first_of_each is_same xs) b) ≡ ends_with (here || later) (x ∷ kept) b
      cases true same true = refl
      cases false other true = refl
      cases true same false =
          ap (λ ys. x ∷ ys) (filter-append (λ y. not (is_same x y)) (first_of_each is_same xs) (b ∷ []) ∙ ap (λ ys. kept ++ ys) (last_goes x b same) ∙ append-nil kept)
      cases false other false =
          ap (λ ys. x ∷ ys) (filter-append (λ y. not (is_same x y)) (first_of_each is_same xs) (b ∷ []) ∙ ap (λ ys. kept ++ ys) (last_stays x b other))

module _ (r : Repository) (blobs : List BlobData) (b : BlobData) where
  pub firsts_again : is_seen b blobs ≡ true → first_of_each is_same (blobs ++ b ∷ []) ≡ first_of_each is_same blobs
  firsts_again seen = firsts_more blobs b ∙ ap (λ t. ends_with t (first_of_each is_same blobs) b) seen

  pub firsts_other : is_seen b blobs ≡ false → first_of_each is_same (blobs ++ b ∷ []) ≡ first_of_each is_same blobs ++ b ∷ []
  firsts_other unseen = firsts_more blobs b ∙ ap (λ t. ends_with t (first_of_each is_same blobs) b) unseen

  -- the new ones of a type
  pub new_again : (t : BlobType) → is_seen b blobs ≡ true → new_of t r (blobs ++ b ∷ []) ≡ new_of t r blobs
  unfolding new_of
  new_again t seen = ap (λ bs. filter (is_of t) (filter (is_new r) bs)) (firsts_again seen)

  new_split : (t : BlobType) → is_seen b blobs ≡ false → new_of t r (blobs ++ b ∷ []) ≡ new_of t r blobs ++ filter (is_of t) (filter (is_new r) (b ∷ []))
  unfolding new_of
  new_split t unseen =
      ap (λ bs. filter (is_of t) (filter (is_new r) bs)) (firsts_other unseen)
      ∙ ap (filter (is_of t)) (filter-append (is_new r) (first_of_each is_same blobs) (b ∷ []))
      ∙ filter-append (is_of t) (filter (is_new r) (first_of_each is_same blobs)) (filter (is_new r) (b ∷ []))

  pub new_there : (t : BlobType) → is_seen b blobs ≡ false → is_new r b ≡ false → new_of t r (blobs ++ b ∷ []) ≡ new_of t r blobs
  new_there t unseen there =
      new_split t unseen
      ∙ ap (λ n. new_of t r blobs ++ filter (is_of t) (cond n (b ∷ []) [])) there
      ∙ append-nil (new_of t r blobs)

  pub new_more : (t : BlobType) → is_seen b blobs ≡ false → is_new r b ≡ true → is_of t b ≡ true → new_of t r (blobs ++ b ∷ []) ≡ new_of t r blobs ++ b ∷ []
  new_more t unseen new of =
      new_split t unseen
      ∙ ap (λ n. new_of t r blobs ++ filter (is_of t) (cond n (b ∷ []) [])) new
      ∙ ap (λ n. new_of t r blobs ++ cond n (b ∷ []) []) of

  pub new_same : (t : BlobType) → is_seen b blobs ≡ false → is_of t b ≡ false → new_of t r (blobs ++ b ∷ []) ≡ new_of t r blobs
  new_same t unseen other = new_split t unseen ∙ cases (is_new r b) where
    cases : (n : Bool) → new_of t r blobs ++ filter (is_of t) (cond n (b ∷ []) []) ≡ new_of t r blobs
    cases true = ap (λ o. new_of t r blobs ++ cond o (b ∷ []) []) other ∙ append-nil (new_of t r blobs)
    cases false = append-nil (new_of t r blobs)

  -- the names, each once
  pub names_again : is_seen b blobs ≡ true → names_once (blobs ++ b ∷ []) ≡ names_once blobs
  names_again seen = ap (map blob_id_of) (firsts_again seen)

  pub names_other : is_seen b blobs ≡ false → names_once (blobs ++ b ∷ []) ≡ names_once blobs ++ blob_id_of b ∷ []
  names_other unseen = ap (map blob_id_of) (firsts_other unseen) ∙ map-append blob_id_of (first_of_each is_same blobs) (b ∷ [])
