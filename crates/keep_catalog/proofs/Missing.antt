-- Why a blob has no chosen place, by what indexes list, headers have and bytes hash to.
use Rattle.std.proofs.Common.{◌≡◌, Bool, true, false, ◌||◌, cond, [], ◌∷◌, Option, None, Some, is_some, refl, sym, ap, ◌∙◌, T}
use Rattle.std.specs.FinMap as finite
use Rattle.std.specs.List.{find, list_any}
use Rattle.keep_names.specs.declared.blob.BlobId.{BlobId}
use Rattle.keep_names.specs.declared.id.Id.{Id}
use Rattle.keep_repo.specs.Repository.{Repository}
use Rattle.keep_catalog.specs.Chosen.{IsListed, IsStored}
use Rattle.keep_catalog.specs.Naming.{missing, why_missing}
use Rattle.keep_catalog.specs.Orders.{spot_cmp}
use Rattle.keep_catalog.specs.Places.{is_honest, spots_of}
use Rattle.keep_catalog.specs.declared.reach_error.ReachError.{ReachError}
use Rattle.keep_catalog.specs.declared.reach_error.ReachError.TheVariants.{MissingBlob, WrongHash}
use Rattle.keep_catalog.specs.declared.spot.Spot.{Spot}
use Rattle.keep_catalog.proofs.Least.{Entries, finds, picks, some_index}
use Rattle.keep_catalog.proofs.Spots.{spot_kept, spot_listed, spot_stored}

any_found : (p : Spot × Id → Bool) (es : Entries) → list_any p es ≡ is_some (find p es)
any_found p [] = refl
any_found p (e ∷ es) = cases (p e) (any_found p es) where
  cases : (b : Bool) → list_any p es ≡ is_some (find p es) → (b || list_any p es) ≡ is_some (cond b (Some e) (find p es))
  cases true later = refl
  cases false later = later

module _ (r : Repository) (blob : BlobId) where
  abbrev honest_at : Spot × Id → Bool
  honest_at e = is_honest r blob e.0

  abbrev es : Entries
  es = finite.entries (spots_of r blob)

  sorted : T (finite.is_sorted spot_cmp es)
  sorted = finite.entries_sorted (spots_of r blob)

  -- what is told of these entries
  abbrev told : Entries → Bool → ReachError
  told [] any = MissingBlob blob.id
  told (x ∷ xs) any = cond any (MissingBlob blob.id) (WrongHash blob.id)

  why_told : (xs : Entries) → why_missing r blob xs ≡ told xs (list_any honest_at xs)
  why_told [] = refl
  why_told (x ∷ xs) = refl

  missing_told : missing r blob ≡ told es (list_any honest_at es)
  unfolding missing
  missing_told = why_told es

  told_honest : (xs : Entries) → told xs true ≡ MissingBlob blob.id
  told_honest [] = refl
  told_honest (x ∷ xs) = refl

  -- an entry that passes is kept
  kept_at : (p : Spot × Id → Bool) (e : Spot × Id) → find p es ≡ Some e → finite.get (spots_of r blob) e.0 ≡ Some e.1
  kept_at p e is = finite.get-entries (spots_of r blob) e.0 ∙ (finds p es e sorted is).0

  entry_at : (spot : Spot) (index : Id) → IsListed r blob spot index → IsStored r blob spot → (kept : Id) × (finite.find spot_cmp spot es ≡ Some kept)
  entry_at spot index listed stored =
      let kept = some_index (finite.get (spots_of r blob) spot) (spot_kept r blob spot index listed stored) in
      (kept.0, sym (finite.get-entries (spots_of r blob) spot) ∙ kept.1)

  pub missing_honest : (spot : Spot) (index : Id) → IsListed r blob spot index → IsStored r blob spot → is_honest r blob spot ≡ true → missing r blob ≡ MissingBlob blob.id
  missing_honest spot index listed stored honest =
      let at_spot = entry_at spot index listed stored in
      let found = picks honest_at es spot at_spot.0 sorted at_spot.1 honest in
      missing_told ∙ ap (told es) (any_found honest_at es ∙ ap is_some found.1) ∙ told_honest es

  pub missing_unlisted : ((spot : Spot) (index : Id) → IsListed r blob spot index → ¬ IsStored r blob spot) → missing r blob ≡ MissingBlob blob.id
  missing_unlisted none = missing_told ∙ cases es refl where
    cases : (xs : Entries) → es ≡ xs → told xs (list_any honest_at es) ≡ MissingBlob blob.id
    cases [] is = refl
    cases (x ∷ xs) is =
        let first : find (λ _. true) es ≡ Some x = ap (find (λ _. true)) is in
        let kept = kept_at (λ _. true) x first in
        absurd (none x.0 x.1 (spot_listed r blob x.0 x.1 kept) (spot_stored r blob x.0 x.1 kept))

  pub missing_wrong : (spot : Spot) (index : Id) → IsListed r blob spot index → IsStored r blob spot → ((other : Spot) (by : Id) → IsListed r blob other by → IsStored r blob other → is_honest r blob other ≡ false) → missing r blob ≡ WrongHash blob.id
  missing_wrong spot index listed stored none = missing_told ∙ ap (told es) (any_found honest_at es ∙ none_found (find honest_at es) refl) ∙ not_empty es refl (entry_at spot index listed stored).1 where
    none_found : (o : Option (Spot × Id)) → find honest_at es ≡ o → is_some o ≡ false
    none_found None is = refl
    none_found (Some e) is =
        let kept = kept_at honest_at e is in
        let wrong = none e.0 e.1 (spot_listed r blob e.0 e.1 kept) (spot_stored r blob e.0 e.1 kept) in
        cc ((finds honest_at es e sorted is).1, wrong)

    not_empty : (xs : Entries) → es ≡ xs → finite.find spot_cmp spot xs ≡ Some (entry_at spot index listed stored).0 → told xs false ≡ WrongHash blob.id
    not_empty [] is h = cc h
    not_empty (x ∷ xs) is h = refl
