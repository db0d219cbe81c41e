-- What is remembered of hashes, and the wrong blobs, one place later.
use Rattle.std.proofs.Common.{◌≡◌, ℕ, ◌+◌, ◌<◌, Bool, true, false, not, ◌||◌, cond, List, [], ◌∷◌, ◌++◌, map, filter, take, length, get_or, Option, None, Some, is_some, option_to_list, refl, sym, ap, ◌∙◌}
use Rattle.std.proofs.lemmas.List.{append_assoc, map-append}
use Rattle.std.proofs.lemmas.List.Elements.{filter-append, filter_map-append}
use Rattle.std.specs.BTreeMap.{is_at}
use Rattle.std.specs.BTreeMap as tree
use Rattle.std.specs.Cmp.{eq_by_cmp_equiv}
use Rattle.std.specs.List.{cons_option, filter_map, list_any}
use Rattle.keep_names.proofs.Orders.{blob_total}
use Rattle.keep_names.specs.declared.blob.BlobId.{BlobId}
use Rattle.keep_names.specs.declared.id.Id.{Id}
use Rattle.keep_names.specs.declared.blob.Blob.{Blob}
use Rattle.keep_repo.specs.Repository.{Repository}
use Rattle.keep_catalog.specs.Orders.{blob_eq, packed_blob_cmp, packed_blob_eq}
use Rattle.keep_catalog.specs.Places.{is_honest, is_stored, packed_of}
use Rattle.keep_catalog.specs.Kept.{IsHashedIn, IsStoredIn, Stored}
use Rattle.keep_index.specs.Joining.{first_of_each}
use Rattle.keep_catalog.specs.Wrong.{wrong_at}
use Rattle.keep_catalog.specs.declared.spot.PackedBlob.{PackedBlob}
use Rattle.keep_catalog.proofs.Growing.{map_taken, taken_any, taken_more}
use Rattle.keep_catalog.proofs.SpotOrders.{packed_blob_eq_same}

module _ (r : Repository) (old new : Stored) (place : PackedBlob) (honest : Bool) (put : (q : PackedBlob) → tree.get packed_blob_cmp new q ≡ cond (is_at (packed_blob_cmp place) q) (Some (Some honest)) (tree.get packed_blob_cmp old q)) where
  -- a place that was there is there, and no other came
  pub stored_stays : tree.get packed_blob_cmp old place ≡ Some None → IsStoredIn r old → IsStoredIn r new
  stored_stays there before q = cases (packed_blob_eq place q) refl where
    cases : (t : Bool) → packed_blob_eq place q ≡ t → is_some (tree.get packed_blob_cmp new q) ≡ is_stored r q
    cases true same =
        let is : place ≡ q = packed_blob_eq_same place q same in
        ap is_some (put q ∙ ap (λ t. cond t (Some (Some honest)) (tree.get packed_blob_cmp old q)) same)
        ∙ sym (ap is_some there) ∙ before place ∙ ap (is_stored r) is
    cases false other = ap is_some (put q ∙ ap (λ t. cond t (Some (Some honest)) (tree.get packed_blob_cmp old q)) other) ∙ before q

  pub one_hashed : honest ≡ is_honest r place.blob place.spot → IsHashedIn r old → IsHashedIn r new
  one_hashed is before q b got = cases (packed_blob_eq place q) refl where
    cases : (t : Bool) → packed_blob_eq place q ≡ t → is_honest r q.blob q.spot ≡ b
    cases true same =
        let at : Some (Some honest) ≡ Some (Some b) = sym (put q ∙ ap (λ t. cond t (Some (Some honest)) (tree.get packed_blob_cmp old q)) same) ∙ got in
        let e : honest ≡ b = cc at in
        ap (λ (p : PackedBlob). is_honest r p.blob p.spot) (sym (packed_blob_eq_same place q same)) ∙ sym is ∙ e
    cases false other = before q b (sym (put q ∙ ap (λ t. cond t (Some (Some honest)) (tree.get packed_blob_cmp old q)) other) ∙ got)

-- ---- wrong blobs

cons_list : {Y : Type 0} (o : Option Y) → cons_option o [] ≡ option_to_list o
cons_list None = refl
cons_list (Some y) = refl

pub more_wrong : (r : Repository) (pack : Id) (entries : List Blob) (i : ℕ) (d : Blob) (now later : List BlobId) → i < length entries → now ≡ filter_map (wrong_at r) (map (packed_of pack) (take i entries)) → later ≡ now ++ option_to_list (wrong_at r (packed_of pack (get_or entries i d))) → later ≡ filter_map (wrong_at r) (map (packed_of pack) (take (i + 1) entries))
more_wrong r pack entries i d now later lt so step =
    let p = packed_of pack (get_or entries i d) in
    step ∙ ap (λ ys. ys ++ option_to_list (wrong_at r p)) so
    ∙ ap (λ ys. filter_map (wrong_at r) (map (packed_of pack) (take i entries)) ++ ys) (sym (cons_list (wrong_at r p)))
    ∙ sym (ap (filter_map (wrong_at r)) (map_taken entries i (get_or entries i d) d lt refl (packed_of pack))
    ∙ filter_map-append (wrong_at r) (map (packed_of pack) (take i entries)) (p ∷ []))

-- ---- each once

blob_symm : (a b : BlobId) → blob_eq a b ≡ blob_eq b a
blob_symm = (eq_by_cmp_equiv blob_total).symm

last_once : (x y : BlobId) (any : Bool) → filter (λ z. not (blob_eq y z)) (cond any [] (x ∷ [])) ≡ cond (blob_eq x y || any) [] (x ∷ [])
last_once x y true = cases (blob_eq x y) where
  cases : (b : Bool) → [] ≡ cond (b || true) [] (x ∷ [])
  cases true = refl
  cases false = refl
last_once x y false = ap (λ b. cond (not b) (x ∷ []) []) (blob_symm y x) ∙ cases (blob_eq x y) where
  cases : (b : Bool) → cond (not b) (x ∷ []) [] ≡ cond (b || false) [] (x ∷ [])
  cases true = refl
  cases false = refl

once_more : (xs : List BlobId) (x : BlobId) → first_of_each blob_eq (xs ++ x ∷ []) ≡ first_of_each blob_eq xs ++ cond (list_any (blob_eq x) xs) [] (x ∷ [])
once_more [] x = refl
once_more (y ∷ xs) x =
    ap (λ zs. y ∷ filter (λ z. not (blob_eq y z)) zs) (once_more xs x)
    ∙ ap (λ zs. y ∷ zs) (filter-append (λ z. not (blob_eq y z)) (first_of_each blob_eq xs) (cond (list_any (blob_eq x) xs) [] (x ∷ []))
    ∙ ap (λ zs. filter (λ z. not (blob_eq y z)) (first_of_each blob_eq xs) ++ zs) (last_once x y (list_any (blob_eq x) xs)))

abbrev pub in_pack : Id → BlobId → Id × BlobId
in_pack pack blob = (pack, blob)

map_last : (pack : Id) (x : BlobId) (b : Bool) → map (in_pack pack) (cond b [] (x ∷ [])) ≡ cond b [] ((pack, x) ∷ [])
map_last pack x true = refl
map_last pack x false = refl

module _ (pack : Id) (blobs : List BlobId) (i : ℕ) (d : BlobId) (lt : i < length blobs) where
  abbrev x : BlobId
  x = get_or blobs i d

  pub more_told : (before now later : List (Id × BlobId)) (was : Bool) → now ≡ before ++ map (in_pack pack) (first_of_each blob_eq (take i blobs)) → was ≡ list_any (blob_eq x) (take i blobs) → later ≡ now ++ cond was [] ((pack, x) ∷ []) → later ≡ before ++ map (in_pack pack) (first_of_each blob_eq (take (i + 1) blobs))
  more_told before now later was so told step =
      step ∙ ap (λ ys. ys ++ cond was [] ((pack, x) ∷ [])) so ∙ append_assoc before _ _
      ∙ ap (λ ys. before ++ ys)
      (ap (λ b. map (in_pack pack) (first_of_each blob_eq (take i blobs)) ++ cond b [] ((pack, x) ∷ [])) told
      ∙ ap (λ ys. map (in_pack pack) (first_of_each blob_eq (take i blobs)) ++ ys) (sym (map_last pack x (list_any (blob_eq x) (take i blobs))))
      ∙ sym (ap (λ ys. map (in_pack pack) (first_of_each blob_eq ys)) (taken_more blobs i x d lt refl) ∙ ap (map (in_pack pack)) (once_more (take i blobs) x)
      ∙ map-append (in_pack pack) (first_of_each blob_eq (take i blobs)) (cond (list_any (blob_eq x) (take i blobs)) [] (x ∷ []))))

  or_turn : (k a : Bool) → cond k true a ≡ (a || k)
  or_turn true true = refl
  or_turn true false = refl
  or_turn false true = refl
  or_turn false false = refl

  pub more_seen : (q : BlobId) (now later : Bool) → now ≡ list_any (blob_eq q) (take i blobs) → later ≡ cond (blob_eq x q) true now → later ≡ list_any (blob_eq q) (take (i + 1) blobs)
  more_seen q now later so step =
      step ∙ ap (λ b. cond (blob_eq x q) true b) so ∙ ap (λ b. cond b true (list_any (blob_eq q) (take i blobs))) (blob_symm x q)
      ∙ or_turn (blob_eq q x) (list_any (blob_eq q) (take i blobs))
      ∙ sym (taken_any (blob_eq q) blobs i x d lt refl)
