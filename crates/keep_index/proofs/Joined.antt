-- What several indexes as one list.
use Rattle.std.proofs.Common.{◌≡◌, Bool, true, false, ◌||◌, cond, List, [], ◌∷◌, ◌++◌, filter, map, refl, sym, ap, subst, ◌∙◌}
use Rattle.std.proofs.lemmas.List.{append-nil, map-append}
use Rattle.std.proofs.lemmas.List.Concat.{flat_map-append}
use Rattle.std.proofs.lemmas.List.Elements.{filter-append}
use Rattle.std.proofs.lemmas.List.Folds.{list_any-append}
use Rattle.std.proofs.lemmas.Map.Views.{tells_apart}
use Rattle.std.specs.List.{AllByRecursion, IsDistinct, flat_map, list_any}
use Rattle.keep_names.proofs.Orders.{id_exact}
use Rattle.keep_names.specs.Id.{IsDigest}
use Rattle.keep_names.specs.declared.blob.Blob.{Blob}
use Rattle.keep_names.specs.declared.id.Id.{Id}
use Rattle.keep_index.specs.Index.{Fits, FitsBlob, FitsPack, PackData}
use Rattle.keep_index.specs.Joining.{blobs_of, first_of_each, ids_of, joined, lists_entry, lists_pack, merged, merged_packs, packs_in, same_entry, same_id}
use Rattle.keep_index.proofs.Entries.{entries_equal, ids_equal}
use Rattle.keep_index.proofs.Firsts.{all_firsts, any_firsts, firsts_distinct}

-- ---- packs behind packs

pub blobs_append : (xs ys : List PackData) (id : Id) → blobs_of (xs ++ ys) id ≡ blobs_of xs id ++ blobs_of ys id
blobs_append xs ys id =
    ap (flat_map (λ (pack : PackData). pack.blobs)) (filter-append (λ (pack : PackData). same_id id pack.id) xs ys)
    ∙ flat_map-append (λ (pack : PackData). pack.blobs) (filter (λ pack. same_id id pack.id) xs) (filter (λ pack. same_id id pack.id) ys)

-- the packs of all list what those of one do
pub packs_of_all : (indexes : List (List PackData)) (id : Id) → lists_pack (packs_in indexes) id ≡ list_any (λ packs. lists_pack packs id) indexes
packs_of_all [] id = refl
packs_of_all (packs ∷ indexes) id =
    ap (list_any (same_id id)) (map-append (λ (pack : PackData). pack.id) packs (packs_in indexes))
    ∙ list_any-append (same_id id) (ids_of packs) (ids_of (packs_in indexes))
    ∙ ap (λ b. lists_pack packs id || b) (packs_of_all indexes id)

pub entries_of_all : (indexes : List (List PackData)) (id : Id) (entry : Blob) → lists_entry (packs_in indexes) id entry ≡ list_any (λ packs. lists_entry packs id entry) indexes
entries_of_all [] id entry = refl
entries_of_all (packs ∷ indexes) id entry =
    ap (list_any (same_entry entry)) (blobs_append packs (packs_in indexes) id)
    ∙ list_any-append (same_entry entry) (blobs_of packs id) (blobs_of (packs_in indexes) id)
    ∙ ap (λ b. lists_entry packs id entry || b) (entries_of_all indexes id entry)

-- ---- packs merged

module _ (packs : List PackData) where
  ids_made : (ids : List Id) → ids_of (map (merged packs) ids) ≡ ids
  ids_made [] = refl
  ids_made (id ∷ ids) = ap (λ (xs : List Id). id ∷ xs) (ids_made ids)

  pub ids_merged : ids_of (merged_packs packs) ≡ first_of_each same_id (ids_of packs)
  ids_merged = ids_made (first_of_each same_id (ids_of packs))

  -- packs of other ids list nothing of this one
  none_made : (id : Id) (ids : List Id) → AllByRecursion (λ (x : Id). same_id id x ≡ false) ids → blobs_of (map (merged packs) ids) id ≡ []
  none_made id [] others = refl
  none_made id (x ∷ ids) others = rw others.0 (none_made id ids others.1)

  abbrev once : Id → List Blob
  once id = first_of_each same_entry (blobs_of packs id)

  -- the one pack of an id has its entries, each once
  blobs_made : (id : Id) (ids : List Id) → IsDistinct same_id ids → list_any (same_id id) ids ≡ true → blobs_of (map (merged packs) ids) id ≡ once id
  unfolding IsDistinct
  blobs_made id [] apart there = cc
  blobs_made id (x ∷ ids) apart there = cases (blobs_made id ids apart.1) (same_id id x) refl where
    cases : (list_any (same_id id) ids ≡ true → blobs_of (map (merged packs) ids) id ≡ once id) → (b : Bool) → same_id id x ≡ b
        → blobs_of (map (merged packs) (x ∷ ids)) id ≡ once id
    cases rest true is =
        rw is
        (ap (λ (blobs : List Blob). once x ++ blobs) (none_made id ids (subst (λ (y : Id). AllByRecursion (λ (z : Id). same_id y z ≡ false) ids) (sym (tells_apart id_exact id x is)) apart.0))
        ∙ append-nil (once x) ∙ ap once (sym (tells_apart id_exact id x is)))
    cases rest false other = rw other (rest (sym (ap (λ b. b || list_any (same_id id) ids) other) ∙ there))

none_listed : (packs : List PackData) (id : Id) → lists_pack packs id ≡ false → blobs_of packs id ≡ []
none_listed [] id none = refl
none_listed (pack ∷ packs) id none = cases (none_listed packs id) (same_id id pack.id) refl where
  cases : (lists_pack packs id ≡ false → blobs_of packs id ≡ []) → (b : Bool) → same_id id pack.id ≡ b → blobs_of (pack ∷ packs) id ≡ []
  cases rest true is = cc (sym (ap (λ b. b || lists_pack packs id) is) ∙ none)
  cases rest false other = rw other (rest (sym (ap (λ b. b || lists_pack packs id) other) ∙ none))

-- merged packs list each entry of an id once
pub blobs_merged : (packs : List PackData) (id : Id) → blobs_of (merged_packs packs) id ≡ first_of_each same_entry (blobs_of packs id)
blobs_merged packs id = cases (lists_pack packs id) refl where
  ids : List Id
  ids = first_of_each same_id (ids_of packs)

  cases : (b : Bool) → lists_pack packs id ≡ b → blobs_of (merged_packs packs) id ≡ first_of_each same_entry (blobs_of packs id)
  cases true there = blobs_made packs id ids (firsts_distinct same_id (ids_of packs)) (any_firsts same_id ids_equal id (ids_of packs) ∙ there)
  cases false none =
      none_listed (merged_packs packs) id (ap (list_any (same_id id)) (ids_merged packs) ∙ any_firsts same_id ids_equal id (ids_of packs) ∙ none)
      ∙ sym (ap (first_of_each same_entry) (none_listed packs id none))

-- ---- what is joined

pub packs_joined : (indexes : List (List PackData)) (id : Id) → lists_pack (joined indexes) id ≡ list_any (λ packs. lists_pack packs id) indexes
packs_joined indexes id =
    ap (list_any (same_id id)) (ids_merged (packs_in indexes)) ∙ any_firsts same_id ids_equal id (ids_of (packs_in indexes))
    ∙ packs_of_all indexes id

pub entries_joined : (indexes : List (List PackData)) (id : Id) (entry : Blob) → lists_entry (joined indexes) id entry ≡ list_any (λ packs. lists_entry packs id entry) indexes
entries_joined indexes id entry =
    ap (list_any (same_entry entry)) (blobs_merged (packs_in indexes) id)
    ∙ any_firsts same_entry entries_equal entry (blobs_of (packs_in indexes) id)
    ∙ entries_of_all indexes id entry

pub packs_apart : (indexes : List (List PackData)) → IsDistinct same_id (ids_of (joined indexes))
packs_apart indexes = subst (IsDistinct same_id) (sym (ids_merged (packs_in indexes))) (firsts_distinct same_id (ids_of (packs_in indexes)))

pub entries_apart : (indexes : List (List PackData)) (id : Id) → IsDistinct same_entry (blobs_of (joined indexes) id)
entries_apart indexes id =
    subst (IsDistinct same_entry) (sym (blobs_merged (packs_in indexes) id)) (firsts_distinct same_entry (blobs_of (packs_in indexes) id))

-- ---- what fits

module _ {X : Type 0} (P : X → Type 0) where
  all_append : (xs ys : List X) → AllByRecursion P xs → AllByRecursion P ys → AllByRecursion P (xs ++ ys)
  all_append [] ys front back = back
  all_append (x ∷ xs) ys front back = (front.0, all_append xs ys front.1 back)

all_fit : (indexes : List (List PackData)) → AllByRecursion Fits indexes → Fits (packs_in indexes)
all_fit [] fit = tt
all_fit (packs ∷ indexes) fit = all_append FitsPack packs (packs_in indexes) fit.0 (all_fit indexes fit.1)

ids_fit : (packs : List PackData) → Fits packs → AllByRecursion IsDigest (ids_of packs)
ids_fit [] fit = tt
ids_fit (pack ∷ packs) fit = (fit.0.0, ids_fit packs fit.1)

blobs_fit : (packs : List PackData) (id : Id) → Fits packs → AllByRecursion FitsBlob (blobs_of packs id)
blobs_fit [] id fit = tt
blobs_fit (pack ∷ packs) id fit = cases (same_id id pack.id) (blobs_fit packs id fit.1) where
  cases : (b : Bool) → AllByRecursion FitsBlob (blobs_of packs id)
      → AllByRecursion FitsBlob (flat_map (λ (p : PackData). p.blobs) (cond b (pack ∷ filter (λ p. same_id id p.id) packs) (filter (λ p. same_id id p.id) packs)))
  cases true others = all_append FitsBlob pack.blobs (blobs_of packs id) fit.0.1 others
  cases false others = others

merged_fit : (packs : List PackData) (ids : List Id) → Fits packs → AllByRecursion IsDigest ids → Fits (map (merged packs) ids)
merged_fit packs [] fit digests = tt
merged_fit packs (id ∷ ids) fit digests =
    ((digests.0, all_firsts same_entry FitsBlob (blobs_of packs id) (blobs_fit packs id fit)), merged_fit packs ids fit digests.1)

pub joined_fits : (indexes : List (List PackData)) → AllByRecursion Fits indexes → Fits (joined indexes)
joined_fits indexes fit =
    let packs = packs_in indexes in
    let fits = all_fit indexes fit in
    merged_fit packs (first_of_each same_id (ids_of packs)) fits (all_firsts same_id IsDigest (ids_of packs) (ids_fit packs fits))
