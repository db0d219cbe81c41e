-- What indexes list, place by place and entry by entry.
use Rattle.std.proofs.Common.{◌≡◌, ℕ, Bool, true, false, ◌&&◌, ◌||◌, not, cond, List, [], ◌∷◌, map, filter, Option, None, Some, option_map, Result, Ok, Err, refl, sym, ap, subst, ◌∙◌}
use Rattle.std.proofs.lemmas.List.Folds.{list_any-append}
use Rattle.std.specs.Cmp.{tied_itself}
use Rattle.std.specs.List.{AllByRecursion, flat_map, list_any}
use Rattle.std.specs.Ordering.{is_eq}
use Rattle.keep_names.specs.Laws.{TellsApart}
use Rattle.keep_names.specs.Orders.{id_cmp}
use Rattle.keep_names.specs.declared.blob.Blob.{Blob}
use Rattle.keep_names.specs.declared.file_name.Kind.TheVariants.{Index}
use Rattle.keep_names.specs.declared.id.Id.{Id}
use Rattle.keep_repo.specs.Repository.{Repository}
use Rattle.keep_index.specs.Index.{Fits, PackData}
use Rattle.keep_index.specs.Joining.{blobs_of, entry_cmp, left_without, lists_entry, lists_pack, same_entry, same_id}
use Rattle.keep_index.specs.Reading as index_reading
use Rattle.keep_index.specs.declared.index_error.IndexError.{IndexError}
use Rattle.keep_catalog.specs.Files.{file_in, ids_in, index_in, index_of, indexes_in, readable, what_is_read}
use Rattle.keep_catalog.specs.Orders.{packed_blob_eq}
use Rattle.keep_catalog.specs.Places.{is_among, listed_in, listed_of, packed_of}
use Rattle.keep_catalog.specs.declared.spot.PackedBlob.{PackedBlob}
use Rattle.keep_catalog.proofs.SpotOrders.{packed_blob_eq_same, packed_blob_total}
use Rattle.keep_upkeep.proofs.EachSo.{each_always, each_made}

pub same_answer : (a b : Bool) → (a ≡ true → b ≡ true) → (b ≡ true → a ≡ true) → a ≡ b
same_answer true b there back = sym (there refl)
same_answer false true there back = back refl
same_answer false false there back = refl

-- what an index says of the place in its pack
abbrev pub entry_of : PackedBlob → Blob
entry_of p = record { blob = p.blob; offset = p.spot.offset; length = p.spot.length }

place_refl : (p : PackedBlob) → packed_blob_eq p p ≡ true
place_refl p = ap is_eq (tied_itself packed_blob_total p)

-- ---- a place among those that packs list

module _ (ids : TellsApart id_cmp) (p : PackedBlob) where
  -- no other pack has it
  pub elsewhere : (pack : Id) → same_id p.spot.pack pack ≡ false → (bs : List Blob) → is_among (map (packed_of pack) bs) p ≡ false
  elsewhere pack other [] = refl
  elsewhere pack other (b ∷ bs) = cases (elsewhere pack other bs) (packed_blob_eq p (packed_of pack b)) refl where
    clash : packed_blob_eq p (packed_of pack b) ≡ true → ⊥
    clash h =
        let here : same_id p.spot.pack pack ≡ true = (ids p.spot.pack pack).1 (ap (λ (q : PackedBlob). q.spot.pack) (packed_blob_eq_same p (packed_of pack b) h)) in
        let bad : true ≡ false = sym here ∙ other in
        (cc bad)

    cases : is_among (map (packed_of pack) bs) p ≡ false → (t : Bool) → packed_blob_eq p (packed_of pack b) ≡ t → (t || is_among (map (packed_of pack) bs) p) ≡ false
    cases rest true h = absurd (clash h)
    cases rest false h = rest

module _ (ids : TellsApart id_cmp) (entries : TellsApart entry_cmp) (p : PackedBlob) where
  at_entry : (b : Blob) → packed_blob_eq p (packed_of p.spot.pack b) ≡ same_entry (entry_of p) b
  at_entry b = same_answer (packed_blob_eq p (packed_of p.spot.pack b)) (same_entry (entry_of p) b) there back where
    there : packed_blob_eq p (packed_of p.spot.pack b) ≡ true → same_entry (entry_of p) b ≡ true
    there h = (entries (entry_of p) b).1 (ap entry_of (packed_blob_eq_same p (packed_of p.spot.pack b) h))

    back : same_entry (entry_of p) b ≡ true → packed_blob_eq p (packed_of p.spot.pack b) ≡ true
    back h = subst (λ (x : Blob). packed_blob_eq p (packed_of p.spot.pack x) ≡ true) ((entries (entry_of p) b).0 h) (place_refl p)

  at_entries : (bs : List Blob) → is_among (map (packed_of p.spot.pack) bs) p ≡ list_any (same_entry (entry_of p)) bs
  at_entries [] = refl
  at_entries (b ∷ bs) = (λ i. at_entry b i || at_entries bs i)

  in_pack : (pack : PackData) → is_among (listed_of pack) p ≡ (same_id p.spot.pack pack.id && list_any (same_entry (entry_of p)) pack.blobs)
  in_pack pack = cases (same_id p.spot.pack pack.id) refl where
    cases : (t : Bool) → same_id p.spot.pack pack.id ≡ t → is_among (listed_of pack) p ≡ (t && list_any (same_entry (entry_of p)) pack.blobs)
    cases true same = ap (λ (id : Id). is_among (map (packed_of id) pack.blobs) p) (sym ((ids p.spot.pack pack.id).0 same)) ∙ at_entries pack.blobs
    cases false other = elsewhere ids p pack.id other pack.blobs

  pub in_packs : (packs : List PackData) → is_among (flat_map listed_of packs) p ≡ lists_entry packs p.spot.pack (entry_of p)
  in_packs [] = refl
  in_packs (pack ∷ packs) =
      list_any-append (packed_blob_eq p) (listed_of pack) (flat_map listed_of packs)
      ∙ (λ i. in_pack pack i || in_packs packs i)
      ∙ cases (same_id p.spot.pack pack.id) where
        cases : (t : Bool) → ((t && list_any (same_entry (entry_of p)) pack.blobs) || list_any (same_entry (entry_of p)) (flat_map (λ (x : PackData). x.blobs) (filter (λ x. same_id p.spot.pack x.id) packs)))
            ≡ list_any (same_entry (entry_of p)) (flat_map (λ (x : PackData). x.blobs) (cond t (pack ∷ filter (λ x. same_id p.spot.pack x.id) packs) (filter (λ x. same_id p.spot.pack x.id) packs)))
        cases true = sym (list_any-append (same_entry (entry_of p)) pack.blobs (flat_map (λ (x : PackData). x.blobs) (filter (λ x. same_id p.spot.pack x.id) packs)))
        cases false = refl

-- ---- what is left without some packs

-- what is left of an index lists of a pack
abbrev pub WhatIsLeft : Type 0
WhatIsLeft = (is_gone : Id → Bool) (packs : List PackData) (id : Id) → blobs_of (left_without is_gone packs) id ≡ cond (is_gone id) [] (blobs_of packs id)

module _ (is_gone : Id → Bool) where
  pub left_entry : WhatIsLeft → (packs : List PackData) (id : Id) (entry : Blob) → lists_entry (left_without is_gone packs) id entry ≡ (not (is_gone id) && lists_entry packs id entry)
  left_entry law packs id entry = ap (list_any (same_entry entry)) (law is_gone packs id) ∙ cases (is_gone id) where
    cases : (g : Bool) → list_any (same_entry entry) (cond g [] (blobs_of packs id)) ≡ (not g && lists_entry packs id entry)
    cases true = refl
    cases false = refl

  pub left_pack : TellsApart id_cmp → (packs : List PackData) (id : Id) → lists_pack (left_without is_gone packs) id ≡ (not (is_gone id) && lists_pack packs id)
  left_pack apart [] id = none (is_gone id) where
    none : (g : Bool) → false ≡ (not g && false)
    none true = refl
    none false = refl
  left_pack apart (pack ∷ packs) id =
      cases (left_pack apart packs id) (is_gone pack.id) (same_id id pack.id) (λ same. ap is_gone ((apart id pack.id).0 same)) refl refl where
        cases : lists_pack (left_without is_gone packs) id ≡ (not (is_gone id) && lists_pack packs id) → (g s : Bool) → (same_id id pack.id ≡ true → is_gone id ≡ is_gone pack.id)
            → is_gone pack.id ≡ g → same_id id pack.id ≡ s
            → lists_pack (cond (not g) (pack ∷ left_without is_gone packs) (left_without is_gone packs)) id ≡ (not (is_gone id) && (s || lists_pack packs id))
        cases rest true true one gone same =
            rest ∙ ap (λ t. not t && lists_pack packs id) (one same ∙ gone) ∙ sym (ap (λ t. not t && (true || lists_pack packs id)) (one same ∙ gone))
        cases rest true false one gone same = rest
        cases rest false true one gone same =
            ap (λ t. t || lists_pack (left_without is_gone packs) id) same ∙ sym (ap (λ t. not t && (true || lists_pack packs id)) (one same ∙ gone))
        cases rest false false one gone same = ap (λ t. t || lists_pack (left_without is_gone packs) id) same ∙ rest

-- one of several, each without those packs, lists just what one of them lists, if it isn't gone
pub any_left : (is_gone : Id → Bool) (lists : List PackData → Bool) (gone : Bool) → ((packs : List PackData) → lists (left_without is_gone packs) ≡ (not gone && lists packs))
    → (indexes : List (Id × List PackData)) → list_any lists (map (λ index. left_without is_gone index.1) indexes) ≡ (not gone && list_any (λ index. lists index.1) indexes)
any_left is_gone lists gone each [] = none gone where
  none : (g : Bool) → false ≡ (not g && false)
  none true = refl
  none false = refl
any_left is_gone lists gone each (index ∷ indexes) =
    (λ i. each index.1 i || any_left is_gone lists gone each indexes i) ∙ both gone (lists index.1) (list_any (λ (x : Id × List PackData). lists x.1) indexes) where
      both : (g a b : Bool) → ((not g && a) || (not g && b)) ≡ (not g && (a || b))
      both true a b = refl
      both false a b = refl

-- ---- the indexes of a repository

-- the index of this name reads so
abbrev pub IsRead : Repository → Id × List PackData → Type 0
IsRead r index = index_in r index.0 ≡ Some (Ok index.1)

read_as : (r : Repository) (id : Id) (found : Option (Result (List PackData) IndexError)) (index : Id × List PackData) → index_in r id ≡ found → readable id found ≡ Some index → IsRead r index
read_as r id None index is h = (cc h)
read_as r id (Some (Err refusal)) index is h = (cc h)
read_as r id (Some (Ok packs)) index is h =
    let same : (id, packs) ≡ index = cc h in
    subst (IsRead r) same is

pub each_read : (r : Repository) → AllByRecursion (IsRead r) (indexes_in r)
each_read r = each_made (λ (_ : Id). Unit {0}) (IsRead r) (λ index. readable index (index_in r index)) (λ id index _ is. read_as r id (index_in r id) index refl is) (ids_in r Index) (each_always (ids_in r Index))

-- what it lists
pub lists_as : (r : Repository) (index : Id × List PackData) → IsRead r index → listed_in r index.0 ≡ flat_map listed_of index.1
unfolding listed_in
lists_as r index is = ap (λ (found : Option (Result (List PackData) IndexError)). flat_map listed_of (what_is_read found)) is

-- and it can be written
pub fits_as : ((bytes : List ℕ) (packs : List PackData) → index_reading.index_of bytes ≡ Ok packs → Fits packs) → (r : Repository) (index : Id × List PackData) → IsRead r index → Fits index.1
unfolding index_of
fits_as law r index is = cases (file_in r Index index.0) is where
  cases : (o : Option (List ℕ)) → option_map index_of o ≡ Some (Ok index.1) → Fits index.1
  cases None h = (cc h)
  cases (Some bytes) h = law bytes index.1 (cc h)

pub any_places : (r : Repository) (p : PackedBlob) (indexes : List (Id × List PackData)) → AllByRecursion (IsRead r) indexes
    → list_any (λ index. is_among (flat_map listed_of index.1) p) indexes ≡ list_any (λ id. is_among (listed_in r id) p) (map (λ index. index.0) indexes)
any_places r p [] reads = refl
any_places r p (index ∷ indexes) reads =
    (λ i. is_among (sym (lists_as r index reads.0) i) p || any_places r p indexes reads.1 i)
