-- What a repair lists anew.
use Rattle.std.proofs.Common.{◌≡◌, ℕ, Bool, true, false, ◌&&◌, List, map, Option, None, Some, option_map, Result, Ok, Err, is_ok, is_some, refl, sym, ap, subst, ◌∙◌}
use Rattle.std.specs.List.{flat_map, list_any}
use Rattle.std.specs.Option.{option_map_or}
use Rattle.keep_names.specs.Laws.{TellsApart}
use Rattle.keep_names.specs.Orders.{id_cmp}
use Rattle.keep_names.specs.declared.blob.Blob.{Blob}
use Rattle.keep_names.specs.declared.file_name.Kind.TheVariants.{Pack}
use Rattle.keep_names.specs.declared.id.Id.{Id}
use Rattle.keep_repo.specs.Repository.{Repository}
use Rattle.keep_pack.specs.Reading.{header_of}
use Rattle.keep_pack.specs.declared.pack_error.PackError.{PackError}
use Rattle.keep_index.specs.Index.{PackData}
use Rattle.keep_index.specs.Joining.{lists_pack, same_id}
use Rattle.keep_catalog.proofs.Ids.{id_there}
use Rattle.keep_catalog.specs.Files.{file_in, header_in, headers_in, ids_in, readable, what_is_read}
use Rattle.keep_catalog.specs.Orders.{packed_blob_eq}
use Rattle.keep_catalog.specs.Places.{is_among, is_stored, listed_of, packed_of, stored_in}
use Rattle.keep_catalog.specs.declared.spot.PackedBlob.{PackedBlob}
use Rattle.keep_upkeep.specs.Repair.{header_listed, packs_there}
use Rattle.keep_safety.specs.SafeReindexing.{RepairsListPacks, RepairsListPlaces, can_be_read}
use Rattle.keep_safety.proofs.AnyOf.{any_filter_map, any_flat, any_so}
use Rattle.keep_upkeep.proofs.EachSo.{any_at, any_mapped}
use Rattle.keep_safety.proofs.ListedPlaces.{elsewhere, same_answer}

abbrev Header : Type 0
Header = Option (Result (List Blob) PackError)

-- ---- places

module _ (ids : TellsApart id_cmp) (r : Repository) (p : PackedBlob) where
  abbrev stored_at : Id → Bool
  stored_at pack = is_among (stored_in r pack) p

  header_stores : (pack : Id) (found : Header) → option_map_or (λ (header : Id × List Blob). is_among (listed_of (header_listed header)) p) (readable pack found) false ≡ is_among (map (packed_of pack) (what_is_read found)) p
  header_stores pack None = refl
  header_stores pack (Some (Err refusal)) = refl
  header_stores pack (Some (Ok entries)) = refl

  pack_stores : (pack : Id) → option_map_or (λ (header : Id × List Blob). is_among (listed_of (header_listed header)) p) (readable pack (header_in r pack)) false ≡ is_among (stored_in r pack) p
  unfolding stored_in
  pack_stores pack = header_stores pack (header_in r pack)

  places_there : is_among (flat_map listed_of (packs_there r)) p ≡ list_any (λ pack. is_among (stored_in r pack) p) (ids_in r Pack)
  places_there =
      any_flat (packed_blob_eq p) listed_of (map header_listed (headers_in r))
      ∙ any_mapped (λ (pack : PackData). is_among (listed_of pack) p) header_listed (headers_in r)
      ∙ any_filter_map (λ (header : Id × List Blob). is_among (listed_of (header_listed header)) p) (λ pack. readable pack (header_in r pack)) (ids_in r Pack)
      ∙ (λ i. list_any (λ pack. pack_stores pack i) (ids_in r Pack))

  -- only its own pack stores a place
  own_pack : (pack : Id) → stored_at pack ≡ true → pack ≡ p.spot.pack
  unfolding stored_in
  own_pack pack h = cases (same_id p.spot.pack pack) refl where
    cases : (b : Bool) → same_id p.spot.pack pack ≡ b → pack ≡ p.spot.pack
    cases true same = sym ((ids p.spot.pack pack).0 same)
    cases false other =
        let bad : true ≡ false = sym h ∙ elsewhere ids p pack other (what_is_read (header_in r pack)) in
        (cc bad)

  stores_nothing : (o : Option (List ℕ)) → is_among (map (packed_of p.spot.pack) (what_is_read (option_map header_of o))) p ≡ true → is_some o ≡ true
  stores_nothing None h = (cc h)
  stores_nothing (Some bytes) h = refl

  pack_is_there : is_stored r p ≡ true → is_some (file_in r Pack p.spot.pack) ≡ true
  unfolding stored_in
  pack_is_there h = stores_nothing (file_in r Pack p.spot.pack) h

  pub repair_lists : is_among (flat_map listed_of (packs_there r)) p ≡ is_stored r p
  repair_lists = same_answer (is_among (flat_map listed_of (packs_there r)) p) (is_stored r p) there back where
    there : is_among (flat_map listed_of (packs_there r)) p ≡ true → is_stored r p ≡ true
    there h = any_so (λ pack. is_among (stored_in r pack) p) (ids_in r Pack) (sym places_there ∙ h) (λ pack g. subst (λ (k : Id). is_among (stored_in r k) p ≡ true) (own_pack pack g) g)

    back : is_stored r p ≡ true → is_among (flat_map listed_of (packs_there r)) p ≡ true
    back h = places_there ∙ any_at id_cmp ids (λ pack. is_among (stored_in r pack) p) p.spot.pack h (ids_in r Pack) (id_there Pack r p.spot.pack (pack_is_there h))

pub repairs_list_places : TellsApart id_cmp → RepairsListPlaces
repairs_list_places ids r p = repair_lists ids r p

-- ---- packs

module _ (ids : TellsApart id_cmp) (r : Repository) (id : Id) where
  header_of_pack : (pack : Id) (found : Header) → option_map_or (λ (header : Id × List Blob). same_id id header.0) (readable pack found) false ≡ (same_id id pack && option_map_or (λ (read : Result (List Blob) PackError). is_ok read) found false)
  header_of_pack pack None = none (same_id id pack) where
    none : (b : Bool) → false ≡ (b && false)
    none true = refl
    none false = refl
  header_of_pack pack (Some (Err refusal)) = none (same_id id pack) where
    none : (b : Bool) → false ≡ (b && false)
    none true = refl
    none false = refl
  header_of_pack pack (Some (Ok entries)) = all (same_id id pack) where
    all : (b : Bool) → b ≡ (b && true)
    all true = refl
    all false = refl

  packs_listed : lists_pack (packs_there r) id ≡ list_any (λ pack. same_id id pack && can_be_read r pack) (ids_in r Pack)
  packs_listed =
      any_mapped (same_id id) (λ (pack : PackData). pack.id) (map header_listed (headers_in r))
      ∙ any_mapped (λ (pack : PackData). same_id id pack.id) header_listed (headers_in r)
      ∙ any_filter_map (λ (header : Id × List Blob). same_id id header.0) (λ pack. readable pack (header_in r pack)) (ids_in r Pack)
      ∙ (λ i. list_any (λ pack. header_of_pack pack (header_in r pack) i) (ids_in r Pack))

  first_of : (a b : Bool) → (a && b) ≡ true → a ≡ true
  first_of true b h = refl
  first_of false b h = h

  second_of : (a b : Bool) → (a && b) ≡ true → b ≡ true
  second_of true b h = h
  second_of false b h = (cc h)

  read_is_there : (o : Option (List ℕ)) → option_map_or (λ (read : Result (List Blob) PackError). is_ok read) (option_map header_of o) false ≡ true → is_some o ≡ true
  read_is_there None h = (cc h)
  read_is_there (Some bytes) h = refl

  pub pack_listed : lists_pack (packs_there r) id ≡ can_be_read r id
  pack_listed = same_answer (lists_pack (packs_there r) id) (can_be_read r id) there back where
    there : lists_pack (packs_there r) id ≡ true → can_be_read r id ≡ true
    there h =
        any_so (λ pack. same_id id pack && can_be_read r pack) (ids_in r Pack) (sym packs_listed ∙ h)
        (λ pack g. subst (λ (k : Id). can_be_read r k ≡ true) (sym ((ids id pack).0 (first_of (same_id id pack) (can_be_read r pack) g))) (second_of (same_id id pack) (can_be_read r pack) g))

    back : can_be_read r id ≡ true → lists_pack (packs_there r) id ≡ true
    back h =
        packs_listed
        ∙ any_at id_cmp ids (λ pack. same_id id pack && can_be_read r pack) id (ap (λ b. b && can_be_read r id) ((ids id id).1 refl) ∙ h) (ids_in r Pack)
        (id_there Pack r id (read_is_there (file_in r Pack id) h))

pub repairs_list_packs : TellsApart id_cmp → RepairsListPacks
repairs_list_packs ids r id = pack_listed ids r id
