-- A repair is safe.
use Rattle.std.proofs.Common.{◌≡◌, ℕ, ◌⊎◌, inl, inr, Bool, true, false, ◌&&◌, not, List, [], map, Option, None, Some, option_map, Result, Ok, Err, is_some, refl, sym, ap, ◌∙◌}
use Rattle.std.proofs.lemmas.List.Elements.{All-from_recursion, recursion_from_All}
use Rattle.std.specs.FinMap.{get}
use Rattle.std.specs.List.{flat_map, list_any}
use Rattle.std.specs.Option.{option_map_or}
use Rattle.std.specs.Ordering.{eq_by_cmp}
use Rattle.keep_names.proofs.Orders.{name_total}
use Rattle.keep_names.specs.FileName.{named}
use Rattle.keep_names.specs.Laws.{NamesAreOrdered, TellsApart}
use Rattle.keep_names.specs.Orders.{id_cmp, name_cmp}
use Rattle.keep_names.specs.declared.file_name.FileName.{FileName}
use Rattle.keep_names.specs.declared.file_name.Kind.TheVariants.{Index, Pack}
use Rattle.keep_names.specs.declared.id.Id.{Id}
use Rattle.keep_repo.specs.Repository.{Repository}
use Rattle.keep_repo.specs.declared.facet.Facet.TheVariants.{Mark}
use Rattle.keep_pack.specs.Reading.{header_of}
use Rattle.keep_index.specs.Index.{Fits, PackData}
use Rattle.keep_index.specs.Joining.{same_id}
use Rattle.keep_index.specs.declared.index_error.IndexError.{IndexError}
use Rattle.keep_change.specs.Filling.{asks_empty, empties, finds_filled, has_name, leaves_filled}
use Rattle.keep_change.specs.Lists.{SortedListsAreWellFormed, file_names}
use Rattle.keep_change.specs.NamedBytes.{NamedBytes}
use Rattle.keep_change.specs.declared.change.Change.{Change}
use Rattle.keep_catalog.proofs.Ids.{id_there}
use Rattle.keep_catalog.proofs.Ordered.{in_order-same}
use Rattle.keep_catalog.specs.Files.{file_in, ids_in, index_in, indexes_in, readable, what_is_read}
use Rattle.keep_catalog.specs.Places.{is_among, is_stored, listed_in, listed_of, packed_of, stored_in}
use Rattle.keep_catalog.specs.declared.spot.PackedBlob.{PackedBlob}
use Rattle.keep_catalog.specs.Ordered.{in_order}
use Rattle.keep_catalog.specs.Orders.{packed_blob_eq}
use Rattle.keep_plan.specs.Storing.{is_there}
use Rattle.keep_sound.specs.Careful.{IsSafe}
use Rattle.keep_sound.specs.Met.{AddsPart, IsIn, IsPartOf}
use Rattle.keep_sound.specs.Plans.{ReindexingIsSafe, Reindexes}
use Rattle.keep_sound.specs.Standing.{file_facet}
use Rattle.keep_upkeep.specs.Reindexing.{other_indexes}
use Rattle.keep_upkeep.specs.Repair.{absent_among, absent_listed, absent_packs, is_idle, other_files, other_listings, packs_there, repairing, whole_files}
use Rattle.keep_safety.specs.Met.{IsMet}
use Rattle.keep_safety.specs.SafeReindexing.{HeadersFitAnIndex, MeetsRepair, RepairIsSafe, RepairsListPlaces}
use Rattle.keep_safety.proofs.AnyOf.{any_filter_map, any_filtered, any_flat, any_then}
use Rattle.keep_upkeep.proofs.EachSo.{any_at, any_mapped, each_mapped, each_so, so_at}
use Rattle.keep_upkeep.proofs.FilesThere.{IsThere}
use Rattle.keep_safety.proofs.ListedPlaces.{elsewhere}
use Rattle.keep_safety.proofs.NewIndex.{BuiltAreStored, WrittenReadBack, listed_left, same_listed}
use Rattle.keep_upkeep.proofs.OtherIndexes.{all_there, kinds_are, others_apart}
use Rattle.keep_upkeep.proofs.RepairPlanned.{repair_so, repaired_well_formed}
use Rattle.keep_upkeep.proofs.Remade.{WhatIsStoredCanBeMade, adds_so, new_indexes}

-- ---- an absent pack that a dropped index lists

module _ (ids : TellsApart id_cmp) (names : TellsApart name_cmp) (r : Repository) (p : PackedBlob) (absent : is_there r (named Pack p.spot.pack) ≡ false) where
  abbrev pack_name : FileName
  pack_name = named Pack p.spot.pack

  same_pack : (pack : PackData) → is_among (listed_of pack) p ≡ true → p.spot.pack ≡ pack.id
  same_pack pack h = cases (same_id p.spot.pack pack.id) refl where
    cases : (b : Bool) → same_id p.spot.pack pack.id ≡ b → p.spot.pack ≡ pack.id
    cases true same = (ids p.spot.pack pack.id).0 same
    cases false other =
        let bad : true ≡ false = sym h ∙ elsewhere ids p pack.id other pack.blobs in
        (cc bad)

  abbrev is_absent_here : PackData → Bool
  is_absent_here pack = not (is_there r (named Pack pack.id)) && eq_by_cmp name_cmp pack_name (named Pack pack.id)

  here : (pack : PackData) → is_among (listed_of pack) p ≡ true → is_absent_here pack ≡ true
  here pack h =
      let same = same_pack pack h in
      ap (λ (id : Id). not (is_there r (named Pack id)) && eq_by_cmp name_cmp pack_name (named Pack id)) (sym same)
      ∙ ap (λ b. not b && eq_by_cmp name_cmp pack_name pack_name) absent ∙ (names pack_name pack_name).1 refl

  among_absent : (packs : List PackData) → is_among (flat_map listed_of packs) p ≡ true → list_any (eq_by_cmp name_cmp pack_name) (absent_among r packs) ≡ true
  among_absent packs h =
      any_filtered (eq_by_cmp name_cmp pack_name) (λ name. not (is_there r name)) (map (λ (pack : PackData). named Pack pack.id) packs)
      ∙ any_mapped (λ name. not (is_there r name) && eq_by_cmp name_cmp pack_name name) (λ (pack : PackData). named Pack pack.id) packs
      ∙ any_then (λ pack. is_among (listed_of pack) p) is_absent_here here packs (sym (any_flat (packed_blob_eq p) listed_of packs) ∙ h)

  module _ (built : List NamedBytes) (index : Id) (other : has_name (file_names built) (named Index index) ≡ false) where
    abbrev lists_absent : Id × List PackData → Bool
    lists_absent listing = not (has_name (file_names built) (named Index listing.0)) && list_any (eq_by_cmp name_cmp pack_name) (absent_among r listing.1)

    by_index : (found : Option (Result (List PackData) IndexError)) → is_among (flat_map listed_of (what_is_read found)) p ≡ true → option_map_or lists_absent (readable index found) false ≡ true
    by_index None h = (cc h)
    by_index (Some (Err refusal)) h = (cc h)
    by_index (Some (Ok packs)) h =
        ap (λ b. not b && list_any (eq_by_cmp name_cmp pack_name) (absent_among r packs)) other ∙ among_absent packs h

    read_lists : is_among (listed_in r index) p ≡ true → option_map_or lists_absent (readable index (index_in r index)) false ≡ true
    unfolding listed_in
    read_lists h = by_index (index_in r index) h

    pub absence_asked : is_some (file_in r Index index) ≡ true → is_among (listed_in r index) p ≡ true
        → has_name (in_order name_cmp (absent_listed r (other_listings built (indexes_in r)))) pack_name ≡ true
    absence_asked there h =
        in_order-same name_total pack_name (absent_listed r (other_listings built (indexes_in r)))
        ∙ any_flat (eq_by_cmp name_cmp pack_name) (λ (listing : Id × List PackData). absent_among r listing.1) (other_listings built (indexes_in r))
        ∙ any_filtered (λ (listing : Id × List PackData). list_any (eq_by_cmp name_cmp pack_name) (absent_among r listing.1)) (λ listing. not (has_name (file_names built) (named Index listing.0))) (indexes_in r)
        ∙ any_filter_map lists_absent (λ id. readable id (index_in r id)) (ids_in r Index)
        ∙ any_at id_cmp ids (λ id. option_map_or lists_absent (readable id (index_in r id)) false) index (read_lists h) (ids_in r Index) (id_there Index r index there)

-- ---- what all files say of a pack of the repository

same_stored : (r all : Repository) → IsPartOf r all → (p : PackedBlob) → is_there r (named Pack p.spot.pack) ≡ true → is_stored r p ≡ is_stored all p
unfolding stored_in file_in
same_stored r all part p there = cases (get r.files (named Pack p.spot.pack)) refl there where
  cases : (o : Option (List ℕ)) → get r.files (named Pack p.spot.pack) ≡ o → is_some o ≡ true
      → is_among (map (packed_of p.spot.pack) (what_is_read (option_map header_of (get r.files (named Pack p.spot.pack))))) p
      ≡ is_among (map (packed_of p.spot.pack) (what_is_read (option_map header_of (get all.files (named Pack p.spot.pack))))) p
  cases None is h = (cc h)
  cases (Some bytes) is h =
      ap (λ (file : Option (List ℕ)). is_among (map (packed_of p.spot.pack) (what_is_read (option_map header_of file))) p)
      (is ∙ sym (part (named Pack p.spot.pack) bytes is))

file_is : (r : Repository) (index : Id) → is_some (get r.files (named Index index)) ≡ true → is_some (file_in r Index index) ≡ true
unfolding file_in
file_is r index h = h

-- ---- safety

pub record KnownOfRepairs : Type 0 where
  pub names : TellsApart name_cmp
  pub ids : TellsApart id_cmp
  pub names_order : NamesAreOrdered
  pub places : RepairsListPlaces
  pub fits : HeadersFitAnIndex
  pub written : WrittenReadBack
  pub settling : WhatIsStoredCanBeMade
  pub settles : BuiltAreStored
  pub sorted : SortedListsAreWellFormed
  pub safe : ReindexingIsSafe

module _ (known : KnownOfRepairs) (r all : Repository) (met : IsMet all r) (fits : Fits (packs_there r)) (meets : MeetsRepair all r) where
  abbrev made : Change
  made = repairing r

  abbrev others : List Id
  others = other_indexes (whole_files r) (ids_in r Index)

  adds_met : AddsPart all made
  adds_met = All-from_recursion (IsIn all) made.adds (adds_so r (IsIn all) (whole_files r) (recursion_from_All (IsIn all) (whole_files r) meets))

  dropped_there : (name : FileName) → has_name (file_names (other_files r)) name ≡ true → is_some (get r.files name) ≡ true
  dropped_there name has =
      so_at name_cmp known.names (λ (n : FileName). is_some (get r.files n) ≡ true) (file_names (other_files r))
      (each_mapped (λ (n : FileName). is_some (get r.files n) ≡ true) (λ (f : NamedBytes). f.name) (other_files r) (each_so (IsThere r) (λ f. is_some (get r.files f.name) ≡ true) (λ f is. ap is_some is) (other_files r) (all_there r Index others))) name has

  dropped_index : (name : FileName) → has_name (file_names (other_files r)) name ≡ true → name.kind ≡ Index
  dropped_index name has = so_at name_cmp known.names (λ (n : FileName). n.kind ≡ Index) (file_names (other_files r)) (kinds_are r Index others) name has

  dropped_other : (name : FileName) → has_name (file_names (other_files r)) name ≡ true → has_name (file_names (whole_files r)) name ≡ false
  dropped_other name has =
      so_at name_cmp known.names (λ (n : FileName). has_name (file_names (whole_files r)) n ≡ false) (file_names (other_files r))
      (each_mapped (λ (n : FileName). has_name (file_names (whole_files r)) n ≡ false) (λ (f : NamedBytes). f.name) (other_files r) (others_apart r (whole_files r) (ids_in r Index))) name has

  no_pack : (pack : Id) → empties made (file_facet Pack pack) ≡ true → finds_filled made (Mark pack) ≡ true
  no_pack pack empty =
      let bad : Pack ≡ Index = dropped_index (named Pack pack) empty in
      (cc bad)

  -- a stored place that a dropped index lists is listed anew, or its pack has to be absent
  relisted : (index : Id) → empties made (file_facet Index index) ≡ true → (p : PackedBlob) → is_among (listed_in r index) p ≡ true → is_stored all p ≡ true
      → (b : Bool) → is_there r (named Pack p.spot.pack) ≡ b
      → (asks_empty made (file_facet Pack p.spot.pack) ≡ true)
      ⊎ ((finds_filled made (Mark p.spot.pack) ≡ true)
      ⊎ ((other : Id) × (leaves_filled made (file_facet Index other) ≡ true) × (is_among (listed_in all other) p ≡ true)))
  relisted index empty p listed stored true there =
      inr (inr (listed_left known.written known.settles known.names r all (packs_there r) (other_files r) [] (absent_packs r) p fits meets
      (known.places r p ∙ same_stored r all met.part p there ∙ stored)))
  relisted index empty p listed stored false absent =
      inl (absence_asked known.ids known.names r p absent (whole_files r) index (dropped_other (named Index index) empty) (file_is r index (dropped_there (named Index index) empty)) listed)

  reindexes : Reindexes all made
  reindexes = record {
    no_marks = refl;
    adds = All-from_recursion (λ (f : NamedBytes). f.name.kind ≡ Index) made.adds (adds_so r (λ f. f.name.kind ≡ Index) (whole_files r) (new_indexes (packs_there r)));
    packs = no_pack;
    relists = λ index empty p listed stored.
        relisted index empty p (ap (λ places. is_among places p) (sym (same_listed r all met.part index (dropped_there (named Index index) empty))) ∙ listed) stored
        (is_there r (named Pack p.spot.pack)) refl;
  }

  made_safe : (snapshots : Id → Bool) → is_idle (repairing r) ≡ false → IsSafe all snapshots made
  made_safe snapshots some =
      known.safe all snapshots made met.one_text
      (repaired_well_formed known.names_order known.names known.settling r known.sorted some).once adds_met reindexes

pub repair_safe : KnownOfRepairs → RepairIsSafe
repair_safe known r all snapshots c is met files meets =
    repair_so r (λ d. IsSafe all snapshots d) (made_safe known r all met (known.fits r files) meets snapshots) c is
