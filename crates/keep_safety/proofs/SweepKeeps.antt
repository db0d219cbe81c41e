-- What a sweep lists anew, and that it is safe.
use Rattle.std.proofs.Common.{◌≡◌, ◌≢◌, ℕ, ℤ, ◌⊎◌, inl, inr, Bool, true, false, ◌&&◌, ◌||◌, not, List, [], Ok, is_some, refl, sym, ap, subst, ◌∙◌}
use Rattle.std.proofs.lemmas.List.Elements.{All-from_recursion, recursion_from_All}
use Rattle.std.specs.FinMap.{get}
use Rattle.std.specs.List.{AllByRecursion, flat_map, list_any}
use Rattle.keep_names.specs.FileName.{named}
use Rattle.keep_names.specs.Laws.{KindsAreOrdered, NamesAreOrdered, TellsApart}
use Rattle.keep_names.specs.Orders.{id_cmp, name_cmp}
use Rattle.keep_names.specs.declared.blob.Blob.{Blob}
use Rattle.keep_names.specs.declared.file_name.FileName.{FileName}
use Rattle.keep_names.specs.declared.file_name.Kind.{Kind}
use Rattle.keep_names.specs.declared.file_name.Kind.TheVariants.{Index, Pack}
use Rattle.keep_names.specs.declared.id.Id.{Id}
use Rattle.keep_repo.specs.Repository.{Repository}
use Rattle.keep_repo.specs.declared.facet.Facet.TheVariants.{Mark}
use Rattle.keep_index.specs.Index.{Fits, PackData}
use Rattle.keep_index.specs.Joining.{entry_cmp, joined, left_without, lists_entry, lists_pack, same_id}
use Rattle.keep_index.specs.Reading as index_reading
use Rattle.keep_change.specs.Filling.{asks_empty, empties, finds_filled, has_name, has_pack, leaves_filled}
use Rattle.keep_change.specs.Lists.{SortedListsAreWellFormed, file_names, marked_packs}
use Rattle.keep_change.specs.NamedBytes.{NamedBytes}
use Rattle.keep_change.specs.declared.change.Change.{Change}
use Rattle.keep_catalog.specs.Files.{indexes_in}
use Rattle.keep_catalog.specs.Places.{is_among, listed_in, listed_of}
use Rattle.keep_catalog.specs.declared.spot.PackedBlob.{PackedBlob}
use Rattle.keep_sound.specs.Careful.{IsSafe}
use Rattle.keep_sound.specs.Met.{AddsPart, HasOneText, IsIn, IsPartOf}
use Rattle.keep_sound.specs.Plans.{ReindexingIsSafe, Reindexes}
use Rattle.keep_sound.specs.Standing.{file_facet}
use Rattle.keep_plan.specs.FilesThere.{files_there}
use Rattle.keep_upkeep.specs.Reindexing.{other_indexes}
use Rattle.keep_safety.specs.SafeReindexing.{MeetsSweep, SweepIsSafe, SweepsKeepPacks, SweepsKeepPlaces}
use Rattle.keep_upkeep.specs.Sweep.{left_files, left_of, listing, lists_gone, names_of, packs_left, sweeping, swept_files, waited_marks}
use Rattle.keep_upkeep.proofs.EachSo.{any_at, each_among, each_kept, each_mapped, each_so, so_at}
use Rattle.keep_upkeep.proofs.FilesThere.{IsThere, each_there}
use Rattle.keep_safety.proofs.ListedPlaces.{IsRead, WhatIsLeft, any_left, any_places, each_read, entry_of, fits_as, in_packs, left_entry, left_pack}
use Rattle.keep_safety.proofs.NewIndex.{BuiltAreStored, WrittenReadBack, listed_left, same_listed}
use Rattle.keep_upkeep.proofs.Remade.{WhatIsStoredCanBeMade, adds_so, new_indexes}
use Rattle.keep_upkeep.proofs.Rising.{all_append}
use Rattle.keep_upkeep.proofs.SweepPlanned.{sweep_so, swept_well_formed}

-- ---- what the new index lists

-- what is joined lists
abbrev pub EntriesJoined : Type 0
EntriesJoined = (indexes : List (List PackData)) (id : Id) (entry : Blob) → lists_entry (joined indexes) id entry ≡ list_any (λ packs. lists_entry packs id entry) indexes

abbrev pub PacksJoined : Type 0
PacksJoined = (indexes : List (List PackData)) (id : Id) → lists_pack (joined indexes) id ≡ list_any (λ packs. lists_pack packs id) indexes

pub sweeps_keep_places : TellsApart id_cmp → TellsApart entry_cmp → WhatIsLeft → EntriesJoined → SweepsKeepPlaces
sweeps_keep_places ids entries left law r packs p =
    in_packs ids entries p (packs_left r packs)
    ∙ law (left_of (has_pack packs) (listing r packs)) p.spot.pack (entry_of p)
    ∙ any_left (has_pack packs) (λ ps. lists_entry ps p.spot.pack (entry_of p)) (has_pack packs p.spot.pack) (λ ps. left_entry (has_pack packs) left ps p.spot.pack (entry_of p)) (listing r packs)
    ∙ ap (λ b. not (has_pack packs p.spot.pack) && b)
    ((λ i. list_any (λ (index : Id × List PackData). sym (in_packs ids entries p index.1) i) (listing r packs))
    ∙ any_places r p (listing r packs) (each_kept (IsRead r) (lists_gone (has_pack packs)) (indexes_in r) (each_read r)))

pub sweeps_keep_packs : TellsApart id_cmp → PacksJoined → SweepsKeepPacks
sweeps_keep_packs ids law r packs pack =
    law (left_of (has_pack packs) (listing r packs)) pack
    ∙ any_left (has_pack packs) (λ ps. lists_pack ps pack) (has_pack packs pack) (λ ps. left_pack (has_pack packs) ids ps pack) (listing r packs)

-- ---- what is dropped

-- a swept pack, or an index that lists one
record IsDropped (r : Repository) (packs : List Id) (name : FileName) : Type 0 where
  there : is_some (get r.files name) ≡ true
  pack : (id : Id) → name ≡ named Pack id → has_pack packs id ≡ true
  index : (id : Id) → name ≡ named Index id → list_any (same_id id) (names_of (listing r packs)) ≡ true

same_named : (kind : Kind) (id other : Id) (name : FileName) → name ≡ named kind id → name ≡ named kind other → id ≡ other
same_named kind id other name a b = ap (λ (n : FileName). n.id) (sym a ∙ b)

no_kind : {Q : Type 0} (id other : Id) (name : FileName) → name ≡ named Pack id → name ≡ named Index other → Q
no_kind id other name a b =
    let bad : Pack ≡ Index = ap (λ (n : FileName). n.kind) (sym a ∙ b) in
    absurd (cc bad)

module _ (ids : TellsApart id_cmp) (r : Repository) (packs : List Id) where
  abbrev listing_names : List Id
  listing_names = names_of (listing r packs)

  abbrev others : List Id
  others = other_indexes (left_files r packs) listing_names

  pack_dropped : (id : Id) (f : NamedBytes) → has_pack packs id ≡ true → f.name ≡ named Pack id → IsThere r f → IsDropped r packs f.name
  pack_dropped id f has is there = record {
    there = ap is_some there;
    pack = λ other at. subst (λ (x : Id). has_pack packs x ≡ true) (same_named Pack id other f.name is at) has;
    index = λ other at. no_kind id other f.name is at;
  }

  index_dropped : (id : Id) (f : NamedBytes) → list_any (same_id id) listing_names ≡ true → f.name ≡ named Index id → IsThere r f → IsDropped r packs f.name
  index_dropped id f has is there = record {
    there = ap is_some there;
    pack = λ other at. no_kind other id f.name at is;
    index = λ other at. subst (λ (x : Id). list_any (same_id x) listing_names ≡ true) (same_named Index id other f.name is at) has;
  }

  all_dropped : AllByRecursion (IsDropped r packs) (file_names (swept_files r packs))
  all_dropped =
      each_mapped (IsDropped r packs) (λ (f : NamedBytes). f.name) (swept_files r packs)
      (all_append (λ (f : NamedBytes). IsDropped r packs f.name) (files_there r Pack packs) (files_there r Index others)
      (each_there r Pack (λ id. has_pack packs id ≡ true) (λ f. IsDropped r packs f.name) pack_dropped packs (each_among id_cmp ids packs))
      (each_there r Index (λ id. list_any (same_id id) listing_names ≡ true) (λ f. IsDropped r packs f.name) index_dropped others
      (each_kept (λ id. list_any (same_id id) listing_names ≡ true) (λ id. not (has_name (file_names (left_files r packs)) (named Index id))) listing_names (each_among id_cmp ids listing_names))))

-- ---- safety

pub record KnownOfSweeps : Type 0 where
  pub names : TellsApart name_cmp
  pub ids : TellsApart id_cmp
  pub names_order : NamesAreOrdered
  pub kinds_order : KindsAreOrdered
  pub places : SweepsKeepPlaces
  pub left_fits : (is_gone : Id → Bool) (packs : List PackData) → Fits packs → Fits (left_without is_gone packs)
  pub joined_fits : (indexes : List (List PackData)) → AllByRecursion Fits indexes → Fits (joined indexes)
  pub written : WrittenReadBack
  pub read : (bytes : List ℕ) (packs : List PackData) → index_reading.index_of bytes ≡ Ok packs → Fits packs
  pub settling : WhatIsStoredCanBeMade
  pub settles : BuiltAreStored
  pub sorted : SortedListsAreWellFormed
  pub safe : ReindexingIsSafe

module _ (known : KnownOfSweeps) (r all : Repository) (now : ℤ) (wait : ℕ) where
  abbrev gone : List Id
  gone = marked_packs (waited_marks r now wait)

  abbrev made : Change
  made = sweeping r (waited_marks r now wait)

  left_fit : Fits (packs_left r gone)
  left_fit =
      known.joined_fits (left_of (has_pack gone) (listing r gone))
      (each_mapped Fits (λ (index : Id × List PackData). left_without (has_pack gone) index.1) (listing r gone)
      (each_so (IsRead r) (λ index. Fits (left_without (has_pack gone) index.1)) (λ index is. known.left_fits (has_pack gone) index.1 (fits_as known.read r index is)) (listing r gone)
      (each_kept (IsRead r) (lists_gone (has_pack gone)) (indexes_in r) (each_read r))))

  module _ (one : HasOneText all) (part : IsPartOf r all) (meets : MeetsSweep all r now wait) where
    adds_met : AddsPart all made
    adds_met = All-from_recursion (IsIn all) made.adds (adds_so r (IsIn all) (left_files r gone) (recursion_from_All (IsIn all) (left_files r gone) meets))

    drop_of : (name : FileName) → has_name (file_names (swept_files r gone)) name ≡ true → IsDropped r gone name
    drop_of name has = so_at name_cmp known.names (IsDropped r gone) (file_names (swept_files r gone)) (all_dropped known.ids r gone) name has

    marked_too : (pack : Id) → has_pack gone pack ≡ true → finds_filled made (Mark pack) ≡ true
    marked_too pack has = ap (λ b. b || false) has

    -- a place in a pack that stays, and that a dropped index lists, is listed anew
    relisted : (index : Id) → empties made (file_facet Index index) ≡ true → (p : PackedBlob) → is_among (listed_in all index) p ≡ true → has_pack gone p.spot.pack ≡ false
        → is_among (flat_map listed_of (packs_left r gone)) p ≡ true
    relisted index empty p listed stays =
        let drop : IsDropped r gone (named Index index) = drop_of (named Index index) empty in
        let here : is_among (listed_in r index) p ≡ true = ap (λ places. is_among places p) (sym (same_listed r all part index drop.there)) ∙ listed in
        known.places r gone p
        ∙ ap (λ b. not b && list_any (λ i. is_among (listed_in r i) p) (names_of (listing r gone))) stays
        ∙ any_at id_cmp known.ids (λ i. is_among (listed_in r i) p) index here (names_of (listing r gone)) (drop.index index refl)

    reindexes : Reindexes all made
    reindexes = record {
      no_marks = refl;
      adds = All-from_recursion (λ (f : NamedBytes). f.name.kind ≡ Index) made.adds (adds_so r (λ f. f.name.kind ≡ Index) (left_files r gone) (new_indexes (packs_left r gone)));
      packs = λ pack empty. marked_too pack ((drop_of (named Pack pack) empty).pack pack refl);
      relists = λ index empty p listed stored. cases index empty p listed (has_pack gone p.spot.pack) refl;
    } where
      cases : (index : Id) → empties made (file_facet Index index) ≡ true → (p : PackedBlob) → is_among (listed_in all index) p ≡ true → (b : Bool) → has_pack gone p.spot.pack ≡ b
          → (asks_empty made (file_facet Pack p.spot.pack) ≡ true)
          ⊎ ((finds_filled made (Mark p.spot.pack) ≡ true)
          ⊎ ((other : Id) × (leaves_filled made (file_facet Index other) ≡ true) × (is_among (listed_in all other) p ≡ true)))
      cases index empty p listed true has = inr (inl (marked_too p.spot.pack has))
      cases index empty p listed false stays =
          inr (inr (listed_left known.written known.settles known.names r all (packs_left r gone) (swept_files r gone) (waited_marks r now wait) [] p left_fit meets (relisted index empty p listed stays)))

    made_safe : (snapshots : Id → Bool) → waited_marks r now wait ≢ [] → IsSafe all snapshots made
    made_safe snapshots some =
        known.safe all snapshots made one
        (swept_well_formed known.names_order known.kinds_order known.names known.settling r now wait known.sorted some).once
        adds_met reindexes

pub sweep_safe : KnownOfSweeps → SweepIsSafe
sweep_safe known r all snapshots now wait c is met meets =
    sweep_so r now wait (λ d. IsSafe all snapshots d) (made_safe known r all now wait met.one_text met.part meets snapshots) c is
