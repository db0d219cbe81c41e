-- A repair that is planned can be made.
use Rattle.std.proofs.Common.{◌≡◌, ◌≢◌, ℕ, Bool, true, false, ◌&&◌, ◌==◌, not, cond, List, [], ◌∷◌, ◌++◌, length, map, filter, None, Some, Option, is_some, Result, Ok, Err, refl, sym, ap, subst, ◌∙◌}
use Rattle.std.specs.FinMap.{from_entries, get}
use Rattle.std.specs.Global.{Vec}
use Rattle.std.specs.List.{AllByRecursion, list_any}
use Rattle.std.specs.List.Sorted.{IsStrictlySortedBy}
use Rattle.std.specs.Ordering.{eq_by_cmp}
use Rattle.keep_names.proofs.Orders.{name_total}
use Rattle.keep_names.specs.FileName.{named}
use Rattle.keep_names.specs.Laws.{NamesAreOrdered, TellsApart}
use Rattle.keep_names.specs.Orders.{id_cmp, name_cmp}
use Rattle.keep_names.specs.declared.blob.Blob.{Blob}
use Rattle.keep_names.specs.declared.file_name.FileName.{FileName}
use Rattle.keep_names.specs.declared.file_name.Kind.TheVariants.{Index, Pack}
use Rattle.keep_names.specs.declared.id.Id.{Id}
use Rattle.keep_repo.specs.Repository.{Repository, held}
use Rattle.keep_index.specs.Index.{PackData, pack_view}
use Rattle.keep_change.specs.Change.{added, cleared, dropped, is_met, written}
use Rattle.keep_change.specs.Form.{IsWellFormed}
use Rattle.keep_change.specs.Lists.{AreApart, SortedListsAreWellFormed, WhatIsAskedIsMet, file_names}
use Rattle.keep_change.specs.NamedBytes.{NamedBytes}
use Rattle.keep_change.specs.declared.change.Change.{Change}
use Rattle.keep_catalog.specs.Files.{header_view, ids_in, indexes_in, packs_view}
use Rattle.keep_catalog.specs.Ordered.{in_order, keyed}
use Rattle.keep_repo.proofs.Rising.{keys_in_order}
use Rattle.keep_catalog.proofs.Ordered.{in_order-same}
use Rattle.keep_plan.specs.Storing.{is_there, stored_built}
use Rattle.keep_plan.specs.declared.plan_error.PlanError.{PlanError}
use Rattle.keep_plan.specs.declared.plan_error.PlanError.TheVariants.{NothingToDo}
use Rattle.keep_plan.specs.FilesThere.{files_there}
use Rattle.keep_upkeep.specs.Reindexing.{index_files, other_indexes, reindexing}
use Rattle.keep_upkeep.specs.Repair.{absent_among, absent_listed, absent_packs, header_listed, is_idle, other_files, other_listings, packs_there, repair_change, repairing, whole_files}
use Rattle.keep_upkeep.proofs.EachSo.{are_apart, each_always, each_among, each_mapped, each_passes, each_so, so_at}
use Rattle.keep_upkeep.proofs.FilesThere.{ids_rise}
use Rattle.keep_upkeep.proofs.LeavingIndexes.{Read}
use Rattle.keep_upkeep.proofs.OtherIndexes.{all_there, others_apart, others_rise}
use Rattle.keep_upkeep.proofs.Remade.{CanBeRemade, WhatIsStoredCanBeMade, adds_so, new_indexes, new_named, remade_met, remade_well_formed}
use Rattle.keep_upkeep.proofs.Rising.{all_append, none_rise}

-- ---- what has to be absent

abbrev IsAbsentPack : Repository → FileName → Type 0
IsAbsentPack r name = (name.kind ≡ Pack) × (get r.files name ≡ None)

module _ (r : Repository) where
  no_file : (name : FileName) → not (is_there r name) ≡ true → get r.files name ≡ None
  no_file name h = cases (get r.files name) h where
    cases : (o : Option (List ℕ)) → not (is_some o) ≡ true → o ≡ None
    cases None h = refl
    cases (Some bytes) h = (cc h)

  each_among_pack : (packs : List PackData) → AllByRecursion (IsAbsentPack r) (absent_among r packs)
  each_among_pack [] = tt
  each_among_pack (pack ∷ packs) = cases (each_among_pack packs) (is_there r (named Pack pack.id)) refl where
    cases : AllByRecursion (IsAbsentPack r) (absent_among r packs) → (b : Bool) → is_there r (named Pack pack.id) ≡ b
        → AllByRecursion (IsAbsentPack r) (cond (not b) (named Pack pack.id ∷ absent_among r packs) (absent_among r packs))
    cases rest true is = rest
    cases rest false is = ((refl, no_file (named Pack pack.id) (ap not is)), rest)

  each_listed : (indexes : List (Id × List PackData)) → AllByRecursion (IsAbsentPack r) (absent_listed r indexes)
  each_listed [] = tt
  each_listed (index ∷ indexes) = all_append (IsAbsentPack r) (absent_among r index.1) (absent_listed r indexes) (each_among_pack index.1) (each_listed indexes)

  -- keys in order are all so where the keys are
  all_in_order : TellsApart name_cmp → (P : FileName → Type 0) (names : List FileName) → AllByRecursion P names → AllByRecursion P (in_order name_cmp names)
  all_in_order apart P names all =
      each_so (λ name. list_any (eq_by_cmp name_cmp name) (in_order name_cmp names) ≡ true) P
      (λ name among. so_at name_cmp apart P names all name (sym (in_order-same name_total name names) ∙ among))
      (in_order name_cmp names) (each_among name_cmp apart (in_order name_cmp names))

  pub absent_are : TellsApart name_cmp → AllByRecursion (IsAbsentPack r) (absent_packs r)
  absent_are apart =
      all_in_order apart (IsAbsentPack r) (absent_listed r (other_listings (whole_files r) (indexes_in r))) (each_listed (other_listings (whole_files r) (indexes_in r)))

  absent_rise : IsStrictlySortedBy name_cmp (absent_packs r)
  absent_rise = keys_in_order name_cmp (from_entries {R = name_cmp} (map keyed (absent_listed r (other_listings (whole_files r) (indexes_in r)))))

-- ---- the change

not_nil : (n : List NamedBytes) → (length n == 0) ≡ false → n ≢ []
not_nil n some empty =
    let bad : true ≡ false = sym (ap (λ (fs : List NamedBytes). length fs == 0) empty) ∙ some in
    (cc bad)

writes : (adds drops : List NamedBytes) → ((length adds == 0) && (length drops == 0)) ≡ false → map added adds ++ (map dropped drops ++ []) ≢ []
writes [] [] some e = (cc some)
writes [] (f ∷ drops) some e = (cc e)
writes (f ∷ adds) drops some e = (cc e)

module _ (names : NamesAreOrdered) (apart : TellsApart name_cmp) (settling : WhatIsStoredCanBeMade) (r : Repository) where
  new_apart : AreApart name_cmp (file_names (stored_built r [] (whole_files r)).adds) (absent_packs r)
  new_apart =
      are_apart name_cmp apart (λ (n : FileName). n.kind ≡ Index) (λ (n : FileName). n.kind ≡ Pack) clash
      (file_names (stored_built r [] (whole_files r)).adds) (absent_packs r)
      (each_mapped (λ (n : FileName). n.kind ≡ Index) (λ (f : NamedBytes). f.name) (stored_built r [] (whole_files r)).adds (adds_so r (λ f. f.name.kind ≡ Index) (whole_files r) (new_indexes (packs_there r))))
      (each_so (IsAbsentPack r) (λ (n : FileName). n.kind ≡ Pack) (λ n is. is.0) (absent_packs r) (absent_are r apart)) where
        clash : (name : FileName) → name.kind ≡ Index → name.kind ≡ Pack → ⊥
        clash name index pack =
            let bad : Index ≡ Pack = sym index ∙ pack in
            (cc bad)

  can_be : is_idle (repairing r) ≡ false → CanBeRemade r (whole_files r) (other_files r) [] (absent_packs r)
  can_be some = record {
    named = new_named (packs_there r);
    drops_in_order = others_rise r (whole_files r) (ids_in r Index) names (ids_rise names Index r);
    clears_in_order = none_rise id_cmp;
    absent_in_order = absent_rise r;
    there = all_there r Index (other_indexes (whole_files r) (ids_in r Index));
    marked = tt;
    none = each_so (IsAbsentPack r) (λ (n : FileName). get r.files n ≡ None) (λ n is. is.1) (absent_packs r) (absent_are r apart);
    others = others_apart r (whole_files r) (ids_in r Index);
    new_apart = new_apart;
    writes = writes (stored_built r [] (whole_files r)).adds (other_files r) some;
  }

  pub repaired_well_formed : SortedListsAreWellFormed → is_idle (repairing r) ≡ false → IsWellFormed (repairing r)
  repaired_well_formed law some = remade_well_formed apart settling r (whole_files r) (other_files r) [] (absent_packs r) (can_be some) law

  pub repaired_met : WhatIsAskedIsMet → is_idle (repairing r) ≡ false → is_met (held r) (repairing r) ≡ true
  repaired_met law some = remade_met apart settling r (whole_files r) (other_files r) [] (absent_packs r) (can_be some) law

-- what the change makes so that puts one index in the place of all others, a planned repair is
module _ (r : Repository) (P : Change → Type 0) (so : is_idle (repairing r) ≡ false → P (repairing r)) (c : Change) where
  made_so : (b : Bool) → is_idle (repairing r) ≡ b → cond b (Err NothingToDo) (Ok (repairing r)) ≡ Ok c → P c
  made_so true is h = (cc h)
  made_so false is h =
      let same : repairing r ≡ c = cc h in
      subst P same (so is)

  pub repair_so : repair_change r ≡ Ok c → P c
  unfolding repair_change
  repair_so h = made_so (is_idle (repairing r)) refl h

-- ---- planning

module _ (r : Repository) where
  pub repair_nothing : (c : Change) → c ≡ repairing r → is_idle c ≡ true → repair_change r ≡ Err NothingToDo
  unfolding repair_change
  repair_nothing c is idle = ap (λ b. cond b (Err NothingToDo) (Ok (repairing r))) (ap is_idle (sym is) ∙ idle)

  pub repair_made : (c : Change) → c ≡ repairing r → is_idle c ≡ false → repair_change r ≡ Ok c
  unfolding repair_change
  repair_made c is writes = ap (λ b. cond b (Err NothingToDo) (Ok (repairing r))) (ap is_idle (sym is) ∙ writes) ∙ ap Ok (sym is)

-- ---- all of it

-- what the headers say, as an index says it
pub headers_listed : (headers : List (Id × Vec Blob)) → map pack_view (map (λ header. record { id = header.0; blobs = header.1 }) headers) ≡ map header_listed (map header_view headers)
headers_listed [] = refl
headers_listed (header ∷ headers) = ap (λ (packs : List PackData). header_listed (header_view header) ∷ packs) (headers_listed headers)

-- what is built, dropped and asked, step by step, is what a repair makes
pub same_repair : (r : Repository) (indexes : List Read) (packs : List PackData) (ids others : List Id) (built drops : List NamedBytes) (absent : List FileName)
    → map packs_view indexes ≡ indexes_in r → packs ≡ packs_there r → built ≡ index_files packs
    → absent ≡ in_order name_cmp (absent_listed r (other_listings built (map packs_view indexes)))
    → ids ≡ ids_in r Index → others ≡ other_indexes built ids → drops ≡ files_there r Index others
    → reindexing r built drops [] absent ≡ repairing r
same_repair r indexes packs ids others built drops absent read packs_are built_is absent_is ids_are others_are drops_are =
    let files : built ≡ whole_files r = built_is ∙ ap index_files packs_are in
    let gone : drops ≡ other_files r = drops_are ∙ ap (files_there r Index) (others_are ∙ (λ i. other_indexes (files i) (ids_are i))) in
    let asked : absent ≡ absent_packs r = absent_is ∙ (λ i. in_order name_cmp (absent_listed r (other_listings (files i) (read i)))) in
    (λ i. reindexing r (files i) (gone i) [] (asked i))
