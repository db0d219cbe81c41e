-- A sweep that is planned can be made.
use Rattle.std.proofs.Common.{◌≡◌, ◌≢◌, ℕ, ℤ, Bool, true, false, not, cond, List, [], ◌∷◌, ◌++◌, ◌==◌, length, map, filter, Option, None, Some, Result, Ok, Err, Less, is_some, refl, sym, ap, subst, ◌∙◌}
use Rattle.std.proofs.lemmas.Bool.{eqb-true}
use Rattle.std.proofs.lemmas.List.{map-append, nil_from_length}
use Rattle.std.specs.FinMap.{entries, get}
use Rattle.std.specs.List.{AllByRecursion}
use Rattle.std.specs.List.Sorted.{IsStrictlySortedBy}
use Rattle.std.specs.Global.{Vec}
use Rattle.std.specs.Vec.{vec_len}
use Rattle.keep_names.proofs.Orders.{id_total}
use Rattle.keep_names.specs.FileName.{named}
use Rattle.keep_names.specs.Laws.{KindsAreOrdered, NamesAreOrdered, TellsApart}
use Rattle.keep_names.specs.Orders.{id_cmp, name_cmp}
use Rattle.keep_names.specs.declared.file_name.FileName.{FileName}
use Rattle.keep_names.specs.declared.file_name.Kind.{Kind}
use Rattle.keep_names.specs.declared.file_name.Kind.TheVariants.{Index, Pack}
use Rattle.keep_names.specs.declared.id.Id.{Id}
use Rattle.keep_repo.specs.Repository.{Repository, held}
use Rattle.keep_repo.specs.declared.facet.Mark.{Mark}
use Rattle.keep_index.specs.Index.{PackData}
use Rattle.keep_index.specs.declared.index_error.IndexError.{IndexError}
use Rattle.keep_change.specs.Change.{added, cleared, dropped, is_met, written}
use Rattle.keep_change.specs.Filling.{has_name, has_pack}
use Rattle.keep_change.specs.Form.{IsWellFormed}
use Rattle.keep_change.specs.Lists.{SortedListsAreWellFormed, WhatIsAskedIsMet, file_names, marked_packs}
use Rattle.keep_change.specs.NamedBytes.{NamedBytes}
use Rattle.keep_change.specs.declared.change.Change.{Change}
use Rattle.keep_change.specs.declared.change.PackMark.{PackMark}
use Rattle.keep_catalog.specs.Files.{ids_in, index_in, indexes_in, readable}
use Rattle.keep_repo.proofs.Rising.{keys_in_order}
use Rattle.keep_plan.proofs.Ordered.{entries_there}
use Rattle.keep_plan.specs.Refusal.{unless, unread_first}
use Rattle.keep_change.specs.Marks.{pack_mark}
use Rattle.keep_plan.specs.Storing.{stored_built}
use Rattle.keep_plan.specs.declared.plan_error.PlanError.{PlanError}
use Rattle.keep_plan.specs.declared.plan_error.PlanError.TheVariants.{Memory, NothingToDo}
use Rattle.keep_plan.proofs.Rising.{rise_kept}
use Rattle.keep_plan.specs.FilesThere.{files_there}
use Rattle.keep_upkeep.specs.Reindexing.{other_indexes, reindexing}
use Rattle.keep_upkeep.specs.Sweep.{has_waited, left_files, listing, lists_gone, names_of, packs_left, sweep_change, sweep_of, sweeping, swept_files, waited_marks}
use Rattle.keep_upkeep.proofs.EachSo.{each_always, each_kept, each_mapped, each_passes, each_so, never_at}
use Rattle.keep_upkeep.proofs.FilesThere.{IsThere, each_there, files_rise, ids_rise, pack_before_index}
use Rattle.keep_upkeep.proofs.OtherIndexes.{all_there, kinds_are, others_apart, others_rise}
use Rattle.keep_upkeep.proofs.Remade.{CanBeRemade, WhatIsStoredCanBeMade, new_indexes, new_named, remade_met, remade_well_formed}
use Rattle.keep_upkeep.proofs.Rising.{all_append, none_rise, rise_append, rise_keyed, rise_left}

-- ---- the marks

packs_are : (es : List (Id × Mark)) → marked_packs (map pack_mark es) ≡ map (λ e. e.0) es
packs_are [] = refl
packs_are (e ∷ es) = ap (λ (packs : List Id). e.0 ∷ packs) (packs_are es)

marks_rise : (r : Repository) (now : ℤ) (wait : ℕ) → IsStrictlySortedBy id_cmp (marked_packs (waited_marks r now wait))
unfolding waited_marks
marks_rise r now wait =
    rise_kept id_cmp (λ (m : PackMark). m.pack) (λ m. has_waited now wait m.mark) (map pack_mark (entries r.marks))
    (subst (λ (ids : List Id). IsStrictlySortedBy id_cmp ids) (sym (packs_are (entries r.marks))) (keys_in_order id_cmp r.marks))

marks_there : (r : Repository) (now : ℤ) (wait : ℕ) → AllByRecursion (λ (m : PackMark). get r.marks m.pack ≡ Some m.mark) (waited_marks r now wait)
unfolding waited_marks
marks_there r now wait =
    each_kept (λ (m : PackMark). get r.marks m.pack ≡ Some m.mark) (λ m. has_waited now wait m.mark) (map pack_mark (entries r.marks))
    (each_mapped (λ (m : PackMark). get r.marks m.pack ≡ Some m.mark) pack_mark (entries r.marks) (entries_there id_total r.marks))

-- ---- the files

read_name : (r : Repository) (id : Id) (index : Id × List PackData) → readable id (index_in r id) ≡ Some index → index.0 ≡ id
read_name r id index = cases (index_in r id) where
  cases : (found : Option (Result (List PackData) IndexError)) → readable id found ≡ Some index → index.0 ≡ id
  cases None h = (cc h)
  cases (Some (Err refusal)) h = (cc h)
  cases (Some (Ok packs)) h =
      let same : (id, packs) ≡ index = cc h in
      sym (ap (λ (e : Id × List PackData). e.0) same)

module _ (names : NamesAreOrdered) (kinds : KindsAreOrdered) (apart : TellsApart name_cmp) (r : Repository) (packs : List Id) where
  listing_rise : IsStrictlySortedBy id_cmp (names_of (listing r packs))
  listing_rise =
      rise_kept id_cmp (λ (e : Id × List PackData). e.0) (λ e. lists_gone (has_pack packs) e) (indexes_in r)
      (rise_keyed id_cmp (λ (e : Id × List PackData). e.0) (λ id. readable id (index_in r id)) (read_name r) (ids_in r Index) (ids_rise names Index r))

  abbrev others : List Id
  others = other_indexes (left_files r packs) (names_of (listing r packs))

  abbrev pack_files : List NamedBytes
  pack_files = files_there r Pack packs

  abbrev index_drops : List NamedBytes
  index_drops = files_there r Index others

  swept_rise : IsStrictlySortedBy id_cmp packs → IsStrictlySortedBy name_cmp (file_names (swept_files r packs))
  swept_rise rise =
      subst (λ (ns : List FileName). IsStrictlySortedBy name_cmp ns) (sym (map-append (λ (f : NamedBytes). f.name) pack_files index_drops))
      (rise_append name_cmp (file_names pack_files) (file_names index_drops) (files_rise names r Pack packs rise)
      (others_rise r (left_files r packs) (names_of (listing r packs)) names listing_rise)
      (each_so (λ (n : FileName). n.kind ≡ Pack) (λ n. AllByRecursion (λ m. name_cmp n m ≡ Less) (file_names index_drops))
      (λ n is. each_so (λ (m : FileName). m.kind ≡ Index) (λ m. name_cmp n m ≡ Less) (λ m at. pack_before_index names kinds n m is at) (file_names index_drops) (kinds_are r Index others))
      (file_names pack_files) (kinds_are r Pack packs)))

  swept_there : AllByRecursion (IsThere r) (swept_files r packs)
  swept_there = all_append (IsThere r) pack_files index_drops (all_there r Pack packs) (all_there r Index others)

  abbrev IsOther : FileName → Type 0
  IsOther name = has_name (file_names (left_files r packs)) name ≡ false

  no_pack : (name : FileName) → name.kind ≡ Pack → IsOther name
  no_pack name pack =
      never_at name_cmp apart (λ (n : FileName). n.kind ≡ Index) name (λ index. clash (sym pack ∙ index)) (file_names (left_files r packs))
      (each_mapped (λ (n : FileName). n.kind ≡ Index) (λ (f : NamedBytes). f.name) (left_files r packs) (new_indexes (packs_left r packs))) where
        clash : Pack ≡ Index → ⊥
        clash bad = (cc bad)

  swept_others : AllByRecursion (λ (f : NamedBytes). IsOther f.name) (swept_files r packs)
  swept_others =
      all_append (λ (f : NamedBytes). IsOther f.name) pack_files index_drops
      (each_there r Pack (λ _. Unit {0}) (λ f. IsOther f.name) (λ id f _ is there. no_pack f.name (ap (λ (n : FileName). n.kind) is)) packs (each_always packs))
      (others_apart r (left_files r packs) (names_of (listing r packs)))

-- ---- the change

ends_in : {X : Type 0} (xs ys : List X) → ys ≢ [] → xs ++ ys ≢ []
ends_in [] ys some e = some e
ends_in (x ∷ xs) ys some e = (cc e)

writes : (adds drops : List NamedBytes) (clears : List PackMark) → clears ≢ [] → map added adds ++ (map dropped drops ++ map cleared clears) ≢ []
writes adds drops [] some = absurd (some refl)
writes adds drops (m ∷ ms) some = ends_in (map added adds) (map dropped drops ++ map cleared (m ∷ ms)) (ends_in (map dropped drops) (map cleared (m ∷ ms)) (λ e. (cc e)))

-- what a change makes so that sweeps the marks that have waited, a planned sweep is
module _ (r : Repository) (now : ℤ) (wait : ℕ) (P : Change → Type 0) (so : waited_marks r now wait ≢ [] → P (sweeping r (waited_marks r now wait))) (c : Change) where
  of_so : (marks : List PackMark) → waited_marks r now wait ≡ marks → sweep_of r marks ≡ Ok c → P c
  of_so [] is h = (cc h)
  of_so (m ∷ ms) is h =
      let same : sweeping r (m ∷ ms) ≡ c = cc h in
      subst P (ap (sweeping r) is ∙ same) (so (λ e. not_empty (sym is ∙ e))) where
        not_empty : m ∷ ms ≡ [] → ⊥
        not_empty bad = (cc bad)

  read_so : (why : Option PlanError) → unless why (sweep_of r (waited_marks r now wait)) ≡ Ok c → P c
  read_so (Some error) h = (cc h)
  read_so None h = of_so (waited_marks r now wait) refl h

  pub sweep_so : sweep_change r now wait ≡ Ok c → P c
  unfolding sweep_change
  sweep_so h = read_so (unread_first r) h

module _ (names : NamesAreOrdered) (kinds : KindsAreOrdered) (apart : TellsApart name_cmp) (settling : WhatIsStoredCanBeMade) (r : Repository) (now : ℤ) (wait : ℕ) where
  abbrev pub marks : List PackMark
  marks = waited_marks r now wait

  abbrev pub gone : List Id
  gone = marked_packs (waited_marks r now wait)

  can_be : waited_marks r now wait ≢ [] → CanBeRemade r (left_files r gone) (swept_files r gone) marks []
  can_be some = record {
    named = new_named (packs_left r gone);
    drops_in_order = swept_rise names kinds apart r gone (marks_rise r now wait);
    clears_in_order = marks_rise r now wait;
    absent_in_order = none_rise name_cmp;
    there = swept_there names kinds apart r gone;
    marked = marks_there r now wait;
    none = tt;
    others = swept_others names kinds apart r gone;
    new_apart = λ name has. refl;
    writes = writes (stored_built r [] (left_files r gone)).adds (swept_files r gone) marks some;
  }

  pub swept_well_formed : SortedListsAreWellFormed → waited_marks r now wait ≢ [] → IsWellFormed (sweeping r marks)
  swept_well_formed law some = remade_well_formed apart settling r (left_files r gone) (swept_files r gone) marks [] (can_be some) law

  pub sweep_well_formed : SortedListsAreWellFormed → (c : Change) → sweep_change r now wait ≡ Ok c → IsWellFormed c
  sweep_well_formed law c is = sweep_so r now wait IsWellFormed (swept_well_formed law) c is

  pub sweep_met : WhatIsAskedIsMet → (c : Change) → sweep_change r now wait ≡ Ok c → is_met (held r) c ≡ true
  sweep_met law c is =
      sweep_so r now wait (λ d. is_met (held r) d ≡ true)
      (λ some. remade_met apart settling r (left_files r gone) (swept_files r gone) marks [] (can_be some) law) c is

-- ---- planning

no_items : {X : Type 0} (v : Vec X) → (vec_len v == 0) ≡ true → v.items ≡ []
no_items v none = nil_from_length v.items (sym v.ok.0 ∙ eqb-true (vec_len v) 0 none)

some_items : {X : Type 0} (v : Vec X) → (vec_len v == 0) ≡ false → v.items ≢ []
some_items v some empty =
    let none : vec_len v ≡ 0 = v.ok.0 ∙ ap length empty in
    let bad : true ≡ false = sym (ap (λ n. n == 0) none) ∙ some in
    (cc bad)

module _ (r : Repository) (now : ℤ) (wait : ℕ) where
  pub sweep_refused : (error : PlanError) → (error ≢ Memory → unread_first r ≡ Some error) → error ≢ Memory → sweep_change r now wait ≡ Err error
  unfolding sweep_change
  sweep_refused error why other = ap (λ o. unless o (sweep_of r (waited_marks r now wait))) (why other)

  pub sweep_due : unread_first r ≡ None → sweep_change r now wait ≡ sweep_of r (waited_marks r now wait)
  unfolding sweep_change
  sweep_due none = ap (λ o. unless o (sweep_of r (waited_marks r now wait))) none

  pub sweep_nothing : (marks : Vec PackMark) → marks.items ≡ waited_marks r now wait → (vec_len marks == 0) ≡ true → sweep_of r (waited_marks r now wait) ≡ Err NothingToDo
  sweep_nothing marks are empty = ap (sweep_of r) (sym are ∙ no_items marks empty)

  some_swept : (marks : List PackMark) → marks ≢ [] → sweep_of r marks ≡ Ok (sweeping r marks)
  some_swept [] some = absurd (some refl)
  some_swept (m ∷ ms) some = refl

  pub sweep_made : (marks : Vec PackMark) (c : Change) → marks.items ≡ waited_marks r now wait → (vec_len marks == 0) ≡ false → c ≡ sweeping r marks.items → sweep_of r (waited_marks r now wait) ≡ Ok c
  sweep_made marks c are some is = ap (sweep_of r) (sym are) ∙ some_swept marks.items (some_items marks some) ∙ ap Ok (sym is)
