-- A mark that is planned can be made.
use Rattle.std.proofs.Common.{◌≡◌, ◌≢◌, ℕ, ℤ, Bool, true, false, not, ◌&&◌, ◌||◌, cond, List, [], ◌∷◌, ◌++◌, map, filter, All, IsSome, Option, None, Some, Result, Ok, Err, Ordering, is_none, is_some, refl, sym, ap, subst, ◌∙◌, true≢false}
use Rattle.std.specs.Cmp.{IsTotalOrder}
use Rattle.std.specs.FinMap.{FinMap, IsAntisymmetric, entries, from_entries, get, keys}
use Rattle.std.specs.FinSet as set
use Rattle.std.specs.List.{AllByRecursion, list_any}
use Rattle.std.specs.List.Sorted.{IsStrictlySortedBy}
use Rattle.std.specs.Option.{option_or}
use Rattle.std.specs.Ordering.{eq_by_cmp}
use Rattle.std.proofs.lemmas.List.{append-nil}
use Rattle.std.proofs.lemmas.List.Elements.{All-from_recursion, All-nil, recursion_from_All}
use Rattle.std.proofs.lemmas.List.Kept.{IsStrictlySortedBy-filter}
use Rattle.std.proofs.lemmas.Map.Views.{tells_apart}
use Rattle.keep_names.proofs.Orders.{id_exact, id_total, name_exact}
use Rattle.keep_names.specs.FileName.{named}
use Rattle.keep_names.specs.Laws.{NamesAreOrdered}
use Rattle.keep_names.specs.Orders.{id_cmp, name_cmp}
use Rattle.keep_names.specs.declared.blob.BlobId.{BlobId}
use Rattle.keep_names.specs.declared.file_name.FileName.{FileName}
use Rattle.keep_names.specs.declared.file_name.Kind.TheVariants.{Pack, Snapshot}
use Rattle.keep_names.specs.declared.id.Id.{Id}
use Rattle.keep_repo.specs.Repository.{Repository, held}
use Rattle.keep_repo.specs.declared.facet.Mark.{Mark}
use Rattle.keep_change.specs.Change.{is_met, written}
use Rattle.keep_change.specs.Filling.{has_pack}
use Rattle.keep_change.specs.Form.{AreNamedByBytes, IsWellFormed}
use Rattle.keep_change.specs.Lists.{AreApart, SortedListsAreWellFormed, WhatIsAskedIsMet, marked_packs}
use Rattle.keep_change.specs.NamedBytes.{NamedBytes}
use Rattle.keep_change.specs.declared.change.Change.{Change}
use Rattle.keep_change.specs.declared.change.PackMark.{PackMark}
use Rattle.keep_repo.proofs.Rising.{keys_in_order}
use Rattle.keep_catalog.proofs.Ordered.{in_order-same}
use Rattle.keep_catalog.specs.Files.{ids_in}
use Rattle.keep_catalog.specs.Ordered.{in_order, keyed}
use Rattle.keep_catalog.specs.Places.{is_unmarked}
use Rattle.keep_reach.specs.Snapshots.{broken_in}
use Rattle.keep_reach.specs.Used.{used_in}
use Rattle.keep_catalog.specs.declared.reach_error.ReachError.{ReachError}
use Rattle.keep_plan.proofs.Ordered.{All-entries, All-of_map, each_so, filter_passes}
use Rattle.keep_plan.specs.Refusal.{unless, unreached_first, unread_first}
use Rattle.keep_plan.specs.Reuse.{reused_packs}
use Rattle.keep_plan.specs.Storing.{CanBeMade, is_there, stored_built}
use Rattle.keep_plan.specs.declared.plan_error.PlanError.{PlanError}
use Rattle.keep_plan.specs.declared.plan_error.PlanError.TheVariants.{NothingToDo}
use Rattle.keep_upkeep.specs.Mark.{gone_snapshots, mark_at, mark_change, marking, marking_of, needed_in, not_there, unneeded_but, unneeded_packs, why_unknown}
use Rattle.keep_upkeep.proofs.MarkLists.{ids_rise, named_rise}

-- ---- what a planned mark is

-- the change that marks these packs
abbrev pub mark_of : Repository → set.FinSet id_cmp → ℤ → List Id → Change
mark_of r known moment packs = marking (map (mark_at moment) packs) (needed_in r) (map (named Snapshot) (gone_snapshots r known))

none_broken : (unread : Option PlanError) (broken : List (Id × ReachError)) → option_or unread (unreached_first (map (λ (b : Id × ReachError). b.1) broken)) ≡ None → broken ≡ []
none_broken (Some error) broken h = cc h
none_broken None [] h = refl
none_broken None (b ∷ broken) h = cc h

-- what the packs that no snapshot needs make so, if there are some and no snapshot is broken, a planned mark is
module _ (r : Repository) (known : set.FinSet id_cmp) (moment : ℤ) (P : Change → Type 0)
    (so : broken_in r ≡ [] → unneeded_packs r ≢ [] → P (mark_of r known moment (unneeded_packs r))) (c : Change) where
  due_so : (packs : List Id) → unneeded_packs r ≡ packs → broken_in r ≡ [] → marking_of r known moment packs ≡ Ok c → P c
  due_so [] same whole is = (cc is)
  due_so (pack ∷ packs) same whole is =
      let made : mark_of r known moment (pack ∷ packs) ≡ c = cc is in
      let Q : List Id → Type 0 = λ ps. ps ≢ [] → P (mark_of r known moment ps) in
      subst P made (subst Q same (so whole) (λ e. (cc e)))

  pub mark_so : mark_change r known moment ≡ Ok c → P c
  unfolding mark_change
  mark_so is = cases (why_unknown r) refl is where
    cases : (why : Option PlanError) → why_unknown r ≡ why → unless why (marking_of r known moment (unneeded_packs r)) ≡ Ok c → P c
    cases (Some error) known_why h = (cc h)
    cases None none h = due_so (unneeded_packs r) refl (none_broken (unread_first r) (broken_in r) none) h

-- ---- keys of lists

-- what each of a list is, one that is among them is
among_so : {K : Type 0} {R : K → K → Ordering} (exact : IsAntisymmetric R) (P : K → Type 0) (k : K) (ks : List K) → AllByRecursion P ks → list_any (eq_by_cmp R k) ks ≡ true → P k
among_so exact P k [] h among = (cc among)
among_so {R = R} exact P k (x ∷ ks) h among = cases (among_so exact P k ks h.1) (eq_by_cmp R k x) refl among where
  cases : (list_any (eq_by_cmp R k) ks ≡ true → P k) → (b : Bool) → eq_by_cmp R k x ≡ b → (b || list_any (eq_by_cmp R k) ks) ≡ true → P k
  cases later true same _ = subst P (sym (tells_apart exact k x same)) h.0
  cases later false other rest = later rest

-- keys in order are all so where the keys are
module _ {K : Type 0} {R : K → K → Ordering} (total : IsTotalOrder R) (exact : IsAntisymmetric R) (P : K → Type 0) where
  each_keyed : (ks : List K) → AllByRecursion P ks → AllByRecursion (λ (e : K × Unit {0}). P e.0) (map keyed ks)
  each_keyed [] h = tt
  each_keyed (k ∷ ks) h = (h.0, each_keyed ks h.1)

  all_in_order : (ks : List K) → AllByRecursion P ks → AllByRecursion P (in_order R ks)
  all_in_order ks h =
      All-of_map P (λ (e : K × Unit {0}). e.0) (entries (from_entries {R = R} (map keyed ks)))
      (All-entries total exact (λ (e : K × Unit {0}). P e.0) (map keyed ks) (each_keyed ks h))

none_sorted : {K : Type 0} (R : K → K → Ordering) → IsStrictlySortedBy R []
unfolding IsStrictlySortedBy
none_sorted R = tt

first_of_and : (a b : Bool) → (a && b) ≡ true → a ≡ true
first_of_and true b h = refl
first_of_and false b h = h

second_of_and : (a b : Bool) → (a && b) ≡ true → b ≡ true
second_of_and true b h = h
second_of_and false b h = (cc h)

not_true : (b : Bool) → not b ≡ true → b ≡ false
not_true true h = (cc h)
not_true false h = refl

no_mark : (o : Option Mark) → is_none o ≡ true → o ≡ None
no_mark None h = refl
no_mark (Some mark) h = cc h

no_file : (o : Option (List ℕ)) → not (is_some o) ≡ true → o ≡ None
no_file None h = refl
no_file (Some bytes) h = cc h

-- ---- the lists of a mark

module _ (r : Repository) (known : set.FinSet id_cmp) (moment : ℤ) where
  packs_of_marks : (packs : List Id) → marked_packs (map (mark_at moment) packs) ≡ packs
  packs_of_marks [] = refl
  packs_of_marks (pack ∷ packs) = ap (λ (ps : List Id). pack ∷ ps) (packs_of_marks packs)

  abbrev is_needed : Id → Bool
  is_needed = has_pack (reused_packs r (used_in r))

  abbrev IsUnneeded : Id → Type 0
  IsUnneeded pack = (is_unmarked r pack && not (is_needed pack)) ≡ true

  each_unneeded : AllByRecursion IsUnneeded (unneeded_packs r)
  unfolding unneeded_packs
  each_unneeded = filter_passes (λ pack. is_unmarked r pack && not (is_needed pack)) (ids_in r Pack)

  packs_rise : NamesAreOrdered → IsStrictlySortedBy id_cmp (unneeded_packs r)
  unfolding unneeded_packs
  packs_rise law =
      IsStrictlySortedBy-filter id_cmp (λ pack. is_unmarked r pack && not (is_needed pack)) (ids_in r Pack)
      (ids_rise law Pack (keys r.files) (keys_in_order name_cmp r.files))

  -- a pack that is to be unmarked is needed
  pub free_is_needed : (pack : Id) → has_pack (needed_in r).unmarked pack ≡ is_needed pack
  unfolding stored_built
  free_is_needed pack =
      in_order-same id_total pack (reused_packs r (used_in r) ++ [])
      ∙ ap (λ (packs : List Id). has_pack packs pack) (append-nil (reused_packs r (used_in r)))

  marks_apart : AreApart id_cmp (marked_packs (map (mark_at moment) (unneeded_packs r))) (needed_in r).unmarked
  marks_apart pack among =
      let here : IsUnneeded pack = among_so id_exact IsUnneeded pack (unneeded_packs r) each_unneeded (ap (λ (packs : List Id). has_pack packs pack) (sym (packs_of_marks (unneeded_packs r))) ∙ among) in
      free_is_needed pack ∙ not_true (is_needed pack) (second_of_and (is_unmarked r pack) (not (is_needed pack)) here)

  marks_free : AllByRecursion (λ (m : PackMark). get r.marks m.pack ≡ None) (map (mark_at moment) (unneeded_packs r))
  marks_free =
      All-of_map (λ (m : PackMark). get r.marks m.pack ≡ None) (mark_at moment) (unneeded_packs r)
      (each_so IsUnneeded (λ pack. get r.marks pack ≡ None)
      (λ pack h. no_mark (get r.marks pack) (first_of_and (is_unmarked r pack) (not (is_needed pack)) h)) (unneeded_packs r) each_unneeded)

  -- ---- the snapshots that are gone

  gone_rise : IsStrictlySortedBy name_cmp (map (named Snapshot) (gone_snapshots r known))
  unfolding gone_snapshots
  gone_rise = named_rise (in_order id_cmp (not_there r (set.items known))) (keys_in_order id_cmp (from_entries {R = id_cmp} (map keyed (not_there r (set.items known)))))

  each_gone : AllByRecursion (λ name. get r.files name ≡ None) (map (named Snapshot) (gone_snapshots r known))
  unfolding gone_snapshots
  each_gone =
      All-of_map (λ name. get r.files name ≡ None) (named Snapshot) (in_order id_cmp (not_there r (set.items known)))
      (each_so (λ snapshot. not (is_there r (named Snapshot snapshot)) ≡ true) (λ snapshot. get r.files (named Snapshot snapshot) ≡ None)
      (λ snapshot h. no_file (get r.files (named Snapshot snapshot)) h) (in_order id_cmp (not_there r (set.items known)))
      (all_in_order id_total id_exact (λ snapshot. not (is_there r (named Snapshot snapshot)) ≡ true) (not_there r (set.items known))
      (filter_passes (λ snapshot. not (is_there r (named Snapshot snapshot))) (set.items known))))

  not_both : (o : Option (List ℕ)) → IsSome o → o ≡ None → ⊥
  not_both None some none = (cc some)
  not_both (Some bytes) some none = (cc none)

  files_apart : CanBeMade r (needed_in r) → AreApart name_cmp (needed_in r).present (map (named Snapshot) (gone_snapshots r known))
  files_apart can name among = cases (list_any (eq_by_cmp name_cmp name) (map (named Snapshot) (gone_snapshots r known))) refl where
    there : IsSome (get r.files name)
    there = among_so name_exact (λ n. IsSome (get r.files n)) name (needed_in r).present (recursion_from_All (λ n. IsSome (get r.files n)) (needed_in r).present can.present) among

    cases : (b : Bool) → list_any (eq_by_cmp name_cmp name) (map (named Snapshot) (gone_snapshots r known)) ≡ b → b ≡ false
    cases true gone = absurd (not_both (get r.files name) there (among_so name_exact (λ n. get r.files n ≡ None) name (map (named Snapshot) (gone_snapshots r known)) each_gone gone))
    cases false here = refl

  -- ---- the whole

  writes : (packs : List Id) → packs ≢ [] → written (mark_of r known moment packs) ≢ []
  writes [] some e = some refl
  writes (pack ∷ packs) some e = (cc e)

  made_well_formed : NamesAreOrdered → CanBeMade r (needed_in r) → SortedListsAreWellFormed → unneeded_packs r ≢ [] → IsWellFormed (mark_of r known moment (unneeded_packs r))
  made_well_formed names can law some =
      law (mark_of r known moment (unneeded_packs r))
      (record {
        adds = none_sorted _;
        drops = none_sorted _;
        sets = subst (λ (packs : List Id). IsStrictlySortedBy id_cmp packs) (sym (packs_of_marks (unneeded_packs r))) (packs_rise names);
        clears = none_sorted _;
        present = can.present_in_order;
        absent = gone_rise;
        marked = none_sorted _;
        unmarked = can.unmarked_in_order;
      })
      (record {
        adds_drops = λ k h. refl;
        adds_present = λ k h. (cc h);
        adds_absent = λ k h. (cc h);
        drops_present = λ k h. (cc h);
        drops_absent = λ k h. (cc h);
        present_absent = files_apart can;
      })
      (record {
        sets_clears = λ k h. refl;
        sets_marked = λ k h. refl;
        sets_unmarked = marks_apart;
        clears_marked = λ k h. refl;
        clears_unmarked = λ k h. (cc h);
        marked_unmarked = λ k h. (cc h);
      })
      (All-nil _)
      (writes (unneeded_packs r) some)

  made_met : CanBeMade r (needed_in r) → WhatIsAskedIsMet → is_met (held r) (mark_of r known moment (unneeded_packs r)) ≡ true
  made_met can law =
      law (mark_of r known moment (unneeded_packs r)) r
      (record {
        adds = All-nil _;
        drops = All-nil _;
        sets = All-from_recursion (λ (m : PackMark). get r.marks m.pack ≡ None) (map (mark_at moment) (unneeded_packs r)) marks_free;
        clears = All-nil _;
        present = can.present;
        absent = All-from_recursion (λ name. get r.files name ≡ None) (map (named Snapshot) (gone_snapshots r known)) each_gone;
        marked = All-nil _;
        unmarked = can.unmarked;
      })

-- what is settled can be made of the repository
abbrev pub StoredIsMade : Type 0
StoredIsMade = (r : Repository) (used : List BlobId) (built : List NamedBytes) → AreNamedByBytes built → CanBeMade r (stored_built r used built)

pub mark_well_formed : NamesAreOrdered → StoredIsMade → SortedListsAreWellFormed → (r : Repository) (known : set.FinSet id_cmp) (moment : ℤ) (c : Change) → mark_change r known moment ≡ Ok c → IsWellFormed c
mark_well_formed names settles law r known moment c is =
    mark_so r known moment IsWellFormed (λ whole some. made_well_formed r known moment names (settles r (used_in r) [] (All-nil _)) law some) c is

pub mark_met : StoredIsMade → WhatIsAskedIsMet → (r : Repository) (known : set.FinSet id_cmp) (moment : ℤ) (c : Change) → mark_change r known moment ≡ Ok c → is_met (held r) c ≡ true
mark_met settles law r known moment c is =
    mark_so r known moment (λ d. is_met (held r) d ≡ true) (λ whole some. made_met r known moment (settles r (used_in r) [] (All-nil _)) law) c is
