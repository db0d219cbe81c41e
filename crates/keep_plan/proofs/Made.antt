-- What is settled can be made of the repository.
use Rattle.std.proofs.Common.{◌≡◌, ℕ, Bool, true, false, not, cond, List, [], ◌∷◌, ◌++◌, map, filter, All, IsSome, None, Option, Some, Ordering, is_none, is_some, refl, sym, ap, subst, ◌||◌, ◌∙◌}
use Rattle.std.proofs.lemmas.Bool.{or_left, or_right}
use Rattle.std.proofs.lemmas.Map.Views.{any-filter_same, tells_apart}
use Rattle.std.specs.Cmp.{IsTotalOrder}
use Rattle.std.specs.FinMap.{FinMap, IsAntisymmetric, entries, from_entries, get, retain_keys, find, contains_key-keys, get-from_entries, get-retain_keys}
use Rattle.std.specs.List.{AllByRecursion}
use Rattle.std.specs.List.Sorted.{IsStrictlySortedBy}
use Rattle.std.specs.Ordering.{eq_by_cmp}
use Rattle.std.proofs.lemmas.List.Elements.{All-from_recursion, recursion_from_All}
use Rattle.keep_catalog.specs.Ordered.{in_order, keyed}
use Rattle.keep_catalog.specs.Places.{is_unmarked}
use Rattle.keep_repo.proofs.Rising.{keys_in_order}
use Rattle.keep_change.specs.Form.{AreNamedByBytes}
use Rattle.keep_change.specs.Lists.{file_names, marked_packs}
use Rattle.keep_change.specs.NamedBytes.{NamedBytes}
use Rattle.keep_change.specs.declared.change.PackMark.{PackMark}
use Rattle.keep_change.specs.Filling.{has_name, has_pack}
use Rattle.keep_names.proofs.Orders.{id_exact, id_total, name_exact, name_total}
use Rattle.keep_names.specs.Orders.{id_cmp, name_cmp}
use Rattle.keep_names.specs.Sha256.{sha256}
use Rattle.keep_names.specs.declared.blob.BlobId.{BlobId}
use Rattle.keep_names.specs.declared.file_name.FileName.{FileName}
use Rattle.keep_names.specs.declared.id.Id.{Id}
use Rattle.keep_repo.specs.Repository.{Repository}
use Rattle.keep_repo.specs.declared.facet.Mark.{Mark}
use Rattle.keep_plan.specs.Reuse.{reused_files, reused_packs}
use Rattle.keep_change.specs.Marks.{pack_mark}
use Rattle.keep_plan.specs.Storing.{CanBeMade, StoresBuilt, absent_files, absent_of, is_there, marks_on, names_there, packs_among, stored_built, under_name, unmarked_of}
use Rattle.keep_plan.proofs.Grounds.{reused_free, reused_there}
use Rattle.keep_plan.proofs.Ordered.{All-entries, All-of_map, each_so, filter_passes, retained_there}
use Rattle.keep_plan.proofs.Recorded.{among_second}

All-append : {X : Type 0} (P : X → Type 0) (xs ys : List X) → AllByRecursion P xs → AllByRecursion P ys → AllByRecursion P (xs ++ ys)
All-append P [] ys h g = g
All-append P (x ∷ xs) ys h g = (h.0, All-append P xs ys h.1 g)

-- keys in order, each once, are all so where the keys are
module _ {K : Type 0} {R : K → K → Ordering} (total : IsTotalOrder R) (exact : IsAntisymmetric R) (P : K → Type 0) where
  each_keyed : (ks : List K) → AllByRecursion P ks → AllByRecursion (λ (e : K × Unit {0}). P e.0) (map keyed ks)
  each_keyed [] h = tt
  each_keyed (k ∷ ks) h = (h.0, each_keyed ks h.1)

  All-in_order : (ks : List K) → AllByRecursion P ks → AllByRecursion P (in_order R ks)
  All-in_order ks h =
      All-of_map P (λ (e : K × Unit {0}). e.0) (entries (from_entries {R = R} (map keyed ks)))
      (All-entries total exact (λ (e : K × Unit {0}). P e.0) (map keyed ks) (each_keyed ks h))

-- ---- the adds

module _ (r : Repository) where
  abbrev IsUnder : FileName × NamedBytes → Type 0
  IsUnder e = e.1.name ≡ e.0

  -- a file that is absent stands under its name, which its bytes have
  record IsNew (e : FileName × NamedBytes) : Type 0 where
    under : e.1.name ≡ e.0
    named : e.1.name.id.0 ≡ sha256 e.1.bytes
    absent : is_there r e.1.name ≡ false

  each_new : (built : List NamedBytes) → AllByRecursion (λ (f : NamedBytes). f.name.id.0 ≡ sha256 f.bytes) built → AllByRecursion IsNew (absent_of r built)
  each_new [] h = tt
  each_new (file ∷ files) h = cases (each_new files h.1) (is_there r file.name) refl where
    cases : AllByRecursion IsNew (absent_of r files) → (b : Bool) → is_there r file.name ≡ b
        → AllByRecursion IsNew (map under_name (cond (not b) (file ∷ filter (λ (f : NamedBytes). not (is_there r f.name)) files) (filter (λ (f : NamedBytes). not (is_there r f.name)) files)))
    cases later true is = later
    cases later false is = (record { under = refl; named = h.0; absent = is }, later)

  all_new : (built : List NamedBytes) → AreNamedByBytes built → AllByRecursion IsNew (entries (from_entries {R = name_cmp} (absent_of r built)))
  all_new built h =
      All-entries name_total name_exact IsNew (absent_of r built)
      (each_new built (recursion_from_All (λ (f : NamedBytes). f.name.id.0 ≡ sha256 f.bytes) built h))

  names_are : (es : List (FileName × NamedBytes)) → AllByRecursion IsUnder es → file_names (map (λ e. e.1) es) ≡ map (λ e. e.0) es
  names_are [] h = refl
  names_are (e ∷ es) h = (λ i. h.0 i ∷ names_are es h.1 i)

  adds_rise : (built : List NamedBytes) → AreNamedByBytes built → IsStrictlySortedBy name_cmp (file_names (absent_files r built))
  adds_rise built h =
      subst (λ (names : List FileName). IsStrictlySortedBy name_cmp names) (sym (names_are (entries (from_entries {R = name_cmp} (absent_of r built)))
      (each_so IsNew IsUnder (λ e new. new.under) (entries (from_entries {R = name_cmp} (absent_of r built))) (all_new built h))))
      (keys_in_order name_cmp (from_entries {R = name_cmp} (absent_of r built)))

  all_adds : (P : NamedBytes → Type 0) → ((e : FileName × NamedBytes) → IsNew e → P e.1) → (built : List NamedBytes) → AreNamedByBytes built → All P (absent_files r built)
  all_adds P so built h =
      All-from_recursion P (absent_files r built)
      (All-of_map P (λ (e : FileName × NamedBytes). e.1) (entries (from_entries {R = name_cmp} (absent_of r built)))
      (each_so IsNew (λ (e : FileName × NamedBytes). P e.1) so (entries (from_entries {R = name_cmp} (absent_of r built))) (all_new built h)))

  -- ---- the marks

  packs_are : (es : List (Id × Mark)) → marked_packs (map pack_mark es) ≡ map (λ e. e.0) es
  packs_are [] = refl
  packs_are (e ∷ es) = ap (λ (packs : List Id). e.0 ∷ packs) (packs_are es)

  clears_rise : (packs : List Id) → IsStrictlySortedBy id_cmp (marked_packs (marks_on r packs))
  clears_rise packs =
      subst (λ (ids : List Id). IsStrictlySortedBy id_cmp ids) (sym (packs_are (entries (retain_keys r.marks (has_pack packs)))))
      (keys_in_order id_cmp (retain_keys r.marks (has_pack packs)))

  all_marked : (packs : List Id) → All (λ (m : PackMark). get r.marks m.pack ≡ Some m.mark) (marks_on r packs)
  all_marked packs =
      All-from_recursion (λ (m : PackMark). get r.marks m.pack ≡ Some m.mark) (marks_on r packs)
      (All-of_map (λ (m : PackMark). get r.marks m.pack ≡ Some m.mark) pack_mark (entries (retain_keys r.marks (has_pack packs)))
      (retained_there id_total id_exact r.marks (has_pack packs)))

  -- ---- the whole

  no_file : (name : FileName) → is_there r name ≡ false → get r.files name ≡ None
  no_file name h = cases (get r.files name) h where
    cases : (o : Option (List ℕ)) → is_some o ≡ false → o ≡ None
    cases None h = refl
    cases (Some bytes) h = cc h

  some_file : (name : FileName) → is_there r name ≡ true → IsSome (get r.files name)
  some_file name h = h

  no_mark : (pack : Id) → is_unmarked r pack ≡ true → get r.marks pack ≡ None
  no_mark pack h = cases (get r.marks pack) h where
    cases : (o : Option Mark) → is_none o ≡ true → o ≡ None
    cases None h = refl
    cases (Some mark) h = cc h

  all_present : (names : List FileName) → AllByRecursion (λ name. is_there r name ≡ true) names → All (λ name. IsSome (get r.files name)) (in_order name_cmp names)
  all_present names h =
      All-from_recursion (λ name. IsSome (get r.files name)) (in_order name_cmp names)
      (each_so (λ name. is_there r name ≡ true) (λ name. IsSome (get r.files name)) some_file (in_order name_cmp names)
      (All-in_order name_total name_exact (λ name. is_there r name ≡ true) names h))

  all_unmarked : (packs : List Id) → AllByRecursion (λ pack. is_unmarked r pack ≡ true) packs → All (λ pack. get r.marks pack ≡ None) (in_order id_cmp packs)
  all_unmarked packs h =
      All-from_recursion (λ pack. get r.marks pack ≡ None) (in_order id_cmp packs)
      (each_so (λ pack. is_unmarked r pack ≡ true) (λ pack. get r.marks pack ≡ None) no_mark (in_order id_cmp packs)
      (All-in_order id_total id_exact (λ pack. is_unmarked r pack ≡ true) packs h))

  -- what all built files are the added ones are
  each_so_absent : (P : NamedBytes → Type 0) (built : List NamedBytes) → AllByRecursion P built → AllByRecursion (λ (e : FileName × NamedBytes). P e.1) (absent_of r built)
  each_so_absent P [] h = tt
  each_so_absent P (file ∷ files) h = cases (each_so_absent P files h.1) (is_there r file.name) where
    cases : AllByRecursion (λ (e : FileName × NamedBytes). P e.1) (absent_of r files) → (b : Bool)
        → AllByRecursion (λ (e : FileName × NamedBytes). P e.1) (map under_name (cond (not b) (file ∷ filter (λ (f : NamedBytes). not (is_there r f.name)) files) (filter (λ (f : NamedBytes). not (is_there r f.name)) files)))
    cases later true = later
    cases later false = (h.0, later)

  pub added_so : (P : NamedBytes → Type 0) (built : List NamedBytes) → AllByRecursion P built → AllByRecursion P (absent_files r built)
  added_so P built h =
      All-of_map P (λ (e : FileName × NamedBytes). e.1) (entries (from_entries {R = name_cmp} (absent_of r built)))
      (All-entries name_total name_exact (λ (e : FileName × NamedBytes). P e.1) (absent_of r built) (each_so_absent P built h))

  pub settled_made : (used : List BlobId) (built : List NamedBytes) → AreNamedByBytes built → CanBeMade r (stored_built r used built)
  unfolding stored_built
  settled_made used built h = record {
    adds_in_order = adds_rise built h;
    clears_in_order = clears_rise (packs_among built);
    present_in_order = keys_in_order name_cmp (from_entries {R = name_cmp} (map keyed (reused_files r used ++ names_there r built)));
    unmarked_in_order = keys_in_order id_cmp (from_entries {R = id_cmp} (map keyed (reused_packs r used ++ unmarked_of r (packs_among built))));
    named = all_adds (λ f. f.name.id.0 ≡ sha256 f.bytes) (λ e new. new.named) built h;
    adds = all_adds (λ f. get r.files f.name ≡ None) (λ e new. no_file e.1.name new.absent) built h;
    clears = all_marked (packs_among built);
    present = all_present (reused_files r used ++ names_there r built)
        (All-append (λ name. is_there r name ≡ true) (reused_files r used) (names_there r built) (reused_there r used) (filter_passes (is_there r) (file_names built)));
    unmarked = all_unmarked (reused_packs r used ++ unmarked_of r (packs_among built))
        (All-append (λ pack. is_unmarked r pack ≡ true) (reused_packs r used) (unmarked_of r (packs_among built)) (reused_free r used) (filter_passes (is_unmarked r) (packs_among built)));
  }

-- ---- what becomes of each file

module _ (r : Repository) where
  each_under : (built : List NamedBytes) → AllByRecursion (IsUnder r) (absent_of r built)
  each_under [] = tt
  each_under (file ∷ files) = cases (each_under files) (is_there r file.name) where
    cases : AllByRecursion (IsUnder r) (absent_of r files) → (b : Bool)
        → AllByRecursion (IsUnder r) (map under_name (cond (not b) (file ∷ filter (λ (f : NamedBytes). not (is_there r f.name)) files) (filter (λ (f : NamedBytes). not (is_there r f.name)) files)))
    cases later true = later
    cases later false = (refl, later)

  -- a built file that is absent is found by its name
  found_absent : (name : FileName) → is_there r name ≡ false → (built : List NamedBytes) → has_name (file_names built) name ≡ true → is_some (find name_cmp name (absent_of r built)) ≡ true
  found_absent name absent [] h = cc h
  found_absent name absent (file ∷ files) h = cases (found_absent name absent files) (eq_by_cmp name_cmp name file.name) refl h (is_there r file.name) refl where
    later : List NamedBytes
    later = filter (λ (f : NamedBytes). not (is_there r f.name)) files

    cases : (has_name (file_names files) name ≡ true → is_some (find name_cmp name (map under_name later)) ≡ true) → (t : Bool) → eq_by_cmp name_cmp name file.name ≡ t → (t || has_name (file_names files) name) ≡ true
        → (b : Bool) → is_there r file.name ≡ b → is_some (find name_cmp name (map under_name (cond (not b) (file ∷ later) later))) ≡ true
    cases rest true same _ true there = absurd (cc (ap (is_there r) (tells_apart name_exact name file.name same), there, absent))
    cases rest true same _ false there = ap (λ t. is_some (cond t (Some file) (find name_cmp name (map under_name later)))) same
    cases rest false other found true there = rest found
    cases rest false other found false there = ap (λ t. is_some (cond t (Some file) (find name_cmp name (map under_name later)))) other ∙ rest found

  -- so it is added
  added_if_absent : (built : List NamedBytes) (name : FileName) → has_name (file_names built) name ≡ true → is_there r name ≡ false → has_name (file_names (absent_files r built)) name ≡ true
  added_if_absent built name among absent =
      let made : FinMap name_cmp NamedBytes = from_entries {R = name_cmp} (absent_of r built) in
      ap (λ (names : List FileName). has_name names name) (names_are r (entries made) (All-entries name_total name_exact (IsUnder r) (absent_of r built) (each_under built)))
      ∙ sym (contains_key-keys made name) ∙ ap is_some (get-from_entries name_total (absent_of r built) name)
      ∙ found_absent name absent built among

  -- and a file that is there has to be present
  present_if_there : (used : List BlobId) (built : List NamedBytes) (name : FileName) → has_name (file_names built) name ≡ true → is_there r name ≡ true → has_name (in_order name_cmp (reused_files r used ++ names_there r built)) name ≡ true
  present_if_there used built name among there =
      among_second name_total name (reused_files r used) (names_there r built)
      (any-filter_same (eq_by_cmp name_cmp name) (is_there r) true (λ k same. ap (is_there r) (sym (tells_apart name_exact name k same)) ∙ there) (file_names built) ∙ among)

  some_marked : (o : Option Mark) → is_none o ≡ false → is_some o ≡ true
  some_marked None h = cc h
  some_marked (Some mark) h = refl

  -- the mark of a marked pack is cleared
  cleared_if_marked : (packs : List Id) (pack : Id) → has_pack packs pack ≡ true → is_unmarked r pack ≡ false → has_pack (marked_packs (marks_on r packs)) pack ≡ true
  cleared_if_marked packs pack among marked =
      let kept : FinMap id_cmp Mark = retain_keys r.marks (has_pack packs) in
      ap (λ (ids : List Id). has_pack ids pack) (packs_are r (entries kept)) ∙ sym (contains_key-keys kept pack)
      ∙ ap is_some (get-retain_keys r.marks (has_pack packs) pack (λ x tied. ap (has_pack packs) (sym (id_exact pack x tied))))
      ∙ ap (λ t. is_some (cond t (get r.marks pack) None)) among ∙ some_marked (get r.marks pack) marked

  -- and another pack has to be unmarked
  free_if_unmarked : (used : List BlobId) (packs : List Id) (pack : Id) → has_pack packs pack ≡ true → is_unmarked r pack ≡ true → has_pack (in_order id_cmp (reused_packs r used ++ unmarked_of r packs)) pack ≡ true
  free_if_unmarked used packs pack among free =
      among_second id_total pack (reused_packs r used) (unmarked_of r packs)
      (any-filter_same (eq_by_cmp id_cmp pack) (is_unmarked r) true (λ k same. ap (is_unmarked r) (sym (tells_apart id_exact pack k same)) ∙ free) packs ∙ among)

  pub each_settled : (used : List BlobId) (built : List NamedBytes) → StoresBuilt built (stored_built r used built)
  unfolding stored_built
  each_settled used built = record {
    files = λ name among. file_cases name among (is_there r name) refl;
    packs = λ pack among. pack_cases pack among (is_unmarked r pack) refl;
  } where
    file_cases : (name : FileName) → has_name (file_names built) name ≡ true → (b : Bool) → is_there r name ≡ b
        → (has_name (file_names (absent_files r built)) name || has_name (in_order name_cmp (reused_files r used ++ names_there r built)) name) ≡ true
    file_cases name among true there = or_right (has_name (file_names (absent_files r built)) name) _ (present_if_there used built name among there)
    file_cases name among false absent = or_left _ (has_name (in_order name_cmp (reused_files r used ++ names_there r built)) name) (added_if_absent built name among absent)

    pack_cases : (pack : Id) → has_pack (packs_among built) pack ≡ true → (b : Bool) → is_unmarked r pack ≡ b
        → (has_pack (marked_packs (marks_on r (packs_among built))) pack || has_pack (in_order id_cmp (reused_packs r used ++ unmarked_of r (packs_among built))) pack) ≡ true
    pack_cases pack among true free = or_right (has_pack (marked_packs (marks_on r (packs_among built))) pack) _ (free_if_unmarked used (packs_among built) pack among free)
    pack_cases pack among false marked = or_left _ (has_pack (in_order id_cmp (reused_packs r used ++ unmarked_of r (packs_among built))) pack) (cleared_if_marked (packs_among built) pack among marked)
