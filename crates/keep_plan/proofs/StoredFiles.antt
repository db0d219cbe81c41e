-- What becomes of one more built file, and of its pack's mark; and what that comes to in order.
use Rattle.std.proofs.Common.{◌≡◌, ℤ, Bool, true, false, ◌||◌, not, cond, List, [], ◌∷◌, ◌++◌, map, filter, Option, None, Some, Ordering, is_some, refl, sym, ap, subst, ◌∙◌}
use Rattle.std.specs.BTreeMap.{BTreeMap, is_at}
use Rattle.std.specs.BTreeMap as tree
use Rattle.std.specs.BTreeSet.{BTreeSet, contains}
use Rattle.std.specs.BTreeSet as bag
use Rattle.std.specs.Cmp.{IsTotalOrder, eq_by_cmp_equiv}
use Rattle.std.specs.FinMap.{FinMap, IsAntisymmetric, entries, find, from_entries, get, get-from_entries, get-retain_keys, keys, retain_keys, same_map}
use Rattle.std.specs.List.{list_any}
use Rattle.std.specs.List.Sorted.{IsStrictlySortedBy}
use Rattle.std.specs.Map.{keys_of}
use Rattle.std.specs.Option.{option_map, option_or}
use Rattle.std.specs.Ordering.{eq_by_cmp}
use Rattle.std.proofs.Math.Bool.{or_assoc}
use Rattle.std.proofs.lemmas.List.{map-append}
use Rattle.std.proofs.lemmas.List.Elements.{filter-append}
use Rattle.std.proofs.lemmas.List.Folds.{list_any-append}
use Rattle.std.proofs.lemmas.Map.Views.{tells_apart}
use Rattle.keep_change.specs.Filling.{has_pack}
use Rattle.keep_names.proofs.Orders.{id_exact, id_total, name_exact, name_total}
use Rattle.keep_names.specs.Orders.{id_cmp, name_cmp}
use Rattle.keep_names.specs.declared.file_name.FileName.{FileName}
use Rattle.keep_names.specs.declared.id.Id.{Id}
use Rattle.keep_repo.proofs.Maps.{entries_made, get_made, keys_made}
use Rattle.keep_repo.specs.Repository.{Repository}
use Rattle.keep_repo.specs.declared.facet.Mark.{Mark}
use Rattle.keep_catalog.specs.Ordered.{in_order, keyed}
use Rattle.keep_catalog.proofs.Ordered.{find_append, found_key, here, keys_keyed}
use Rattle.keep_change.specs.Lists.{file_names}
use Rattle.keep_change.specs.NamedBytes.{NamedBytes}
use Rattle.keep_plan.specs.Marks.{AreMarks}
use Rattle.keep_change.specs.Marks.{pack_mark}
use Rattle.keep_plan.specs.Storing.{absent_files, absent_of, is_there, marks_on, names_there, under_name}

-- ---- entries one after the other

or_none : {A : Type 0} (a : Option A) → a ≡ option_or a None
or_none None = refl
or_none (Some x) = refl

-- of two entries with one key the first stays
module _ {K X : Type 0} {R : K → K → Ordering} (total : IsTotalOrder R) (exact : IsAntisymmetric R) (old : BTreeMap K X) (k : K) (x : X) where
  pub had_first : is_some (tree.get R old k) ≡ true → (q : K) → tree.get R old q ≡ option_or (tree.get R old q) (find R q ((k, x) ∷ []))
  had_first there q = cases (eq_by_cmp R q k) refl where
    some_or : (o : Option X) → is_some o ≡ true → o ≡ option_or o (Some x)
    some_or None h = cc h
    some_or (Some y) h = refl

    cases : (b : Bool) → eq_by_cmp R q k ≡ b → tree.get R old q ≡ option_or (tree.get R old q) (cond b (Some x) None)
    cases true same = some_or (tree.get R old q) (ap (λ s. is_some (tree.get R old s)) (tells_apart exact q k same) ∙ there)
    cases false other = or_none (tree.get R old q)

  pub put_last : (new : BTreeMap K X) → ((q : K) → tree.get R new q ≡ cond (is_at (R k) q) (Some x) (tree.get R old q)) → is_some (tree.get R old k) ≡ false
      → (q : K) → tree.get R new q ≡ option_or (tree.get R old q) (find R q ((k, x) ∷ []))
  put_last new put absent q =
      put q ∙ ap (λ b. cond b (Some x) (tree.get R old q)) ((eq_by_cmp_equiv total).symm k q) ∙ cases (eq_by_cmp R q k) refl where
        none_then : (o : Option X) → is_some o ≡ false → Some x ≡ option_or o (Some x)
        none_then None h = refl
        none_then (Some y) h = cc h

        cases : (b : Bool) → eq_by_cmp R q k ≡ b → cond b (Some x) (tree.get R old q) ≡ option_or (tree.get R old q) (cond b (Some x) None)
        cases true same = none_then (tree.get R old q) (ap (λ s. is_some (tree.get R old s)) (tells_apart exact q k same) ∙ absent)
        cases false other = or_none (tree.get R old q)

-- ---- files

pub filled_there : {A B : Type 0} (f : A → B) (o : Option A) → is_some (option_map f o) ≡ is_some o
filled_there f None = refl
filled_there f (Some a) = refl

module _ (r : Repository) where
  absent-append : (files others : List NamedBytes) → absent_of r (files ++ others) ≡ absent_of r files ++ absent_of r others
  absent-append files others =
      ap (map under_name) (filter-append (λ (file : NamedBytes). not (is_there r file.name)) files others)
      ∙ map-append under_name (filter (λ (file : NamedBytes). not (is_there r file.name)) files) (filter (λ (file : NamedBytes). not (is_there r file.name)) others)

  names_there-append : (files others : List NamedBytes) → names_there r (files ++ others) ≡ names_there r files ++ names_there r others
  names_there-append files others =
      ap (filter (is_there r)) (map-append (λ (file : NamedBytes). file.name) files others)
      ∙ filter-append (is_there r) (file_names files) (file_names others)

  pub absent_more : (adds adds' : Option NamedBytes) (files : List NamedBytes) (file : NamedBytes) (name : FileName) → adds ≡ find name_cmp name (absent_of r files)
      → adds' ≡ option_or adds (find name_cmp name (absent_of r (file ∷ []))) → adds' ≡ find name_cmp name (absent_of r (files ++ file ∷ []))
  absent_more adds adds' files file name so step =
      step ∙ ap (λ o. option_or o (find name_cmp name (absent_of r (file ∷ [])))) so
      ∙ sym (ap (find name_cmp name) (absent-append files (file ∷ [])) ∙ find_append name_cmp name (absent_of r files) (absent_of r (file ∷ [])))

  pub there_more : (first old new : Bool) (files : List NamedBytes) (file : NamedBytes) (name : FileName) → old ≡ (first || list_any (eq_by_cmp name_cmp name) (names_there r files))
      → new ≡ (old || list_any (eq_by_cmp name_cmp name) (names_there r (file ∷ []))) → new ≡ (first || list_any (eq_by_cmp name_cmp name) (names_there r (files ++ file ∷ [])))
  there_more first old new files file name so step =
      step ∙ ap (λ t. t || list_any (eq_by_cmp name_cmp name) (names_there r (file ∷ []))) so
      ∙ or_assoc first _ _
      ∙ ap (λ t. first || t) (sym (ap (list_any (eq_by_cmp name_cmp name)) (names_there-append files (file ∷ [])) ∙ list_any-append (eq_by_cmp name_cmp name) (names_there r files) (names_there r (file ∷ []))))

  -- a file that is there, and one that isn't
  pub there_is : (file : NamedBytes) → is_there r file.name ≡ true → names_there r (file ∷ []) ≡ file.name ∷ []
  there_is file there = ap (λ t. cond t (file.name ∷ []) []) there

  pub absent_is : (file : NamedBytes) → is_there r file.name ≡ false → absent_of r (file ∷ []) ≡ (file.name, file) ∷ []
  absent_is file absent = ap (λ t. map under_name (cond (not t) (file ∷ []) [])) absent

-- ---- in order

module _ {K X : Type 0} {R : K → K → Ordering} (total : IsTotalOrder R) (exact : IsAntisymmetric R) where
  -- a map's entries are those of the finite map that answers as it does
  pub entries_are : (m : BTreeMap K X) (made : FinMap R X) → IsStrictlySortedBy R (keys_of m.entries) → ((q : K) → tree.get R m q ≡ get made q) → m.entries ≡ entries made
  entries_are m made ordered same =
      sym (entries_made total m.entries ordered)
      ∙ ap entries (same_map total exact (from_entries m.entries) made (λ q. get_made total m.entries q ∙ same q))

module _ {K : Type 0} {R : K → K → Ordering} (total : IsTotalOrder R) (exact : IsAntisymmetric R) where
  -- a set's keys are those that it answers for, in order
  pub keys_are : (s : BTreeSet K) (ks : List K) → bag.IsOrdered R s → ((q : K) → contains R s q ≡ list_any (eq_by_cmp R q) ks) → s.keys ≡ in_order R ks
  keys_are s ks ordered same =
      let Ordered : List K → Type 0 = λ xs. IsStrictlySortedBy R xs in
      sym (keys_made total (map keyed s.keys) (subst Ordered (sym (keys_keyed R s.keys)) ordered) ∙ keys_keyed R s.keys)
      ∙ ap keys (same_map total exact (from_entries (map keyed s.keys)) (from_entries (map keyed ks))
      (λ q. get-from_entries total (map keyed s.keys) q ∙ found_key R q s.keys
      ∙ ap (λ t. cond t here None) (same q)
      ∙ sym (get-from_entries total (map keyed ks) q ∙ found_key R q ks)))

-- ---- marks

module _ (r : Repository) where
  -- the marks that are on these packs, of the whole repository's
  pub marks_kept : (packs : List Id) (q : Id) → get (retain_keys r.marks (has_pack packs)) q ≡ cond (has_pack packs q) (get r.marks q) None
  marks_kept packs q = get-retain_keys r.marks (has_pack packs) q (λ x tied. ap (has_pack packs) (sym (id_exact q x tied)))

  has_pack-more : (packs : List Id) (pack q : Id) → has_pack (packs ++ pack ∷ []) q ≡ (has_pack packs q || (eq_by_cmp id_cmp q pack || false))
  has_pack-more packs pack q = list_any-append (eq_by_cmp id_cmp q) packs (pack ∷ [])

  pub mark_put : (packs : List Id) (pack : Id) (mark : Mark) (old new : BTreeMap Id Mark) → get r.marks pack ≡ Some mark
      → ((q : Id) → tree.get id_cmp new q ≡ cond (is_at (id_cmp pack) q) (Some mark) (tree.get id_cmp old q))
      → AreMarks r packs old → AreMarks r (packs ++ pack ∷ []) new
  mark_put packs pack mark old new is put are q =
      put q ∙ ap (λ t. cond t (Some mark) (tree.get id_cmp old q)) ((eq_by_cmp_equiv id_total).symm pack q)
      ∙ ap (cond (eq_by_cmp id_cmp q pack) (Some mark)) (are q)
      ∙ cases (eq_by_cmp id_cmp q pack) refl (has_pack packs q)
      ∙ ap (λ t. cond t (get r.marks q) None) (sym (has_pack-more packs pack q)) where
        marked : (q : Id) → eq_by_cmp id_cmp q pack ≡ true → Some mark ≡ get r.marks q
        marked q same = sym is ∙ ap (get r.marks) (sym (tells_apart id_exact q pack same))

        cases : (here : Bool) → eq_by_cmp id_cmp q pack ≡ here → (before : Bool) → cond here (Some mark) (cond before (get r.marks q) None) ≡ cond (before || (eq_by_cmp id_cmp q pack || false)) (get r.marks q) None
        cases true same true = marked q same
        cases true same false = marked q same ∙ ap (λ t. cond (false || (t || false)) (get r.marks q) None) (sym same)
        cases false other true = refl
        cases false other false = ap (λ t. cond (false || (t || false)) (get r.marks q) None) (sym other)

  pub mark_none : (packs : List Id) (pack : Id) (old : BTreeMap Id Mark) → get r.marks pack ≡ None → AreMarks r packs old → AreMarks r (packs ++ pack ∷ []) old
  mark_none packs pack old none are q =
      are q ∙ cases (eq_by_cmp id_cmp q pack) refl (has_pack packs q)
      ∙ ap (λ t. cond t (get r.marks q) None) (sym (has_pack-more packs pack q)) where
        cases : (here : Bool) → eq_by_cmp id_cmp q pack ≡ here → (before : Bool) → cond before (get r.marks q) None ≡ cond (before || (eq_by_cmp id_cmp q pack || false)) (get r.marks q) None
        cases _ is true = refl
        cases true same false =
            sym none ∙ ap (get r.marks) (sym (tells_apart id_exact q pack same))
            ∙ ap (λ t. cond (false || (t || false)) (get r.marks q) None) (sym same)
        cases false other false = ap (λ t. cond (false || (t || false)) (get r.marks q) None) (sym other)

-- what the moment of a mark says of it
pub mark_is : (o : Option Mark) (moment : ℤ) → option_map (λ (m : Mark). m.moment) o ≡ Some moment → o ≡ Some (record { moment = moment })
mark_is None moment h = cc h
mark_is (Some m) moment h =
    let same : m.moment ≡ moment = cc h in
    ap (λ (n : ℤ). Some (record { moment = n })) same

pub no_mark : (o : Option Mark) → option_map (λ (m : Mark). m.moment) o ≡ None → o ≡ None
no_mark None h = refl
no_mark (Some m) h = cc h

-- the files that are added, and the marks that are cleared, in order
pub absent_are : (r : Repository) (files : List NamedBytes) (adds : BTreeMap FileName NamedBytes) → tree.IsOrdered name_cmp adds
    → ((name : FileName) → tree.get name_cmp adds name ≡ find name_cmp name (absent_of r files)) → map (λ e. e.1) adds.entries ≡ absent_files r files
absent_are r files adds ordered so =
    ap (map (λ (e : FileName × NamedBytes). e.1)) (entries_are name_total name_exact adds (from_entries (absent_of r files)) ordered
    (λ name. so name ∙ sym (get-from_entries name_total (absent_of r files) name)))

pub marks_are : (r : Repository) (packs : List Id) (marks : BTreeMap Id Mark) → tree.IsOrdered id_cmp marks → AreMarks r packs marks → map pack_mark marks.entries ≡ marks_on r packs
marks_are r packs marks ordered are =
    ap (map pack_mark) (entries_are id_total id_exact marks (retain_keys r.marks (has_pack packs)) ordered (λ q. are q ∙ sym (marks_kept r packs q)))

pub same_items : (files : List NamedBytes) → map (λ file. file) files ≡ files
same_items [] = refl
same_items (file ∷ files) = ap (λ (fs : List NamedBytes). file ∷ fs) (same_items files)

-- what two lists have together
pub among_both : {K : Type 0} (R : K → K → Ordering) (q : K) (xs ys others : List K) (old new : Bool) → ys ≡ others → old ≡ list_any (eq_by_cmp R q) xs
    → new ≡ (old || list_any (eq_by_cmp R q) ys) → new ≡ list_any (eq_by_cmp R q) (xs ++ others)
among_both R q xs ys others old new same so step =
    step ∙ (λ i. so i || list_any (eq_by_cmp R q) (same i)) ∙ sym (list_any-append (eq_by_cmp R q) xs others)
