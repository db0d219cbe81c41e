-- A change whose lists are in order and apart has no facet twice.
use Rattle.std.proofs.Common.{◌≡◌, ℕ, ◌+◌, ◌≤◌, Bool, true, false, cond, List, [], ◌∷◌, map, Ordering, refl, sym, ap, ◌∙◌, subst, arith, zero-add, ◌||◌}
use Rattle.std.specs.Prelude.{count_by}
use Rattle.std.specs.Int.{from_bool}
use Rattle.std.specs.List.{list_any, AllByRecursion}
use Rattle.std.specs.List.Sorted.{IsStrictlySortedBy}
use Rattle.std.specs.Ordering.{eq_by_cmp, is_eq}
use Rattle.std.specs.declared.cmp.Ordering.TheVariants.{Less}
use Rattle.std.proofs.lemmas.List.Sums.{sum_by-cons}
use Rattle.std.proofs.lemmas.Simd.{map-map}
use Rattle.keep_names.specs.Orders.{id_cmp, name_cmp}
use Rattle.keep_names.specs.declared.file_name.FileName.{FileName}
use Rattle.keep_names.specs.declared.id.Id.{Id}
use Rattle.keep_repo.proofs.Orders.{facet_total}
use Rattle.keep_repo.specs.Facet.{facet_cmp, facet_eq}
use Rattle.keep_repo.specs.declared.facet.Facet.{Facet}
use Rattle.keep_repo.specs.declared.facet.Facet.TheVariants.{File, Mark}
use Rattle.keep_change.proofs.Once.{count_by-keys, count_by-sorted}
use Rattle.keep_change.specs.Form.{HasNoFacetTwice, IsInOrder, ListsInOrder}
use Rattle.keep_change.specs.Lists.{AreApart, AreSorted, FilesAreApart, MarksAreApart, SortedListsAreWellFormed, file_names, marked_packs}
use Rattle.keep_change.specs.NamedBytes.{NamedBytes}
use Rattle.keep_change.specs.Touch.{facets}
use Rattle.keep_change.specs.declared.change.Change.{Change}
use Rattle.keep_change.specs.declared.change.PackMark.{PackMark}

module _ {K : Type 0} (R : K → K → Ordering) (F : K → Facet) (same : (a b : K) → facet_cmp (F a) (F b) ≡ R a b) where
  all_below : (k : K) (ks : List K) → AllByRecursion (λ l. R k l ≡ Less) ks → AllByRecursion (λ l. facet_cmp (F k) l ≡ Less) (map F ks)
  all_below k [] all = tt
  all_below k (l ∷ ks) all = (same k l ∙ all.0, all_below k ks all.1)

  -- facets of keys in order are in order
  in_order : (ks : List K) → IsStrictlySortedBy R ks → IsInOrder (map F ks)
  unfolding IsStrictlySortedBy
  in_order [] sorted = tt
  in_order (k ∷ ks) sorted = (all_below k ks sorted.0, in_order ks sorted.1)

files_in_order : (files : List NamedBytes) → IsStrictlySortedBy name_cmp (file_names files) → IsInOrder (map (λ f. File f.name) files)
files_in_order files sorted =
    subst IsInOrder (map-map File (λ (f : NamedBytes). f.name) files) (in_order name_cmp File (λ a b. refl) (file_names files) sorted)

marks_in_order : (marks : List PackMark) → IsStrictlySortedBy id_cmp (marked_packs marks) → IsInOrder (map (λ m. Mark m.pack) marks)
marks_in_order marks sorted =
    subst IsInOrder (map-map Mark (λ (m : PackMark). m.pack) marks) (in_order id_cmp Mark (λ a b. refl) (marked_packs marks) sorted)

lists_in_order : (c : Change) → AreSorted c → ListsInOrder c
lists_in_order c sorted = record {
  adds = files_in_order c.adds sorted.adds;
  drops = files_in_order c.drops sorted.drops;
  sets = marks_in_order c.sets sorted.sets;
  clears = marks_in_order c.clears sorted.clears;
  present = in_order name_cmp File (λ a b. refl) c.present sorted.present;
  absent = in_order name_cmp File (λ a b. refl) c.absent sorted.absent;
  marked = in_order id_cmp Mark (λ a b. refl) c.marked sorted.marked;
  unmarked = in_order id_cmp Mark (λ a b. refl) c.unmarked sorted.unmarked;
}

-- ---- how often a facet stands in the lists

-- of four tests at most one passes, where no two do
one_of_four : (a b c d : Bool) → (a ≡ true → b ≡ false) → (a ≡ true → c ≡ false) → (a ≡ true → d ≡ false) → (b ≡ true → c ≡ false) → (b ≡ true → d ≡ false) → (c ≡ true → d ≡ false)
    → from_bool a + from_bool b + from_bool c + from_bool d ≤ 1
one_of_four true true c d ab ac ad bc bd cd = cc (ab refl)
one_of_four true false true d ab ac ad bc bd cd = cc (ac refl)
one_of_four true false false true ab ac ad bc bd cd = cc (ad refl)
one_of_four true false false false ab ac ad bc bd cd = omega arith
one_of_four false true true d ab ac ad bc bd cd = cc (bc refl)
one_of_four false true false true ab ac ad bc bd cd = cc (bd refl)
one_of_four false true false false ab ac ad bc bd cd = omega arith
one_of_four false false true true ab ac ad bc bd cd = cc (cd refl)
one_of_four false false true false ab ac ad bc bd cd = omega arith
one_of_four false false false true ab ac ad bc bd cd = omega arith
one_of_four false false false false ab ac ad bc bd cd = omega arith

-- eight counts, of which four are none, and four are at most one together
at_most_one : (a b c d e f g h x y z w : ℕ) → a ≡ x → b ≡ y → c ≡ z → d ≡ w → e ≡ 0 → f ≡ 0 → g ≡ 0 → h ≡ 0 → x + y + z + w ≤ 1
    → a + b + c + d + (e + f + g + h) ≤ 1
at_most_one a b c d e f g h x y z w ax by cz dw none-e none-f none-g none-h one = omega arith

-- four lists of keys are in order and apart, and four lists have other keys: the facet of a key stands in them at most once
module _ {K L : Type 0} (R : K → K → Ordering) (F : K → Facet) (G : L → Facet) (q : K)
    (same : (a b : K) → facet_cmp (F a) (F b) ≡ R a b) (other : (l : L) → facet_eq (F q) (G l) ≡ false) where
  abbrev is_it : Facet → Bool
  is_it = facet_eq (F q)

  any_key : (ks : List K) → list_any is_it (map F ks) ≡ list_any (eq_by_cmp R q) ks
  any_key [] = refl
  any_key (k ∷ ks) = ap (λ o. is_eq o || list_any is_it (map F ks)) (same q k) ∙ ap (λ b. eq_by_cmp R q k || b) (any_key ks)

  -- once or not at all, as the key stands among the keys
  counted : (ks : List K) → IsStrictlySortedBy R ks → count_by is_it (map F ks) ≡ from_bool (list_any (eq_by_cmp R q) ks)
  counted ks sorted = count_by-sorted facet_cmp facet_total (F q) (map F ks) (in_order R F same ks sorted) ∙ ap from_bool (any_key ks)

  none_counted : (ls : List L) → count_by is_it (map G ls) ≡ 0
  none_counted [] = refl
  none_counted (l ∷ ls) = sum_by-cons (λ f. cond (is_it f) 1 0) (G l) (map G ls) ∙ rw (other l) (zero-add _ ∙ none_counted ls)

  no_key_twice : (a b c d : List K) (e f g h : List L)
      → IsStrictlySortedBy R a → IsStrictlySortedBy R b → IsStrictlySortedBy R c → IsStrictlySortedBy R d
      → AreApart R a b → AreApart R a c → AreApart R a d → AreApart R b c → AreApart R b d → AreApart R c d
      → count_by is_it (map F a) + count_by is_it (map F b) + count_by is_it (map F c) + count_by is_it (map F d)
      + (count_by is_it (map G e) + count_by is_it (map G f) + count_by is_it (map G g) + count_by is_it (map G h)) ≤ 1
  no_key_twice a b c d e f g h rise-a rise-b rise-c rise-d ab ac ad bc bd cd =
      at_most_one _ _ _ _ _ _ _ _ _ _ _ _ (counted a rise-a) (counted b rise-b) (counted c rise-c) (counted d rise-d)
      (none_counted e) (none_counted f) (none_counted g) (none_counted h)
      (one_of_four _ _ _ _ (ab q) (ac q) (ad q) (bc q) (bd q) (cd q))

no_file_twice : (c : Change) → AreSorted c → FilesAreApart c → (name : FileName) → count_by (facet_eq (File name)) (facets c) ≤ 1
no_file_twice c sorted apart name =
    subst (λ n. n ≤ 1) (sym (count_by-keys (facet_eq (File name)) c ∙ files_first _ _ _ _ _ _ _ _))
    (no_key_twice name_cmp File Mark name (λ a b. refl) (λ pack. refl)
    (file_names c.adds) (file_names c.drops) c.present c.absent (marked_packs c.sets) (marked_packs c.clears) c.marked c.unmarked
    sorted.adds sorted.drops sorted.present sorted.absent
    apart.adds_drops apart.adds_present apart.adds_absent apart.drops_present apart.drops_absent apart.present_absent) where
      files_first : (a b c d e f g h : ℕ) → a + b + c + d + e + f + g + h ≡ a + b + e + f + (c + d + g + h)
      files_first a b c d e f g h = omega arith

no_mark_twice : (c : Change) → AreSorted c → MarksAreApart c → (pack : Id) → count_by (facet_eq (Mark pack)) (facets c) ≤ 1
no_mark_twice c sorted apart pack =
    subst (λ n. n ≤ 1) (sym (count_by-keys (facet_eq (Mark pack)) c ∙ marks_first _ _ _ _ _ _ _ _))
    (no_key_twice id_cmp Mark File pack (λ a b. refl) (λ name. refl)
    (marked_packs c.sets) (marked_packs c.clears) c.marked c.unmarked (file_names c.adds) (file_names c.drops) c.present c.absent
    sorted.sets sorted.clears sorted.marked sorted.unmarked
    apart.sets_clears apart.sets_marked apart.sets_unmarked apart.clears_marked apart.clears_unmarked apart.marked_unmarked) where
      marks_first : (a b c d e f g h : ℕ) → a + b + c + d + e + f + g + h ≡ c + d + g + h + (a + b + e + f)
      marks_first a b c d e f g h = omega arith

no_facet_twice : (c : Change) → AreSorted c → FilesAreApart c → MarksAreApart c → HasNoFacetTwice c
no_facet_twice c sorted files marks (File name) = no_file_twice c sorted files name
no_facet_twice c sorted files marks (Mark pack) = no_mark_twice c sorted marks pack

pub sorted_lists_are_well_formed_lem : SortedListsAreWellFormed
sorted_lists_are_well_formed_lem c sorted files marks named writes = record {
  in_order = lists_in_order c sorted;
  once = no_facet_twice c sorted files marks;
  named = named;
  writes = writes;
}
