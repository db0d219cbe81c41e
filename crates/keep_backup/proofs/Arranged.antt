-- Files in the order of their paths, and the finite map of them.
use Rattle.std.proofs.Common.{◌≡◌, ℕ, ◌+◌, ◌<◌, Bool, true, false, cond, ◌&&◌, ◌||◌, T, List, [], ◌∷◌, length, map, Option, Some, None, option_map, ok_or, Ok, Err, count_by, IsPermutation, Ordering, Less, Equal, Greater, bytes_eq, is_eq, is_lt, refl, sym, ap, ap₂, subst, ◌∙◌, true≢false, arith}
use Rattle.std.proofs.lemmas.List.Elements.{All-from_recursion, recursion_from_All}
use Rattle.std.proofs.lemmas.List.Sorted.{All-permutation, IsPermutation-map, list_any-IsPermutation}
use Rattle.std.proofs.lemmas.List.Splits.{length-slice_split}
use Rattle.std.proofs.lemmas.Option.{option_and_then_some}
use Rattle.std.proofs.lemmas.Slice.Eq.{bytes_eq-Decides}
use Rattle.std.specs.Cmp.{IsTotalOrder}
use Rattle.std.specs.Cmp.Lexicographic.{lists_total, nat_list_cmp_total}
use Rattle.std.specs.FinMap.{entries, entries-from_sorted, find, from_entries, from_sorted, get-from_entries, get-from_sorted, is_sorted, same_map, slice_cmp-IsAntisymmetric}
use Rattle.std.specs.FinMap.Entries.{below_all}
use Rattle.std.specs.List.{AllByRecursion, list_all, list_any, slice_split}
use Rattle.std.specs.Ordering.{eq_by_cmp}
use Rattle.keep_docs.specs.Lists.{each}
use Rattle.keep_tree.specs.Names.{is_name}
use Rattle.keep_docs.proofs.Answered.{none_from_err}
use Rattle.keep_backup.specs.Paths.{AreNamed, FileData, Path, StandInOrder, any_clash, by_path, components_of, given_file, files_in_order, is_slash, path_cmp, path_of, stands_before, without_clash}
use Rattle.keep_plan.specs.declared.plan_error.PlanError.{PlanError}
use Rattle.keep_plan.specs.declared.plan_error.PlanError.TheVariants.{BadPath, SamePathTwice}
use Rattle.keep_backup.proofs.Clashes.{clash_permuted}
use Rattle.keep_backup.proofs.Groups.{same_name}
use Rattle.keep_backup.proofs.Neighbours.{before_less, in_order_no_clash}

pub path_order : IsTotalOrder path_cmp
path_order = lists_total nat_list_cmp_total

same_path : (p q : Path) → path_cmp p q ≡ Equal → p ≡ q
same_path = slice_cmp-IsAntisymmetric same_name

-- ---- in order

both : (a b : Bool) → T a → T b → T (a && b)
both true b p q = q
both false b p q = p

all_below : (p : Path) (fs : List FileData) → AllByRecursion (λ q. stands_before p q ≡ true) (map path_of fs) → T (below_all path_cmp p fs)
all_below p [] all = tt
all_below p (f ∷ fs) all = both _ _ (subst (λ o. T (is_lt o)) (sym (before_less p f.0 all.0)) tt) (all_below p fs all.1)

rises : (fs : List FileData) → StandInOrder (map path_of fs) → T (is_sorted path_cmp fs)
rises [] h = tt
rises (f ∷ fs) h = both _ _ (all_below f.0 fs h.0) (rises fs h.1)

-- ---- what is found at a path

-- the test for a file of this path and these bytes
abbrev is_it : Path → List ℕ → FileData → Bool
is_it q v f = eq_by_cmp path_cmp q f.0 && bytes_eq v f.1

is_own : (v : List ℕ) → bytes_eq v v ≡ true
is_own v = (bytes_eq-Decides v v).1 refl

found_by : (t : Bool) (q : Path) (v w : List ℕ) (fs : List FileData) → cond t (Some w) (find path_cmp q fs) ≡ Some v → (find path_cmp q fs ≡ Some v → list_any (is_it q v) fs ≡ true) → ((t && bytes_eq v w) || list_any (is_it q v) fs) ≡ true
found_by true q v w fs is rest =
    let same : v ≡ w = cc in
    ap (λ b. b || list_any (is_it q v) fs) ((bytes_eq-Decides v w).1 same)
found_by false q v w fs is rest = rest is

found : (q : Path) (v : List ℕ) (fs : List FileData) → find path_cmp q fs ≡ Some v → list_any (is_it q v) fs ≡ true
found q v [] is = cc
found q v (f ∷ fs) is = found_by (eq_by_cmp path_cmp q f.0) q v f.1 fs is (found q v fs)

missed_by : (t : Bool) (q : Path) (w : List ℕ) (fs : List FileData) → cond t (Some w) (find path_cmp q fs) ≡ None → (find path_cmp q fs ≡ None → list_any (λ f. eq_by_cmp path_cmp q f.0) fs ≡ false) → (t || list_any (λ f. eq_by_cmp path_cmp q f.0) fs) ≡ false
missed_by true q w fs is rest = cc
missed_by false q w fs is rest = rest is

missed : (q : Path) (fs : List FileData) → find path_cmp q fs ≡ None → list_any (λ f. eq_by_cmp path_cmp q f.0) fs ≡ false
missed q [] is = refl
missed q (f ∷ fs) is = missed_by (eq_by_cmp path_cmp q f.0) q f.1 fs is (missed q fs)

absent_by : (t : Bool) (q : Path) (w : List ℕ) (fs : List FileData) → (t || list_any (λ f. eq_by_cmp path_cmp q f.0) fs) ≡ false → (list_any (λ f. eq_by_cmp path_cmp q f.0) fs ≡ false → find path_cmp q fs ≡ None) → cond t (Some w) (find path_cmp q fs) ≡ None
absent_by true q w fs is rest = absurd (true≢false is)
absent_by false q w fs is rest = rest is

absent : (q : Path) (fs : List FileData) → list_any (λ f. eq_by_cmp path_cmp q f.0) fs ≡ false → find path_cmp q fs ≡ None
absent q [] is = refl
absent q (f ∷ fs) is = absent_by (eq_by_cmp path_cmp q f.0) q f.1 fs is (absent q fs)

-- a path that stands before all of them isn't theirs
not_theirs : (p : Path) (v : List ℕ) (fs : List FileData) → AllByRecursion (λ q. stands_before p q ≡ true) (map path_of fs) → list_any (is_it p v) fs ≡ false
not_theirs p v [] all = refl
not_theirs p v (f ∷ fs) all =
    ap₂ (λ o b. (is_eq o && bytes_eq v f.1) || b) (before_less p f.0 all.0) (not_theirs p v fs all.1)

equal_from : (o : Ordering) → is_eq o ≡ true → o ≡ Equal
equal_from Less h = absurd (true≢false (sym h))
equal_from Equal h = refl
equal_from Greater h = absurd (true≢false (sym h))

same_bytes_by : (t : Bool) (v w : List ℕ) → bytes_eq v w ≡ t → (t || false) ≡ true → Some w ≡ Some v
same_bytes_by true v w is h = ap (λ x. Some x) (sym ((bytes_eq-Decides v w).0 is))
same_bytes_by false v w is h = absurd (true≢false (sym h))

there_by : (t : Bool) (q : Path) (v : List ℕ) (f : FileData) (fs : List FileData) → eq_by_cmp path_cmp q f.0 ≡ t → AllByRecursion (λ r. stands_before f.0 r ≡ true) (map path_of fs) → ((t && bytes_eq v f.1) || list_any (is_it q v) fs) ≡ true
    → (list_any (is_it q v) fs ≡ true → find path_cmp q fs ≡ Some v) → cond t (Some f.1) (find path_cmp q fs) ≡ Some v
there_by true q v f fs is all h rest =
    let same : q ≡ f.0 = same_path q f.0 (equal_from _ is) in
    let none : list_any (is_it q v) fs ≡ false = ap (λ p. list_any (is_it p v) fs) same ∙ not_theirs f.0 v fs all in
    same_bytes_by (bytes_eq v f.1) v f.1 refl (ap (λ b. bytes_eq v f.1 || b) (sym none) ∙ h)
there_by false q v f fs is all h rest = rest h

there : (q : Path) (v : List ℕ) (fs : List FileData) → StandInOrder (map path_of fs) → list_any (is_it q v) fs ≡ true → find path_cmp q fs ≡ Some v
there q v [] order h = absurd (true≢false (sym h))
there q v (f ∷ fs) order h = there_by (eq_by_cmp path_cmp q f.0) q v f fs refl order.0 h (there q v fs order.1)

find_permuted_by : (o : Option (List ℕ)) (q : Path) (xs ys : List FileData) → find path_cmp q xs ≡ o → IsPermutation xs ys → StandInOrder (map path_of ys) → o ≡ find path_cmp q ys
find_permuted_by None q xs ys is h order =
    sym (absent q ys (sym (list_any-IsPermutation (λ f. eq_by_cmp path_cmp q f.0) xs ys h) ∙ missed q xs is))
find_permuted_by (Some v) q xs ys is h order =
    sym (there q v ys order (sym (list_any-IsPermutation (is_it q v) xs ys h) ∙ found q v xs is))

-- files in the order of their paths are those of the map, whatever their order was before
pub arranged : (xs ys : List FileData) → IsPermutation xs ys → StandInOrder (map path_of ys) → by_path xs ≡ ys
unfolding by_path
arranged xs ys h order =
    ap entries (same_map path_order same_path (from_entries xs) (from_sorted ys) (λ q.
    get-from_entries path_order xs q ∙ find_permuted_by (find path_cmp q xs) q xs ys refl h order ∙ sym (get-from_sorted path_cmp ys q (rises ys order))))
    ∙ entries-from_sorted path_cmp ys (rises ys order)

-- ---- what is given, and what is made of it

-- each file that was read has a name
names_some : (text : List ℕ) (p : Path) → components_of text ≡ Some p → 0 < length p
names_some [] p is = absurd (none_some p is) where
  none_some : (p : Path) → None ≡ Some p → ⊥
  none_some p e = cc
names_some (c ∷ text) p is = by_slash (is_slash c) (list_all is_name (slice_split is_slash text)) is where
  some_part : (t : List ℕ) → 0 < length (slice_split is_slash t)
  some_part t = let e : length (slice_split is_slash t) ≡ count_by is_slash t + 1 = length-slice_split is_slash t in omega arith

  by_slash : (a b : Bool) → cond a (cond b (Some (slice_split is_slash text)) None) None ≡ Some p → 0 < length p
  by_slash true true e = let same : slice_split is_slash text ≡ p = cc in subst (λ q. 0 < length q) same (some_part text)
  by_slash true false e = cc
  by_slash false b e = cc

abbrev IsNamed : FileData → Type 0
IsNamed file = 0 < length (path_of file)

read_named : (o : Option Path) (b : List ℕ) (f : FileData) → ((p : Path) → o ≡ Some p → 0 < length p) → option_map (λ path. (path, b)) o ≡ Some f → IsNamed f
read_named None b f named is = cc
read_named (Some p) b f named is = let same : (p, b) ≡ f = cc in subst IsNamed same (named p refl)

mapped_rest : (o : Option (List FileData)) (f : FileData) (fs : List FileData) → option_map (λ ys. f ∷ ys) o ≡ Some fs → (ys : List FileData) × (o ≡ Some ys) × (f ∷ ys ≡ fs)
mapped_rest None f fs is = cc
mapped_rest (Some ys) f fs is = (ys, refl, cc)

each_named : (given : List (List ℕ × List ℕ)) (fs : List FileData) → each given_file given ≡ Some fs → AllByRecursion IsNamed fs
each_named [] fs is = let none : [] ≡ fs = cc in subst (AllByRecursion IsNamed) none tt
each_named (g ∷ given) fs is =
    option_and_then_some (λ f. option_map (λ ys. f ∷ ys) (each given_file given)) (given_file g) fs is (λ f found rest.
    let tail = mapped_rest (each given_file given) f fs rest in
    subst (AllByRecursion IsNamed) tail.2 (read_named (components_of g.0) g.1 f (names_some g.0) found, each_named given tail.0 tail.1))

named_paths : (fs : List FileData) → AllByRecursion IsNamed fs → AreNamed (map path_of fs)
named_paths [] all = tt
named_paths (f ∷ fs) all = (all.0, named_paths fs all.1)

pub named_permuted : (given : List (List ℕ × List ℕ)) (fs gs : List FileData) → each given_file given ≡ Some fs → IsPermutation fs gs → AreNamed (map path_of gs)
named_permuted given fs gs is h =
    named_paths gs (recursion_from_All IsNamed gs (All-permutation IsNamed fs gs h (All-from_recursion IsNamed fs (each_named given fs is))))

same_clash : (fs gs : List FileData) → IsPermutation fs gs → any_clash (map path_of fs) ≡ any_clash (map path_of gs)
same_clash fs gs h = clash_permuted (map path_of fs) (map path_of gs) (IsPermutation-map path_of fs gs h)

pub clash_refused : (given : List (List ℕ × List ℕ)) (fs gs : List FileData) → each given_file given ≡ Some fs → IsPermutation fs gs → any_clash (map path_of gs) ≡ true → files_in_order given ≡ Err SamePathTwice
unfolding files_in_order
clash_refused given fs gs is h clash =
    ap without_clash is ∙ ap (λ b. cond b (Err SamePathTwice) (Ok (by_path fs))) (same_clash fs gs h ∙ clash)

pub files_taken : (given : List (List ℕ × List ℕ)) (fs gs : List FileData) → each given_file given ≡ Some fs → IsPermutation fs gs → StandInOrder (map path_of gs) → files_in_order given ≡ Ok gs
unfolding files_in_order
files_taken given fs gs is h order =
    ap without_clash is ∙ ap (λ b. cond b (Err SamePathTwice) (Ok (by_path fs))) (same_clash fs gs h ∙ in_order_no_clash (map path_of gs) order)
    ∙ ap (λ ys. Ok ys) (arranged fs gs h order)

pub path_refused : (given : List (List ℕ × List ℕ)) (error : PlanError) → ok_or (each given_file given) BadPath ≡ Err error → files_in_order given ≡ Err error
unfolding files_in_order
path_refused given error is =
    let refused = none_from_err (each given_file given) BadPath error is in
    ap without_clash refused.0 ∙ ap (λ e. Err e) refused.1
