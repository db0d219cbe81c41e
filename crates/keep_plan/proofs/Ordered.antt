-- What the entries of a finite map are.
use Rattle.std.proofs.Common.{◌≡◌, Bool, true, false, cond, List, [], ◌∷◌, map, filter, None, Some, Ordering, Less, Equal, Greater, T, refl, sym, ap, subst, ◌∙◌}
use Rattle.std.specs.Cmp.{IsTotalOrder, tied_itself}
use Rattle.std.specs.FinMap.{FinMap, IsAntisymmetric, entries, entries-insert, entries_sorted, find, from_entries, get, get-entries, get-retain_keys, is_sorted, put, retain_keys}
use Rattle.std.specs.FinMap.Entries.{below_all, by_order}
use Rattle.std.specs.List.{AllByRecursion}
use Rattle.std.specs.Ordering.{eq_by_cmp, is_eq, ordering_reverse}
use Rattle.keep_repo.proofs.Maps.{no_entries}
use Rattle.keep_repo.proofs.Rising.{all_above, first_of_both, second_of_both}

-- what each of the entries is that a map is made of, each of its own is
module _ {K X : Type 0} {R : K → K → Ordering} (total : IsTotalOrder R) (exact : IsAntisymmetric R) (P : K × X → Type 0) where
  All-put : (k : K) (v : X) (es : List (K × X)) → P (k, v) → AllByRecursion P es → AllByRecursion P (put R k v es)
  All-put k v [] here there = (here, tt)
  All-put k v (e ∷ es) here there = cases (All-put k v es here there.1) (R k e.0) refl where
    cases : AllByRecursion P (put R k v es) → (o : Ordering) → R k e.0 ≡ o → AllByRecursion P (by_order o ((k, v) ∷ e ∷ es) ((e.0, v) ∷ es) (e ∷ put R k v es))
    cases later Less is = (here, there)
    cases later Equal is = (subst (λ (x : K). P (x, v)) (exact k e.0 is) here, there.1)
    cases later Greater is = (there.0, later)

  pub All-entries : (es : List (K × X)) → AllByRecursion P es → AllByRecursion P (entries (from_entries {R = R} es))
  All-entries [] h = subst (λ (xs : List (K × X)). AllByRecursion P xs) (sym (no_entries R)) tt
  All-entries (e ∷ es) h =
      subst (λ (xs : List (K × X)). AllByRecursion P xs) (sym (entries-insert total (from_entries es) e.0 e.1))
      (All-put e.0 e.1 (entries (from_entries es)) h.0 (All-entries es h.1))

apart : {K : Type 0} {R : K → K → Ordering} → IsTotalOrder R → (x y : K) → R x y ≡ Less → eq_by_cmp R y x ≡ false
apart total x y h = ap is_eq (total.antisymm y x ∙ ap ordering_reverse h)

-- each entry is what the map has at its key
module _ {K X : Type 0} {R : K → K → Ordering} (total : IsTotalOrder R) where
  found_behind : (x : K × X) (es fs : List (K × X)) → AllByRecursion (λ e. find R e.0 es ≡ Some e.1) fs → AllByRecursion (λ y. R x.0 y ≡ Less) (map (λ e. e.0) fs)
      → AllByRecursion (λ e. find R e.0 (x ∷ es) ≡ Some e.1) fs
  found_behind x es [] found above = tt
  found_behind x es (f ∷ fs) found above =
      (ap (λ b. cond b (Some x.1) (find R f.0 es)) (apart total x.0 f.0 above.0) ∙ found.0, found_behind x es fs found.1 above.1)

  each_found : (es : List (K × X)) → T (is_sorted R es) → AllByRecursion (λ e. find R e.0 es ≡ Some e.1) es
  each_found [] h = tt
  each_found (x ∷ es) h = (
    ap (λ o. cond (is_eq o) (Some x.1) (find R x.0 es)) (tied_itself total x.0),
    found_behind x es es (each_found es (second_of_both (below_all R x.0 es) (is_sorted R es) h)) (all_above R x.0 es (first_of_both (below_all R x.0 es) (is_sorted R es) h)),
  )

  each_at : (m : FinMap R X) (es : List (K × X)) → AllByRecursion (λ e. find R e.0 (entries m) ≡ Some e.1) es → AllByRecursion (λ e. get m e.0 ≡ Some e.1) es
  each_at m [] h = tt
  each_at m (e ∷ es) h = (get-entries m e.0 ∙ h.0, each_at m es h.1)

  pub entries_there : (m : FinMap R X) → AllByRecursion (λ e. get m e.0 ≡ Some e.1) (entries m)
  entries_there m = each_at m (entries m) (each_found (entries m) (entries_sorted m))

-- each entry of the part of a map whose keys pass a test is what the map has at its key
module _ {K X : Type 0} {R : K → K → Ordering} (total : IsTotalOrder R) (exact : IsAntisymmetric R) (m : FinMap R X) (p : K → Bool) where
  in_whole : (q : K) (v : X) → get (retain_keys m p) q ≡ Some v → get m q ≡ Some v
  in_whole q v h = cases (p q) (sym (get-retain_keys m p q (λ x tied. ap p (sym (exact q x tied)))) ∙ h) where
    cases : (b : Bool) → cond b (get m q) None ≡ Some v → get m q ≡ Some v
    cases true is = is
    cases false is = cc is

  each_whole : (es : List (K × X)) → AllByRecursion (λ e. get (retain_keys m p) e.0 ≡ Some e.1) es → AllByRecursion (λ e. get m e.0 ≡ Some e.1) es
  each_whole [] h = tt
  each_whole (e ∷ es) h = (in_whole e.0 e.1 h.0, each_whole es h.1)

  pub retained_there : AllByRecursion (λ e. get m e.0 ≡ Some e.1) (entries (retain_keys m p))
  retained_there = each_whole (entries (retain_keys m p)) (entries_there total (retain_keys m p))

-- ---- lists whose elements are all so

module _ {X Y : Type 0} where
  pub All-of_map : (P : X → Type 0) (f : Y → X) (ys : List Y) → AllByRecursion (λ y. P (f y)) ys → AllByRecursion P (map f ys)
  All-of_map P f [] h = tt
  All-of_map P f (y ∷ ys) h = (h.0, All-of_map P f ys h.1)

module _ {X : Type 0} where
  pub each_so : (P Q : X → Type 0) → ((x : X) → P x → Q x) → (xs : List X) → AllByRecursion P xs → AllByRecursion Q xs
  each_so P Q so [] h = tt
  each_so P Q so (x ∷ xs) h = (so x h.0, each_so P Q so xs h.1)

  pub filter_passes : (p : X → Bool) (xs : List X) → AllByRecursion (λ x. p x ≡ true) (filter p xs)
  filter_passes p [] = tt
  filter_passes p (x ∷ xs) = cases (filter_passes p xs) (p x) refl where
    cases : AllByRecursion (λ y. p y ≡ true) (filter p xs) → (b : Bool) → p x ≡ b → AllByRecursion (λ y. p y ≡ true) (cond b (x ∷ filter p xs) (filter p xs))
    cases later true is = (is, later)
    cases later false is = later
