-- The keys of the trash that an emptying erases: each is filled, none stands twice, and no other has something.
use Rattle.std.proofs.Common.{◌≡◌, ℕ, ◌+◌, ◌<◌, ◌≤◌, ◌==◌, nat_le, nat_lt, Bool, true, false, cond, ◌||◌, ◌&&◌, inl, inr, List, [], ◌∷◌, map, Option, Some, None, is_some, count_by, refl, sym, ap, ap₂, ◌∙◌, arith, subst}
use Rattle.std.specs.Cmp.{nat_cmp_total, tied_itself}
use Rattle.std.specs.List.{AllByRecursion, filter, find, flat_map, list_any}
use Rattle.std.specs.Option.{option_and_then, option_map, option_map_or}
use Rattle.std.specs.Ordering.{is_eq, ordering_then}
use Rattle.std.specs.declared.cmp.Ordering.{Ordering}
use Rattle.std.proofs.lemmas.Bool.{cases_eq, cases_lt, eq-eqb, eqb-true, le-leb, lt-leb, lt-ltb, ltb-true, ne_eqb}
use Rattle.std.proofs.lemmas.List.Elements.{recursion_from_All}
use Rattle.std.proofs.lemmas.List.Folds.{list_any-append}
use Rattle.std.proofs.lemmas.List.Sums.{sum_by-cons}
use Rattle.std.proofs.lemmas.Option.{same_Some}
use Rattle.keep_names.specs.Orders.{name_cmp}
use Rattle.keep_names.specs.declared.file_name.FileName.{FileName}
use Rattle.keep_repo.specs.Facet.{Stored, facet_eq}
use Rattle.keep_repo.specs.declared.facet.Facet.{Facet}
use Rattle.keep_repo.specs.declared.facet.Facet.TheVariants.{File}
use Rattle.keep_repo.proofs.Orders.{facet_eq_refl}
use Rattle.keep_change.specs.Change.{Written, record_of, reversed, written}
use Rattle.keep_change.specs.Fold.{Numbered}
use Rattle.keep_change.specs.Form.{HasNoFacetTwice}
use Rattle.keep_change.specs.Law.{HaveNoFacetTwice}
use Rattle.keep_change.specs.NamedBytes.{NamedBytes}
use Rattle.keep_change.specs.Result.{reverse_of}
use Rattle.keep_change.specs.Touch.{after_of, before_of}
use Rattle.keep_change.specs.declared.change.Change.{Change}
use Rattle.keep_change.proofs.Before.{before-file}
use Rattle.keep_change.proofs.Carry.{record_of-reverse, writes_once}
use Rattle.keep_change.proofs.Once.{count_by-facets}
use Rattle.keep_change.proofs.Records.{and_both, and_second, found_all, none_of_count, or_first, or_neither, or_second, record_of-reversed}
use Rattle.keep_journal.specs.History.{change_of, committed, final_number, is_in_force, CountsFrom, IsNumbered}
use Rattle.keep_journal.specs.Journal.{Journal}
use Rattle.keep_journal.specs.Kept.{is_kept}
use Rattle.keep_shelf.specs.declared.key.Key.{Key}
use Rattle.keep_shelf.specs.declared.key.Key.TheVariants.{Live, Trash, Entry}
use Rattle.keep_moves.specs.Lists.{made_final, trash_of}
use Rattle.keep_moves.specs.Move.{Stand, key_eq}
use Rattle.keep_moves.specs.Standing.{file_bytes, trashed}
use Rattle.keep_moves.proofs.Begun.{trashed_as, trashed_none}
use Rattle.keep_moves.proofs.Erased.{AllFilled, Distinct, Distinct-append, all_append, all_filtered, all_mapped, all_weaker, is_in}
use Rattle.keep_moves.proofs.Keys.{key_eq_apart}

-- ---- keys of the trash

same_trash : (n : ℕ) (a b : FileName) → key_eq (Trash n a) (Trash n b) ≡ facet_eq (File a) (File b)
same_trash n a b = ap (λ (r : Ordering). is_eq (ordering_then r (name_cmp a b))) (tied_itself nat_cmp_total n)

other_trash : (m n : ℕ) (a b : FileName) → (m ≡ n → ⊥) → key_eq (Trash m a) (Trash n b) ≡ false
other_trash m n a b apart = key_eq_apart (Trash m a) (Trash n b) (λ same. apart (number same))
  where
    number : Trash m a ≡ Trash n b → m ≡ n
    number same = cc

-- a file's key in the trash of a change, among those of some files
in_same : (n : ℕ) (name : FileName) (fs : List NamedBytes) → is_in (Trash n name) (map (λ f. Trash n f.name) fs) ≡ list_any (λ f. facet_eq (File name) (File f.name)) fs
in_same n name [] = refl
in_same n name (f ∷ fs) = ap₂ ◌||◌ (same_trash n name f.name) (in_same n name fs)

-- and in that of another one
in_other : (m n : ℕ) (name : FileName) (fs : List NamedBytes) → (m ≡ n → ⊥) → is_in (Trash m name) (map (λ f. Trash n f.name) fs) ≡ false
in_other m n name [] apart = refl
in_other m n name (f ∷ fs) apart = or_neither (key_eq (Trash m name) (Trash n f.name)) (is_in (Trash m name) (map (λ f. Trash n f.name) fs)) (other_trash m n name f.name apart) (in_other m n name fs apart)

-- the files whose bytes the trash of a change has
abbrev pub out_files : Journal → Numbered → List NamedBytes
out_files j c = cond (is_kept j c.number) c.change.drops c.change.adds

-- a key that is of no trash
pub in_no_trash : (q : Key) → ((m : ℕ) (name : FileName) → key_eq q (Trash m name) ≡ false) → (j : Journal) (cs : List Numbered) → is_in q (flat_map (trash_of j) cs) ≡ false
in_no_trash q none j [] = refl
in_no_trash q none j (c ∷ cs) =
    list_any-append (key_eq q) (trash_of j c) (flat_map (trash_of j) cs)
    ∙ or_neither (is_in q (trash_of j c)) (is_in q (flat_map (trash_of j) cs)) (by (out_files j c)) (in_no_trash q none j cs)
  where
    by : (fs : List NamedBytes) → is_in q (map (λ f. Trash c.number f.name) fs) ≡ false
    by [] = refl
    by (f ∷ fs) = or_neither (key_eq q (Trash c.number f.name)) (is_in q (map (λ f. Trash c.number f.name) fs)) (none c.number f.name) (by fs)

-- one of a change that isn't among these
in_none : (j : Journal) (m : ℕ) (name : FileName) (cs : List Numbered) → find (λ c. c.number == m) cs ≡ None → is_in (Trash m name) (flat_map (trash_of j) cs) ≡ false
in_none j m name [] e = refl
in_none j m name (c ∷ cs) e = elim (cases_eq c.number m) [
  | inl same ↦ cc (rw (eq-eqb c.number m same) at e)
  | inr other ↦
      list_any-append (key_eq (Trash m name)) (trash_of j c) (flat_map (trash_of j) cs)
      ∙ or_neither (is_in (Trash m name) (trash_of j c)) (is_in (Trash m name) (flat_map (trash_of j) cs))
      (in_other m c.number name (out_files j c) (λ s. other (sym s))) (in_none j m name cs (rw (ne_eqb c.number m other) at e))
]

-- and one of a change that is
in_one : (j : Journal) (m : ℕ) (name : FileName) (cs : List Numbered) (x : Numbered) → find (λ c. c.number == m) cs ≡ Some x → is_in (Trash m name) (flat_map (trash_of j) cs) ≡ false → is_in (Trash m name) (trash_of j x) ≡ false
in_one j m name [] x e out = cc e
in_one j m name (c ∷ cs) x e out =
    let parts : (is_in (Trash m name) (trash_of j c) || is_in (Trash m name) (flat_map (trash_of j) cs)) ≡ false = sym (list_any-append (key_eq (Trash m name)) (trash_of j c) (flat_map (trash_of j) cs)) ∙ out in
    elim (cases_eq c.number m) [
      | inl same ↦
          let is : c ≡ x = cc (rw (eq-eqb c.number m same) at e) in
          ap (λ d. is_in (Trash m name) (trash_of j d)) (sym is) ∙ or_first (is_in (Trash m name) (trash_of j c)) (is_in (Trash m name) (flat_map (trash_of j) cs)) parts
      | inr other ↦ in_one j m name cs x (rw (ne_eqb c.number m other) at e) (or_second (is_in (Trash m name) (trash_of j c)) (is_in (Trash m name) (flat_map (trash_of j) cs)) parts)
    ]

-- ---- what the trash of one change has

once_reverse : (c : Change) → HasNoFacetTwice c → HasNoFacetTwice (reverse_of c)
once_reverse c once q = omega (arith, once q, count_by-facets (facet_eq q) c, count_by-facets (facet_eq q) (reverse_of c))

after_as : (c : Change) → HasNoFacetTwice c → (q : Facet) → after_of c q ≡ before_of (reverse_of c) q
after_as c once q = sym (ap (λ o. option_map_or (λ (w : Written). w.before) o None) (record_of-reverse c (writes_once c once) q ∙ record_of-reversed (written c) q) ∙ by (record_of (written c) q))
  where
    by : (o : Option Written) → option_map_or (λ w. w.before) (option_map reversed o) None ≡ option_map_or (λ w. w.after) o None
    by None = refl
    by (Some w) = refl

-- the file of this name
abbrev pub named_one : FileName → List NamedBytes → Option NamedBytes
named_one name fs = find (λ f. facet_eq (File name) (File f.name)) fs

bytes_of : (o : Option NamedBytes) → file_bytes (option_map (λ (f : NamedBytes). Stored f.bytes) o) ≡ option_map (λ f. f.bytes) o
bytes_of None = refl
bytes_of (Some f) = refl

dropped_or_added : (c : Change) (b : Bool) (name : FileName) → HasNoFacetTwice c → file_bytes (cond b (before_of c (File name)) (after_of c (File name))) ≡ option_map (λ f. f.bytes) (named_one name (cond b c.drops c.adds))
dropped_or_added c true name once = ap file_bytes (before-file c once name (named_one name c.drops) refl) ∙ bytes_of (named_one name c.drops)
dropped_or_added c false name once =
    ap file_bytes (after_as c once (File name) ∙ before-file (reverse_of c) (once_reverse c once) name (named_one name c.adds) refl) ∙ bytes_of (named_one name c.adds)

-- of a change that isn't final it has the bytes of its files that are out
pub trashed_out : (j : Journal) (c : Numbered) (name : FileName) → final_number j < c.number → change_of j c.number ≡ Some c.change → HasNoFacetTwice c.change
    → trashed j c.number name ≡ option_map (λ f. f.bytes) (named_one name (out_files j c))
trashed_out j c name above is_c once =
    trashed_as j c.number c.change (is_in_force j c.number) name above is_c refl
    ∙ dropped_or_added c.change (is_in_force j c.number) name once
    ∙ ap (λ b. option_map (λ (f : NamedBytes). f.bytes) (named_one name (cond b c.change.drops c.change.adds))) (sym (ap (λ b. is_in_force j c.number && b) (lt-ltb (final_number j) c.number above) ∙ and_true (is_in_force j c.number)))
  where
    and_true : (b : Bool) → (b && true) ≡ b
    and_true true = refl
    and_true false = refl

-- where it isn't among the keys, there is nothing
found_none : (name : FileName) (fs : List NamedBytes) → list_any (λ f. facet_eq (File name) (File f.name)) fs ≡ false → named_one name fs ≡ None
found_none name [] e = refl
found_none name (f ∷ fs) e =
    ap (λ b. cond b (Some f) (named_one name fs)) (or_first (facet_eq (File name) (File f.name)) (list_any (λ f. facet_eq (File name) (File f.name)) fs) e)
    ∙ found_none name fs (or_second (facet_eq (File name) (File f.name)) (list_any (λ f. facet_eq (File name) (File f.name)) fs) e)

-- each of the files is found
found_each : (fs : List NamedBytes) → AllByRecursion (λ f. is_some (named_one f.name fs) ≡ true) fs
found_each [] = tt
found_each (f ∷ fs) = (
  ap (λ b. is_some (cond b (Some f) (named_one f.name fs))) (facet_eq_refl (File f.name)),
  all_weaker (λ g. is_some (named_one g.name fs) ≡ true) (λ g. is_some (named_one g.name (f ∷ fs)) ≡ true) (λ g e. by (facet_eq (File g.name) (File f.name)) (named_one g.name fs) e) fs (found_each fs),
)
  where
    by : (b : Bool) (o : Option NamedBytes) → is_some o ≡ true → is_some (cond b (Some f) o) ≡ true
    by true o e = refl
    by false o e = e

filled_some : (o : Option NamedBytes) → is_some o ≡ true → is_some (option_map (λ (f : NamedBytes). f.bytes) o) ≡ true
filled_some None e = cc e
filled_some (Some f) e = refl

-- each of the change's keys is filled
filled_one : (j : Journal) (h : Stand) (c : Numbered) → ((name : FileName) → h (Trash c.number name) ≡ trashed j c.number name) → final_number j < c.number → change_of j c.number ≡ Some c.change → HasNoFacetTwice c.change
    → AllFilled h (trash_of j c)
filled_one j h c is above is_c once =
    all_mapped (λ key. is_some (h key) ≡ true) (λ f. Trash c.number f.name) (out_files j c)
    (all_weaker (λ f. is_some (named_one f.name (out_files j c)) ≡ true) (λ f. is_some (h (Trash c.number f.name)) ≡ true)
    (λ f e. ap is_some (is f.name ∙ trashed_out j c f.name above is_c once) ∙ filled_some (named_one f.name (out_files j c)) e)
    (out_files j c) (found_each (out_files j c)))

-- and none stands twice
distinct_files : (n : ℕ) (fs : List NamedBytes) → ((q : Facet) → count_by (facet_eq q) (map (λ f. File f.name) fs) ≤ 1) → Distinct (map (λ f. Trash n f.name) fs)
distinct_files n [] few = tt
distinct_files n (f ∷ fs) few = (
  in_same n f.name fs ∙ any_mapped (none_of_count (facet_eq (File f.name)) (map (λ f. File f.name) fs)
      (omega (arith, few (File f.name), sum_by-cons (λ x. cond (facet_eq (File f.name) x) 1 0) (File f.name) (map (λ f. File f.name) fs), ap {B = ℕ} (λ b. cond b 1 0) (facet_eq_refl (File f.name))))),
  distinct_files n fs (λ q. omega (arith, few q, sum_by-cons (λ x. cond (facet_eq q x) 1 0) (File f.name) (map (λ f. File f.name) fs))),
)
  where
    any_as : (gs : List NamedBytes) → list_any (λ g. facet_eq (File f.name) (File g.name)) gs ≡ list_any (facet_eq (File f.name)) (map (λ g. File g.name) gs)
    any_as [] = refl
    any_as (g ∷ gs) = ap (λ b. facet_eq (File f.name) (File g.name) || b) (any_as gs)

    any_mapped : list_any (facet_eq (File f.name)) (map (λ g. File g.name) fs) ≡ false → list_any (λ g. facet_eq (File f.name) (File g.name)) fs ≡ false
    any_mapped e = any_as fs ∙ e

distinct_one : (j : Journal) (c : Numbered) → HasNoFacetTwice c.change → Distinct (trash_of j c)
distinct_one j c once = by (is_kept j c.number)
  where
    by : (b : Bool) → Distinct (map (λ f. Trash c.number f.name) (cond b c.change.drops c.change.adds))
    by true = distinct_files c.number c.change.drops (λ q. omega (arith, once q, count_by-facets (facet_eq q) c.change))
    by false = distinct_files c.number c.change.adds (λ q. omega (arith, once q, count_by-facets (facet_eq q) c.change))

-- ---- changes by their numbers

find_above : (m k : ℕ) (cs : List Numbered) → CountsFrom k cs → m < k → find (λ c. c.number == m) cs ≡ None
find_above m k [] h below = refl
find_above m k (c ∷ cs) h below =
    let first : c.number ≡ k = h.0 in
    rw (ne_eqb c.number m (λ e. omega arith)) (find_above m (k + 1) cs h.1 (omega arith))

-- each is found by its number
abbrev IsFound : ℕ → List Numbered → Numbered → Type 0
IsFound k cs c = (k ≤ c.number) × (find (λ d. d.number == c.number) cs ≡ Some c)

all_found : (k : ℕ) (cs : List Numbered) → CountsFrom k cs → AllByRecursion (IsFound k cs) cs
all_found k [] h = tt
all_found k (c ∷ cs) h =
    let first : c.number ≡ k = h.0 in (
      (omega arith, ap (λ b. cond b (Some c) (find (λ d. d.number == c.number) cs)) (eq-eqb c.number c.number refl)),
      all_weaker (IsFound (k + 1) cs) (IsFound k (c ∷ cs)) (λ d e. (omega (arith, e.0), ap (λ b. cond b (Some c) (find (λ x. x.number == d.number) cs)) (ne_eqb c.number d.number (λ s. omega (arith, e.0))) ∙ e.1)) cs (all_found (k + 1) cs h.1),
    )

no_either : {X : Type 0} (b : Bool) (o : Option X) → o ≡ None → cond b o None ≡ None
no_either true o e = e
no_either false o e = refl

-- what is found passes
found_so : {X : Type 0} (p : X → Bool) (xs : List X) (x : X) → find p xs ≡ Some x → p x ≡ true
found_so p [] x e = cc e
found_so p (y ∷ ys) x e = elim (p y) as (λ b. p y ≡ b → cond b (Some y) (find p ys) ≡ Some x → p x ≡ true) [
  | true ↦ λ passes is. ap p (sym (same_Some y x is)) ∙ passes
  | false ↦ λ fails is. found_so p ys x is
] refl e

-- the one that is found among those that pass
find_filtered : (t : ℕ → Bool) (m : ℕ) (cs : List Numbered) → find (λ c. c.number == m) (filter (λ c. t c.number) cs) ≡ cond (t m) (find (λ c. c.number == m) cs) None
find_filtered t m [] = sym (no_either (t m) None refl)
find_filtered t m (c ∷ cs) = by (t c.number) refl (c.number == m) refl (find_filtered t m cs)
  where
    by : (a : Bool) → t c.number ≡ a → (s : Bool) → (c.number == m) ≡ s → find (λ c. c.number == m) (filter (λ c. t c.number) cs) ≡ cond (t m) (find (λ c. c.number == m) cs) None
        → find (λ c. c.number == m) (cond a (c ∷ filter (λ c. t c.number) cs) (filter (λ c. t c.number) cs)) ≡ cond (t m) (cond s (Some c) (find (λ c. c.number == m) cs)) None
    by true passes true same rest =
        let is : t m ≡ true = ap t (sym (eqb-true c.number m same)) ∙ passes in
        rw (same, is) refl
    by true passes false other rest = ap (λ b. cond b (Some c) (find (λ c. c.number == m) (filter (λ c. t c.number) cs))) other ∙ rest
    by false fails true same rest =
        let is : t m ≡ false = ap t (sym (eqb-true c.number m same)) ∙ fails in
        rest ∙ ap (λ b. cond b (find (λ c. c.number == m) cs) None) is ∙ sym (ap (λ b. cond b (Some c) None) is)
    by false fails false other rest = rest

-- ---- the changes that an emptying makes final

-- no key of theirs stands twice
distinct_all : (j : Journal) (t : ℕ → Bool) (k : ℕ) (cs : List Numbered) → CountsFrom k cs → AllByRecursion (λ c. HasNoFacetTwice c.change) cs → Distinct (flat_map (trash_of j) (filter (λ c. t c.number) cs))
distinct_all j t k [] h once = tt
distinct_all j t k (c ∷ cs) h once = by (t c.number) (distinct_all j t (k + 1) cs h.1 once.1)
  where
    none : find (λ d. d.number == c.number) (filter (λ c. t c.number) cs) ≡ None
    none =
        let first : c.number ≡ k = h.0 in
        find_filtered t c.number cs
        ∙ no_either (t c.number) (find (λ d. d.number == c.number) cs) (find_above c.number (k + 1) cs h.1 (omega arith))

    apart : (q : Key) → is_in q (trash_of j c) ≡ true → is_in q (flat_map (trash_of j) (filter (λ c. t c.number) cs)) ≡ false
    apart (Live name) there = in_no_trash (Live name) (λ m x. refl) j (filter (λ c. t c.number) cs)
    apart (Entry i) there = in_no_trash (Entry i) (λ m x. refl) j (filter (λ c. t c.number) cs)
    apart (Trash m name) there = elim (cases_eq m c.number) [
      | inl same ↦ ap (λ x. is_in (Trash x name) (flat_map (trash_of j) (filter (λ c. t c.number) cs))) same ∙ in_none j c.number name (filter (λ c. t c.number) cs) none
      | inr other ↦ cc (sym there ∙ in_other m c.number name (out_files j c) other)
    ]

    by : (b : Bool) → Distinct (flat_map (trash_of j) (filter (λ c. t c.number) cs)) → Distinct (flat_map (trash_of j) (cond b (c ∷ filter (λ c. t c.number) cs) (filter (λ c. t c.number) cs)))
    by true d = Distinct-append (trash_of j c) (flat_map (trash_of j) (filter (λ c. t c.number) cs)) (distinct_one j c once.0) d apart
    by false d = d

both_hold : {X : Type 0} (P Q : X → Type 0) (xs : List X) → AllByRecursion P xs → AllByRecursion Q xs → AllByRecursion (λ x. P x × Q x) xs
both_hold P Q [] p q = tt
both_hold P Q (x ∷ xs) p q = ((p.0, q.0), both_hold P Q xs p.1 q.1)

all_flat : {X Y : Type 0} (P : Y → Type 0) (f : X → List Y) (xs : List X) → AllByRecursion (λ x. AllByRecursion P (f x)) xs → AllByRecursion P (flat_map f xs)
all_flat P f [] all = tt
all_flat P f (x ∷ xs) all = all_append P (f x) (flat_map f xs) all.0 (all_flat P f xs all.1)

module _ (j : Journal) (n : ℕ) (numbered : IsNumbered j) (once : HaveNoFacetTwice (committed j)) where
  once_each : AllByRecursion (λ c. HasNoFacetTwice c.change) (committed j)
  once_each = recursion_from_All (λ c. HasNoFacetTwice c.change) (committed j) once

  pub distinct_trash : Distinct (flat_map (trash_of j) (made_final j (final_number j) n))
  distinct_trash = distinct_all j (λ m. nat_le m n && nat_lt (final_number j) m) (j.base + 1) (committed j) numbered.commits once_each

  -- each is filled
  pub filled_trash : (h : Stand) → ((m : ℕ) (name : FileName) → h (Trash m name) ≡ trashed j m name) → AllFilled h (flat_map (trash_of j) (made_final j (final_number j) n))
  filled_trash h is =
      all_flat (λ key. is_some (h key) ≡ true) (trash_of j) (made_final j (final_number j) n)
      (all_weaker (λ c. (IsFound (j.base + 1) (committed j) c × HasNoFacetTwice c.change) × ((nat_le c.number n && nat_lt (final_number j) c.number) ≡ true)) (λ c. AllFilled h (trash_of j c))
      (λ c e. filled_one j h c (is c.number) (ltb-true (final_number j) c.number (and_second (nat_le c.number n) (nat_lt (final_number j) c.number) e.1)) (ap (option_map (λ (d : Numbered). d.change)) e.0.0.1) e.0.1)
      (made_final j (final_number j) n)
      (all_filtered (λ c. IsFound (j.base + 1) (committed j) c × HasNoFacetTwice c.change) (λ c. nat_le c.number n && nat_lt (final_number j) c.number) (committed j)
      (both_hold (IsFound (j.base + 1) (committed j)) (λ c. HasNoFacetTwice c.change) (committed j) (all_found (j.base + 1) (committed j) numbered.commits) once_each)))

  -- the trash of a change that stays as it is has none of them
  pub kept_trash : (m : ℕ) (name : FileName) → n < m → is_in (Trash m name) (flat_map (trash_of j) (made_final j (final_number j) n)) ≡ false
  kept_trash m name above =
      in_none j m name (made_final j (final_number j) n)
      (find_filtered (λ m. nat_le m n && nat_lt (final_number j) m) m (committed j)
      ∙ ap (λ b. cond (b && nat_lt (final_number j) m) (find (λ (c : Numbered). c.number == m) (committed j)) None) (lt-leb m n above))

  -- and what becomes final has nothing but them
  pub emptied_trash : (m : ℕ) (name : FileName) → m ≤ n → is_in (Trash m name) (flat_map (trash_of j) (made_final j (final_number j) n)) ≡ false → trashed j m name ≡ None
  emptied_trash m name upto out = elim (cases_lt (final_number j) m) [
    | inl above ↦ by (find (λ c. c.number == m) (committed j)) refl above
    | inr final ↦ ap (λ b. cond b None (option_and_then (λ (d : Change). file_bytes (cond (is_in_force j m) (before_of d (File name)) (after_of d (File name)))) (change_of j m))) (le-leb m (final_number j) final)
  ]
    where
      by : (o : Option Numbered) → find (λ c. c.number == m) (committed j) ≡ o → final_number j < m → trashed j m name ≡ None
      by None none above = trashed_none j m name (ap (option_map (λ (d : Numbered). d.change)) none)
      by (Some x) found above =
          let is : x.number ≡ m = eqb-true x.number m (found_so (λ (c : Numbered). c.number == m) (committed j) x found) in
          let once_x : HasNoFacetTwice x.change = found_all (λ c. HasNoFacetTwice c.change) (λ c. c.number == m) (committed j) x once_each found in
          let among : find (λ c. c.number == m) (made_final j (final_number j) n) ≡ Some x =
          find_filtered (λ m. nat_le m n && nat_lt (final_number j) m) m (committed j)
          ∙ ap (λ b. cond b (find (λ (c : Numbered). c.number == m) (committed j)) None) (and_both (nat_le m n) (nat_lt (final_number j) m) (le-leb m n upto) (lt-ltb (final_number j) m above)) ∙ found in
          let out_one : is_in (Trash m name) (trash_of j x) ≡ false = in_one j m name (made_final j (final_number j) n) x among out in
          let out_same : is_in (Trash x.number name) (trash_of j x) ≡ false = ap (λ k. is_in (Trash k name) (trash_of j x)) is ∙ out_one in
          let none = found_none name (out_files j x) (sym (in_same x.number name (out_files j x)) ∙ out_same) in
          ap (λ k. trashed j k name) (sym is)
          ∙ trashed_out j x name (subst (λ k. final_number j < k) (sym is) above) (ap (λ k. change_of j k) is ∙ ap (option_map (λ (d : Numbered). d.change)) found) once_x
          ∙ ap (option_map (λ (f : NamedBytes). f.bytes)) none
