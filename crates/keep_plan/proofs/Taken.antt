-- Files are fewer than were given just where one is there already, or two have one name.
use Rattle.std.proofs.Common.{◌≡◌, ◌+◌, ◌<◌, ◌≤◌, ℕ, suc, Bool, true, false, ◌||◌, not, cond, List, [], ◌∷◌, length, map, filter, nat_lt, Option, None, Some, is_some, refl, sym, ap, ◌∙◌, true≢false, arith}
use Rattle.std.proofs.lemmas.Bool.{le-ltb, lt-ltb, ltb-false, ltb-true}
use Rattle.std.proofs.lemmas.List.{length-map}
use Rattle.std.proofs.lemmas.Map.Views.{tells_apart}
use Rattle.std.specs.FinMap.{entries, entries-insert, entries_sorted, find, from_entries, get-entries, get-from_entries}
use Rattle.std.specs.FinMap.Entries.{length-put}
use Rattle.std.specs.List.{list_any}
use Rattle.std.specs.Ordering.{eq_by_cmp}
use Rattle.keep_names.proofs.Orders.{name_exact, name_total}
use Rattle.keep_names.specs.Orders.{name_cmp}
use Rattle.keep_names.specs.declared.file_name.FileName.{FileName}
use Rattle.keep_repo.proofs.Maps.{no_entries}
use Rattle.keep_repo.specs.Repository.{Repository}
use Rattle.keep_change.specs.Filling.{has_name}
use Rattle.keep_change.specs.Lists.{file_names}
use Rattle.keep_change.specs.NamedBytes.{NamedBytes}
use Rattle.keep_plan.specs.Storing.{absent_files, absent_of, is_any_taken, is_any_twice, is_there, under_name}

or_true : (b : Bool) → (b || true) ≡ true
or_true true = refl
or_true false = refl

below_next : (a b : ℕ) → nat_lt (suc a) (suc b) ≡ nat_lt a b
below_next a b = cases (nat_lt a b) refl where
  cases : (t : Bool) → nat_lt a b ≡ t → nat_lt (suc a) (suc b) ≡ nat_lt a b
  cases true is = lt-ltb (suc a) (suc b) (omega (arith, ltb-true a b is)) ∙ sym is
  cases false is = le-ltb (suc a) (suc b) (omega (arith, ltb-false a b is)) ∙ sym is

module _ (r : Repository) where
  -- the absent files
  abbrev rest : List NamedBytes → List NamedBytes
  rest files = filter (λ (f : NamedBytes). not (is_there r f.name)) files

  -- the entries that they make
  abbrev made : List NamedBytes → List (FileName × NamedBytes)
  made files = entries (from_entries {R = name_cmp} (absent_of r files))

  -- where no file of a name is there, the absent ones have the name just where some of the files has it
  among : (name : FileName) → is_there r name ≡ false → (files : List NamedBytes) → is_some (find name_cmp name (absent_of r files)) ≡ has_name (file_names files) name
  among name absent [] = refl
  among name absent (f ∷ fs) = cases (among name absent fs) (eq_by_cmp name_cmp name f.name) refl (is_there r f.name) refl where
    cases : is_some (find name_cmp name (absent_of r fs)) ≡ has_name (file_names fs) name → (same : Bool) → eq_by_cmp name_cmp name f.name ≡ same → (there : Bool) → is_there r f.name ≡ there
        → is_some (find name_cmp name (map under_name (cond (not there) (f ∷ rest fs) (rest fs)))) ≡ (eq_by_cmp name_cmp name f.name || has_name (file_names fs) name)
    cases later true e true is = absurd (true≢false (sym is ∙ ap (is_there r) (sym (tells_apart name_exact name f.name e)) ∙ absent))
    cases later false e true is = later ∙ ap (λ b. b || has_name (file_names fs) name) (sym e)
    cases later true e false is = ap (λ b. is_some (cond b (Some f) (find name_cmp name (absent_of r fs)))) e ∙ ap (λ b. b || has_name (file_names fs) name) (sym e)
    cases later false e false is = ap (λ b. is_some (cond b (Some f) (find name_cmp name (absent_of r fs)))) e ∙ later ∙ ap (λ b. b || has_name (file_names fs) name) (sym e)

  -- one more absent file is one more entry, unless another one has its name
  one_more : (f : NamedBytes) (files : List NamedBytes) → is_there r f.name ≡ false
      → length (entries (from_entries {R = name_cmp} ((f.name, f) ∷ absent_of r files))) ≡ cond (has_name (file_names files) f.name) (length (made files)) (length (made files) + 1)
  one_more f files absent =
      ap length (entries-insert name_total (from_entries (absent_of r files)) f.name f)
      ∙ length-put name_cmp name_total f.name f (made files) (entries_sorted (from_entries (absent_of r files)))
      ∙ ap (λ o. cond (is_some o) (length (made files)) (length (made files) + 1)) (sym (get-entries (from_entries (absent_of r files)) f.name) ∙ get-from_entries name_total (absent_of r files) f.name)
      ∙ ap (λ b. cond b (length (made files)) (length (made files) + 1)) (among f.name absent files)

  -- how many entries there are with one more file, which is there or not
  abbrev count : NamedBytes → List NamedBytes → Bool → ℕ
  count f files there = length (entries (from_entries {R = name_cmp} (map under_name (cond (not there) (f ∷ rest files) (rest files)))))

  abbrev any_there : List NamedBytes → Bool
  any_there files = list_any (λ (f : NamedBytes). is_there r f.name) files

  record Counted (files : List NamedBytes) : Type 0 where
    most : length (made files) ≤ length files
    fewer : nat_lt (length (made files)) (length files) ≡ is_any_taken r files

  counted : (files : List NamedBytes) → Counted files
  counted [] =
      let none : length (made []) ≡ 0 = ap length (no_entries name_cmp) in
      record { most = omega (arith, none); fewer = ap (λ n. nat_lt n 0) none }
  counted (f ∷ fs) = cases (counted fs) (is_there r f.name) refl where
    both : (a b : Bool) → (a || (true || b)) ≡ true
    both a b = or_true a

    named : Counted fs → (twice : Bool) → (n : ℕ) → n ≡ cond twice (length (made fs)) (length (made fs) + 1)
        → (n ≤ suc (length fs)) × (nat_lt n (suc (length fs)) ≡ (any_there fs || (twice || is_any_twice fs)))
    named h true n is = (omega (arith, is, h.most), lt-ltb n (suc (length fs)) (omega (arith, is, h.most)) ∙ sym (both (any_there fs) (is_any_twice fs)))
    named h false n is =
        let next : n ≡ suc (length (made fs)) = omega (arith, is) in
        (omega (arith, next, h.most), ap (λ m. nat_lt m (suc (length fs))) next ∙ below_next (length (made fs)) (length fs) ∙ h.fewer)

    cases : Counted fs → (there : Bool) → is_there r f.name ≡ there → Counted (f ∷ fs)
    cases h true is =
        let same : length (made (f ∷ fs)) ≡ length (made fs) = ap (count f fs) is in
        record {
          most = omega (arith, same, h.most);
          fewer = ap (λ n. nat_lt n (suc (length fs))) same ∙ lt-ltb (length (made fs)) (suc (length fs)) (omega (arith, h.most))
              ∙ ap (λ b. (b || any_there fs) || (has_name (file_names fs) f.name || is_any_twice fs)) (sym is);
        }
    cases h false is =
        let both_so = named h (has_name (file_names fs) f.name) (length (made (f ∷ fs))) (ap (count f fs) is ∙ one_more f fs is) in
        record {
          most = both_so.0;
          fewer = both_so.1 ∙ ap (λ b. (b || any_there fs) || (has_name (file_names fs) f.name || is_any_twice fs)) (sym is);
        }

  pub fewer_so : (files adds : List NamedBytes) → adds ≡ absent_files r files → nat_lt (length adds) (length files) ≡ is_any_taken r files
  fewer_so files adds is =
      ap (λ (fs : List NamedBytes). nat_lt (length fs) (length files)) is
      ∙ ap (λ n. nat_lt n (length files)) (length-map (made files) (λ (e : FileName × NamedBytes). e.1))
      ∙ (counted files).fewer

  pub some_taken : (files adds : List NamedBytes) → adds ≡ absent_files r files → length adds < length files → true ≡ is_any_taken r files
  some_taken files adds is fewer = sym (lt-ltb (length adds) (length files) fewer) ∙ fewer_so files adds is

  pub none_taken : (files adds : List NamedBytes) → adds ≡ absent_files r files → length files ≤ length adds → false ≡ is_any_taken r files
  none_taken files adds is many = sym (le-ltb (length adds) (length files) many) ∙ fewer_so files adds is
