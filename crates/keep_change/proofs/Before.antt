-- What a change asks a facet to hold before it, by the lists of the change.
use Rattle.std.proofs.Common.{◌≡◌, ℕ, ◌+◌, ◌≤◌, ◌||◌, Bool, true, false, cond, List, [], ◌∷◌, ◌++◌, map, Option, Some, None, refl, ap, ◌∙◌, arith}
use Rattle.std.specs.Prelude.{is_some, count_by}
use Rattle.std.specs.List.{find, list_any}
use Rattle.std.specs.Option.{option_map, option_map_or, option_or}
use Rattle.std.proofs.lemmas.List.Folds.{find-append}
use Rattle.std.proofs.lemmas.List.Sums.{sum_by-cons}
use Rattle.keep_names.specs.declared.file_name.FileName.{FileName}
use Rattle.keep_names.specs.declared.id.Id.{Id}
use Rattle.keep_repo.specs.Facet.{Stored, Marked, facet_cmp, facet_eq}
use Rattle.keep_repo.proofs.Orders.{facet_total}
use Rattle.keep_repo.specs.declared.facet.Facet.{Facet}
use Rattle.keep_repo.specs.declared.facet.Facet.TheVariants.{File, Mark}
use Rattle.keep_change.specs.NamedBytes.{NamedBytes}
use Rattle.keep_change.specs.declared.change.Change.{Change}
use Rattle.keep_change.specs.declared.change.PackMark.{PackMark}
use Rattle.keep_change.specs.Change.{Written, written, record_of, added, dropped, set, cleared}
use Rattle.keep_change.specs.Form.{HasNoFacetTwice}
use Rattle.keep_change.specs.Touch.{before_of}
use Rattle.keep_change.proofs.Once.{count_by-facets}
use Rattle.keep_change.proofs.Records.{facet_eq_symm}
use Rattle.keep_change.proofs.Sorted.{is_some-find}

-- 1 where there is something
abbrev some_number : {X : Type 0} → Option X → ℕ
some_number None = 0
some_number (Some x) = 1

find-map : {X Y : Type 0} (f : X → Y) (p : Y → Bool) (xs : List X) → find p (map f xs) ≡ option_map f (find (λ x. p (f x)) xs)
find-map f p [] = refl
find-map f p (x ∷ xs) = split (p (f x)) (find-map f p xs) where
  split : (b : Bool) → find p (map f xs) ≡ option_map f (find (λ y. p (f y)) xs) → cond b (Some (f x)) (find p (map f xs)) ≡ option_map f (cond b (Some x) (find (λ y. p (f y)) xs))
  split true rest = refl
  split false rest = rest

-- what is found is counted
find_counted : {X : Type 0} (key : X → Facet) (p : Facet → Bool) (xs : List X) → some_number (find (λ x. p (key x)) xs) ≤ count_by p (map key xs)
find_counted key p [] = omega arith
find_counted key p (x ∷ xs) =
    let counted : count_by p (key x ∷ map key xs) ≡ cond (p (key x)) 1 0 + count_by p (map key xs) = sum_by-cons (λ f. cond (p f) 1 0) (key x) (map key xs) in
    rw counted (split (p (key x)) (find_counted key p xs)) where
      split : (b : Bool) → some_number (find (λ y. p (key y)) xs) ≤ count_by p (map key xs) → some_number (cond b (Some x) (find (λ y. p (key y)) xs)) ≤ cond b 1 0 + count_by p (map key xs)
      split true rest = omega arith
      split false rest = omega (arith, rest)

-- the record of a facet, by the four lists
record_parts : (c : Change) (q : Facet) → record_of (written c) q ≡
    option_or (option_map added (find (λ f. facet_eq q (File f.name)) c.adds))
    (option_or (option_map dropped (find (λ f. facet_eq q (File f.name)) c.drops))
    (option_or (option_map set (find (λ m. facet_eq q (Mark m.pack)) c.sets))
    (option_map cleared (find (λ m. facet_eq q (Mark m.pack)) c.clears))))
record_parts c q =
    let p : Written → Bool = λ w. facet_eq q w.facet in
    ap (λ (t : Written → Bool). find t (written c)) (λ i w. facet_eq_symm w.facet q i)
    ∙ find-append p (map added c.adds) (map dropped c.drops ++ (map set c.sets ++ map cleared c.clears))
    ∙ ap (option_or (find p (map added c.adds))) (
    find-append p (map dropped c.drops) (map set c.sets ++ map cleared c.clears)
    ∙ ap (option_or (find p (map dropped c.drops))) (find-append p (map set c.sets) (map cleared c.clears)))
    ∙ rw (find-map added p c.adds, find-map dropped p c.drops, find-map set p c.sets, find-map cleared p c.clears) refl

one_of_four : (a d : Option NamedBytes) (s k : Option PackMark) → some_number a + some_number d + some_number s + some_number k ≤ 1 →
    option_map_or (λ (w : Written). w.before) (option_or (option_map added a) (option_or (option_map dropped d) (option_or (option_map set s) (option_map cleared k)))) None
    ≡ option_or (option_map (λ (f : NamedBytes). Stored f.bytes) d) (option_map (λ (m : PackMark). Marked m.mark) k)
one_of_four None None None None few = refl
one_of_four None None None (Some k) few = refl
one_of_four None None (Some s) None few = refl
one_of_four None None (Some s) (Some k) few = absurd (omega (arith, few))
one_of_four None (Some d) s k few = refl
one_of_four (Some a) None None None few = refl
one_of_four (Some a) None (Some s) None few = refl
one_of_four (Some a) None None (Some k) few = absurd (omega (arith, few))
one_of_four (Some a) None (Some s) (Some k) few = absurd (omega (arith, few))
one_of_four (Some a) (Some d) None None few = absurd (omega (arith, few))
one_of_four (Some a) (Some d) None (Some k) few = absurd (omega (arith, few))
one_of_four (Some a) (Some d) (Some s) None few = absurd (omega (arith, few))
one_of_four (Some a) (Some d) (Some s) (Some k) few = absurd (omega (arith, few))

-- a change asks for what it drops or clears, and else for nothing
pub before_parts : (c : Change) → HasNoFacetTwice c → (q : Facet) → before_of c q ≡
    option_or (option_map (λ f. Stored f.bytes) (find (λ f. facet_eq q (File f.name)) c.drops))
    (option_map (λ m. Marked m.mark) (find (λ m. facet_eq q (Mark m.pack)) c.clears))
before_parts c once q =
    let few : some_number (find (λ f. facet_eq q (File f.name)) c.adds) + some_number (find (λ f. facet_eq q (File f.name)) c.drops)
    + some_number (find (λ m. facet_eq q (Mark m.pack)) c.sets) + some_number (find (λ m. facet_eq q (Mark m.pack)) c.clears) ≤ 1 =
    omega (
      arith,
      once q,
      count_by-facets (facet_eq q) c,
      find_counted (λ (f : NamedBytes). File f.name) (facet_eq q) c.adds,
      find_counted (λ (f : NamedBytes). File f.name) (facet_eq q) c.drops,
      find_counted (λ (m : PackMark). Mark m.pack) (facet_eq q) c.sets,
      find_counted (λ (m : PackMark). Mark m.pack) (facet_eq q) c.clears,
    ) in
    ap (λ (r : Option Written). option_map_or (λ w. w.before) r None) (record_parts c q)
    ∙ one_of_four (find (λ f. facet_eq q (File f.name)) c.adds) (find (λ f. facet_eq q (File f.name)) c.drops)
    (find (λ m. facet_eq q (Mark m.pack)) c.sets) (find (λ m. facet_eq q (Mark m.pack)) c.clears) few

none_found : {X : Type 0} (xs : List X) → find (λ x. false) xs ≡ None
none_found [] = refl
none_found (x ∷ xs) = none_found xs

or_nothing : {X : Type 0} (o : Option X) → option_or o None ≡ o
or_nothing None = refl
or_nothing (Some x) = refl

-- of a file it asks for what it drops
pub before-file : (c : Change) → HasNoFacetTwice c → (name : FileName) (d : Option NamedBytes) → find (λ f. facet_eq (File name) (File f.name)) c.drops ≡ d → before_of c (File name) ≡ option_map (λ (f : NamedBytes). Stored f.bytes) d
before-file c once name d found =
    before_parts c once (File name)
    ∙ rw (none_found c.clears, found) (or_nothing (option_map (λ (f : NamedBytes). Stored f.bytes) d))

-- of a mark it asks for what it clears
pub before-mark : (c : Change) → HasNoFacetTwice c → (pack : Id) (k : Option PackMark) → find (λ m. facet_eq (Mark pack) (Mark m.pack)) c.clears ≡ k → before_of c (Mark pack) ≡ option_map (λ (m : PackMark). Marked m.mark) k
before-mark c once pack k found = before_parts c once (Mark pack) ∙ rw (none_found c.drops, found) refl

-- some is found where a member's facet is this
pub before-some : (c : Change) → HasNoFacetTwice c → (q : Facet) → is_some (before_of c q) ≡ (list_any (facet_eq q) (map (λ f. File f.name) c.drops) || list_any (facet_eq q) (map (λ m. Mark m.pack) c.clears))
before-some c once q =
    ap is_some (before_parts c once q)
    ∙ either (find (λ f. facet_eq q (File f.name)) c.drops) (find (λ m. facet_eq q (Mark m.pack)) c.clears)
    ∙ rw (is_some-find facet_cmp facet_total (λ (f : NamedBytes). File f.name) q c.drops, is_some-find facet_cmp facet_total (λ (m : PackMark). Mark m.pack) q c.clears) refl
  where
    either : (d : Option NamedBytes) (k : Option PackMark) → is_some (option_or (option_map (λ (f : NamedBytes). Stored f.bytes) d) (option_map (λ (m : PackMark). Marked m.mark) k)) ≡ (is_some d || is_some k)
    either None None = refl
    either None (Some m) = refl
    either (Some f) k = refl
