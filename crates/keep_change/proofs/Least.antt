-- The least facet of several lists.
use Rattle.std.proofs.Common.{◌≡◌, Bool, true, false, cond, List, [], ◌∷◌, ◌++◌, map, filter, Option, Some, None, Ordering, refl, sym, ap, ◌∙◌, not, ℕ, suc, ◌+◌, ◌<◌, length, get_or, drop, drop-cons, add-one}
use Rattle.std.specs.Prelude.{is_some, is_none, ◌↔◌}
use Rattle.std.specs.List.{list_all}
use Rattle.std.specs.Ordering.{ord_min, is_lt, is_gt, ordering_reverse}
use Rattle.std.specs.Cmp.{IsTotalOrder, upto}
use Rattle.std.specs.declared.cmp.Ordering.TheVariants.{Less, Equal, Greater}
use Rattle.std.proofs.lemmas.List.{map-append}
use Rattle.std.proofs.lemmas.List.Elements.{filter-append}
use Rattle.keep_repo.specs.Facet.{Content, Stored, Marked, facet_cmp}
use Rattle.keep_repo.specs.declared.facet.Facet.{Facet}
use Rattle.keep_repo.specs.declared.facet.Facet.TheVariants.{File, Mark}
use Rattle.keep_repo.proofs.Orders.{facet_total}
use Rattle.keep_change.specs.declared.change.Change.{Change}
use Rattle.keep_change.specs.Change.{Holding, Written, Asked, written, asked, added, dropped, set, cleared, file_asked, mark_asked, is_as_written, is_as_asked, is_met, holds_same}
use Rattle.keep_change.specs.Form.{lesser, least, least_where, least_unmet}
use Rattle.keep_change.proofs.Records.{and_first, and_second, and_both}

module _ {K : Type 0} (R : K → K → Ordering) (o : IsTotalOrder R) where
  lt_back : (r : Ordering) → is_lt (ordering_reverse r) ≡ is_gt r
  lt_back Less = refl
  lt_back Equal = refl
  lt_back Greater = refl

  -- not below is at most
  turned : (x y : K) → is_lt (R x y) ≡ is_gt (R y x)
  turned x y = ap is_lt (o.antisymm x y) ∙ lt_back (R y x)

  is_less : (r : Ordering) → is_lt r ≡ true → r ≡ Less
  is_less Less h = refl
  is_less Equal h = cc h
  is_less Greater h = cc h

  below_chain : (x y z : K) → is_lt (R x y) ≡ true → is_lt (R y z) ≡ true → is_lt (R x z) ≡ true
  below_chain x y z first second = ap is_lt (o.trans x y z (is_less _ first) (is_less _ second))

  not_below_chain : (x y z : K) → is_lt (R y x) ≡ false → is_lt (R z y) ≡ false → is_lt (R z x) ≡ false
  not_below_chain x y z first second =
      turned z x ∙ upto o x y z (sym (turned y x) ∙ first) (sym (turned z y) ∙ second)

  grouped : (a b c : K) (ba cb ca : Bool) → is_lt (R b a) ≡ ba → is_lt (R c b) ≡ cb → is_lt (R c a) ≡ ca → ord_min R (ord_min R a b) c ≡ ord_min R a (ord_min R b c)
  grouped a b c true true true p q r = rw (p, q, r) refl
  grouped a b c true true false p q r = cc (below_chain c b a q p)
  grouped a b c true false ca p q r = rw (p, q) (rw p refl)
  grouped a b c false true ca p q r = rw (p, q) refl
  grouped a b c false false true p q r = cc (not_below_chain a b c p q)
  grouped a b c false false false p q r = rw (p, q, r) (rw p refl)

  pub ord_min_assoc : (a b c : K) → ord_min R (ord_min R a b) c ≡ ord_min R a (ord_min R b c)
  ord_min_assoc a b c = grouped a b c _ _ _ refl refl refl

pub lesser_assoc : (a b c : Option Facet) → lesser (lesser a b) c ≡ lesser a (lesser b c)
lesser_assoc None b c = refl
lesser_assoc (Some a) None c = refl
lesser_assoc (Some a) (Some b) None = refl
lesser_assoc (Some a) (Some b) (Some c) = ap Some (ord_min_assoc facet_cmp facet_total a b c)

pub least-append : (fs gs : List Facet) → least (fs ++ gs) ≡ lesser (least fs) (least gs)
least-append [] gs = refl
least-append (f ∷ fs) gs = ap (lesser (Some f)) (least-append fs gs) ∙ sym (lesser_assoc (Some f) (least fs) (least gs))

pub least_where-append : {X : Type 0} (facet_of : X → Facet) (p : X → Bool) (xs ys : List X) → least_where facet_of p (xs ++ ys) ≡ lesser (least_where facet_of p xs) (least_where facet_of p ys)
least_where-append facet_of p xs ys =
    ap (λ zs. least (map facet_of zs)) (filter-append p xs ys) ∙ ap least (map-append facet_of (filter p xs) (filter p ys))
    ∙ least-append (map facet_of (filter p xs)) (map facet_of (filter p ys))

-- one more at the front
pub least_where-cons : {X : Type 0} (facet_of : X → Facet) (p : X → Bool) (x : X) (xs : List X) → least_where facet_of p (x ∷ xs) ≡ cond (p x) (lesser (Some (facet_of x)) (least_where facet_of p xs)) (least_where facet_of p xs)
least_where-cons facet_of p x xs = elim (p x) as (λ b. least (map facet_of (cond b (x ∷ filter p xs) (filter p xs))) ≡ cond b (lesser (Some (facet_of x)) (least_where facet_of p xs)) (least_where facet_of p xs)) [
  | true ↦ refl
  | false ↦ refl
]

-- what is seen of each may be seen before
pub least_where-map : {X Y : Type 0} (f : X → Y) (facet_of : Y → Facet) (p : Y → Bool) (xs : List X) → least_where facet_of p (map f xs) ≡ least_where (λ x. facet_of (f x)) (λ x. p (f x)) xs
least_where-map f facet_of p [] = refl
least_where-map f facet_of p (x ∷ xs) =
    least_where-cons facet_of p (f x) (map f xs)
    ∙ ap (λ rest. cond (p (f x)) (lesser (Some (facet_of (f x))) rest) rest) (least_where-map f facet_of p xs)
    ∙ sym (least_where-cons (λ x. facet_of (f x)) (λ x. p (f x)) x xs)

step : {X : Type 0} (facet_of : X → Facet) (p : X → Bool) (x : X) (xs : List X) (before : Option Facet) (b : Bool) → p x ≡ b → lesser before (least_where facet_of p (x ∷ xs)) ≡ lesser (cond b (lesser before (Some (facet_of x))) before) (least_where facet_of p xs)
step facet_of p x xs before true passes =
    rw passes (sym (lesser_assoc before (Some (facet_of x)) (least_where facet_of p xs)))
step facet_of p x xs before false fails = rw fails refl

-- one more member of a list, taken with the least before it
pub least_more : {X : Type 0} (facet_of : X → Facet) (p : X → Bool) (xs : List X) (i : ℕ) (x : X) (before : Option Facet) (b : Bool) → i < length xs → x ≡ get_or xs i x → p x ≡ b → lesser (cond b (lesser before (Some (facet_of x))) before) (least_where facet_of p (drop (i + 1) xs)) ≡ lesser before (least_where facet_of p (drop i xs))
least_more facet_of p xs i x before b within is test =
    let e : drop i xs ≡ x ∷ drop (suc i) xs = drop-cons xs i x within ∙ ap (λ y. y ∷ drop (suc i) xs) (sym is) in
    rw (e, add-one) (sym (step facet_of p x (drop (suc i) xs) before b test))

-- the next member is unmet, and is taken with the least before it
pub least_taken : {X : Type 0} (facet_of : X → Facet) (p : X → Bool) (xs : List X) (i : ℕ) (x : X) (before after : Option Facet) → after ≡ lesser before (Some (facet_of x)) → i < length xs → x ≡ get_or xs i x → p x ≡ true → lesser before (least_where facet_of p (drop i xs)) ≡ least_where facet_of p xs → lesser after (least_where facet_of p (drop (i + 1) xs)) ≡ least_where facet_of p xs
least_taken facet_of p xs i x before after taken within is unmet done =
    rw taken (least_more facet_of p xs i x before true within is unmet ∙ done)

-- the next member is as asked, and the least stays
pub least_kept : {X : Type 0} (facet_of : X → Facet) (p : X → Bool) (xs : List X) (i : ℕ) (x : X) (before after : Option Facet) → after ≡ before → i < length xs → x ≡ get_or xs i x → p x ≡ false → lesser before (least_where facet_of p (drop i xs)) ≡ least_where facet_of p xs → lesser after (least_where facet_of p (drop (i + 1) xs)) ≡ least_where facet_of p xs
least_kept facet_of p xs i x before after kept within is met done =
    rw kept (least_more facet_of p xs i x before false within is met ∙ done)

-- a facet that must be empty is unmet where it is filled
filled_unmet : (x : Option Content) → not (holds_same x None) ≡ is_some x
filled_unmet None = refl
filled_unmet (Some (Stored bytes)) = refl
filled_unmet (Some (Marked mark)) = refl

pub empty_unmet : (x : Option Content) → not (is_none x) ≡ is_some x
empty_unmet None = refl
empty_unmet (Some x) = refl

-- two tests that agree find the same least
same_least : {X : Type 0} (facet_of : X → Facet) (p q : X → Bool) (xs : List X) → ((x : X) → p x ≡ q x) → least_where facet_of p xs ≡ least_where facet_of q xs
same_least {X = X} facet_of p q xs agree = ap (λ (t : X → Bool). least_where facet_of t xs) (λ i x. agree x i)

-- the written facets that aren't as asked, list by list
pub least_written : (h : Holding) (c : Change) → least_where (λ w. w.facet) (λ w. not (is_as_written h w)) (written c) ≡
    lesser (least_where (λ f. File f.name) (λ f. is_some (h (File f.name))) c.adds)
    (lesser (least_where (λ f. File f.name) (λ f. not (holds_same (h (File f.name)) (Some (Stored f.bytes)))) c.drops)
    (lesser (least_where (λ m. Mark m.pack) (λ m. is_some (h (Mark m.pack))) c.sets)
    (least_where (λ m. Mark m.pack) (λ m. not (holds_same (h (Mark m.pack)) (Some (Marked m.mark)))) c.clears)))
least_written h c =
    let p : Written → Bool = λ w. not (is_as_written h w) in
    least_where-append (λ w. w.facet) p (map added c.adds) (map dropped c.drops ++ (map set c.sets ++ map cleared c.clears))
    ∙ ap (lesser (least_where (λ (w : Written). w.facet) p (map added c.adds))) (
    least_where-append (λ w. w.facet) p (map dropped c.drops) (map set c.sets ++ map cleared c.clears)
    ∙ ap (lesser (least_where (λ (w : Written). w.facet) p (map dropped c.drops))) (least_where-append (λ w. w.facet) p (map set c.sets) (map cleared c.clears)))
    ∙ rw (
      least_where-map added (λ w. w.facet) p c.adds ∙ same_least _ _ (λ f. is_some (h (File f.name))) c.adds (λ f. filled_unmet (h (File f.name))),
      least_where-map dropped (λ w. w.facet) p c.drops,
      least_where-map set (λ w. w.facet) p c.sets ∙ same_least _ _ (λ m. is_some (h (Mark m.pack))) c.sets (λ m. filled_unmet (h (Mark m.pack))),
      least_where-map cleared (λ w. w.facet) p c.clears,
    ) refl

-- the other facets that aren't as asked, list by list
pub least_asked : (h : Holding) (c : Change) → least_where (λ a. a.facet) (λ a. not (is_as_asked h a)) (asked c) ≡
    lesser (least_where File (λ n. not (is_some (h (File n)))) c.present)
    (lesser (least_where File (λ n. is_some (h (File n))) c.absent)
    (lesser (least_where Mark (λ i. not (is_some (h (Mark i)))) c.marked)
    (least_where Mark (λ i. is_some (h (Mark i))) c.unmarked)))
least_asked h c =
    let p : Asked → Bool = λ a. not (is_as_asked h a) in
    least_where-append (λ a. a.facet) p (map (file_asked true) c.present) (map (file_asked false) c.absent ++ (map (mark_asked true) c.marked ++ map (mark_asked false) c.unmarked))
    ∙ ap (lesser (least_where (λ (a : Asked). a.facet) p (map (file_asked true) c.present))) (
    least_where-append (λ a. a.facet) p (map (file_asked false) c.absent) (map (mark_asked true) c.marked ++ map (mark_asked false) c.unmarked)
    ∙ ap (lesser (least_where (λ (a : Asked). a.facet) p (map (file_asked false) c.absent))) (least_where-append (λ a. a.facet) p (map (mark_asked true) c.marked) (map (mark_asked false) c.unmarked)))
    ∙ rw (
      least_where-map (file_asked true) (λ a. a.facet) p c.present,
      least_where-map (file_asked false) (λ a. a.facet) p c.absent ∙ same_least _ _ (λ n. is_some (h (File n))) c.absent (λ n. empty_unmet (h (File n))),
      least_where-map (mark_asked true) (λ a. a.facet) p c.marked,
      least_where-map (mark_asked false) (λ a. a.facet) p c.unmarked ∙ same_least _ _ (λ i. is_some (h (Mark i))) c.unmarked (λ i. empty_unmet (h (Mark i))),
    ) refl

lesser_some : (f : Facet) (o : Option Facet) → lesser (Some f) o ≡ None → ⊥
lesser_some f None none = cc none
lesser_some f (Some g) none = cc none

-- there is no least one where all are as asked
pub none_least : {X : Type 0} (facet_of : X → Facet) (p : X → Bool) (xs : List X) → (list_all p xs ≡ true) ↔ (least_where facet_of (λ x. not (p x)) xs ≡ None)
none_least facet_of p [] = (λ _. refl, λ _. refl)
none_least facet_of p (x ∷ xs) = split (p x) refl (none_least facet_of p xs) where
  split : (b : Bool) → p x ≡ b → (list_all p xs ≡ true) ↔ (least_where facet_of (λ x. not (p x)) xs ≡ None) → (list_all p (x ∷ xs) ≡ true) ↔ (least_where facet_of (λ x. not (p x)) (x ∷ xs) ≡ None)
  split true passes rest = rw passes rest
  split false fails rest = rw fails (λ h. cc h, λ none. absurd (lesser_some _ _ none))

lesser_none : (a b : Option Facet) → lesser a b ≡ None → (a ≡ None) × (b ≡ None)
lesser_none None b none = (refl, none)
lesser_none (Some a) b none = absurd (lesser_some a b none)

-- the least unmet facet is the lesser of the two
pub least_unmet_parts : (h : Holding) (c : Change) → least_unmet h c ≡ lesser (least_where (λ w. w.facet) (λ w. not (is_as_written h w)) (written c)) (least_where (λ a. a.facet) (λ a. not (is_as_asked h a)) (asked c))
least_unmet_parts h c =
    least-append (map (λ w. w.facet) (filter (λ w. not (is_as_written h w)) (written c))) (map (λ a. a.facet) (filter (λ a. not (is_as_asked h a)) (asked c)))

-- a change is met where no facet is unmet
pub met_least : (h : Holding) (c : Change) → (is_met h c ≡ true) ↔ (least_unmet h c ≡ None)
met_least h c =
    let writes = none_least (λ w. w.facet) (is_as_written h) (written c) in
    let asks = none_least (λ a. a.facet) (is_as_asked h) (asked c) in (
      λ met.
          let ready = and_first (list_all (is_as_written h) (written c)) (list_all (is_as_asked h) (asked c)) met in
          let looked = and_second (list_all (is_as_written h) (written c)) (list_all (is_as_asked h) (asked c)) met in
          least_unmet_parts h c ∙ rw (writes.0 ready, asks.0 looked) refl,
      λ none. let parts = lesser_none _ _ (sym (least_unmet_parts h c) ∙ none) in and_both _ _ (writes.1 parts.0) (asks.1 parts.1),
    )
