-- Names that rise stand once.
use Rattle.std.proofs.Common.{◌≡◌, ℕ, ◌+◌, ◌≤◌, Bool, true, false, cond, ◌&&◌, List, [], ◌∷◌, map, Option, Some, count_by, Ordering, Less, Equal, Greater, is_eq, is_lt, refl, sym, ap, ◌∙◌, arith, true≢false}
use Rattle.std.proofs.lemmas.List.Sums.{sum_by-cons}
use Rattle.std.specs.List.{AllByRecursion}
use Rattle.std.specs.List.Sorted.{IsStrictlySortedBy}
use Rattle.std.specs.Ordering.{ordering_reverse}
use Rattle.keep_names.specs.Orders.{id_cmp}
use Rattle.keep_names.specs.contracts.id.IdOrd.TheImpl.Laws as the_id_laws
use Rattle.keep_names.specs.declared.id.Id.{Id}
use Rattle.keep_snap.specs.Facts.{FactsData}
use Rattle.keep_labels.specs.Keeping.{EachOnce}
use Rattle.keep_labels.specs.Rising.{is_above, names_rise}
use Rattle.keep_labels.proofs.Lists.{all_with, count_none}
use Rattle.keep_labels.proofs.Ranks.{is_eq_true}

is_less : (o : Ordering) → is_lt o ≡ true → o ≡ Less
is_less Less h = refl
is_less Equal h = cc
is_less Greater h = cc

first_true : (a b : Bool) → (a && b) ≡ true → a ≡ true
first_true true b h = refl
first_true false b h = h

rest_true : (a b : Bool) → (a && b) ≡ true → b ≡ true
rest_true true b h = h
rest_true false b h = absurd (true≢false (sym h))

abbrev Above : FactsData → FactsData → Type 0
Above s t = id_cmp s.name t.name ≡ Less

all_above : (last : FactsData) (all : List FactsData) → names_rise (Some last) all ≡ true → AllByRecursion (Above last) all
all_above last [] h = tt
all_above last (s ∷ all) h =
    let here : Above last s = is_less (id_cmp last.name s.name) (first_true (is_above (Some last) s) (names_rise (Some s) all) h) in (
      here,
      all_with (Above s) (Above last) (λ t below. (the_id_laws.total-law).trans last.name s.name t.name here below) all (all_above s all (rest_true (is_above (Some last) s) (names_rise (Some s) all) h)),
    )

of_names : (s : FactsData) (all : List FactsData) → AllByRecursion (λ name. id_cmp s.name name ≡ Less) (map (λ t. t.name) all) → AllByRecursion (Above s) all
of_names s [] h = tt
of_names s (t ∷ all) h = (h.0, of_names s all h.1)

to_names : (s : FactsData) (all : List FactsData) → AllByRecursion (Above s) all → AllByRecursion (λ name. id_cmp s.name name ≡ Less) (map (λ t. t.name) all)
to_names s [] h = tt
to_names s (t ∷ all) h = (h.0, to_names s all h.1)

other_by : (o : Ordering) → o ≡ Less → is_eq (ordering_reverse o) ≡ false
other_by Less h = refl
other_by Equal h = cc
other_by Greater h = refl

-- one that is above has not the name of the one below
other_name : (s t : FactsData) (name : Id) → id_cmp s.name name ≡ Equal → Above s t → is_eq (id_cmp t.name name) ≡ false
other_name s t name tied above =
    let same : id_cmp s.name t.name ≡ id_cmp name t.name = (the_id_laws.total-law).congr s.name name t.name tied in
    ap is_eq ((the_id_laws.total-law).antisymm t.name name) ∙ other_by (id_cmp name t.name) (sym same ∙ above)

once_by : (b : Bool) (k total : ℕ) → total ≡ cond b 1 0 + k → (b ≡ true → k ≡ 0) → k ≤ 1 → total ≤ 1
once_by true k total e none below = let zero_left : k ≡ 0 = none refl in omega arith
once_by false k total e none below = omega arith

-- names in order stand once
pub once_in_order : (all : List FactsData) → IsStrictlySortedBy id_cmp (map (λ s. s.name) all) → EachOnce all
unfolding IsStrictlySortedBy
once_in_order [] h name = omega arith
once_in_order (s ∷ all) h name =
    let p : FactsData → Bool = λ t. is_eq (id_cmp t.name name) in
    let above : AllByRecursion (Above s) all = of_names s all h.0 in
    let none : p s ≡ true → count_by p all ≡ 0 =
    λ tied. count_none p all (all_with (Above s) (λ t. p t ≡ false) (λ t later. other_name s t name (is_eq_true (id_cmp s.name name) tied) later) all above) in
    once_by (p s) (count_by p all) (count_by p (s ∷ all)) (sum_by-cons (λ t. cond (p t) 1 0) s all) none (once_in_order all h.1 name)

names_in_order : (last : Option FactsData) (all : List FactsData) → names_rise last all ≡ true → IsStrictlySortedBy id_cmp (map (λ s. s.name) all)
unfolding IsStrictlySortedBy
names_in_order last [] h = tt
names_in_order last (s ∷ all) h =
    let rest : names_rise (Some s) all ≡ true = rest_true (is_above last s) (names_rise (Some s) all) h in
    (to_names s all (all_above s all rest), names_in_order (Some s) all rest)

pub rising_once : (last : Option FactsData) (all : List FactsData) → names_rise last all ≡ true → EachOnce all
rising_once last all h = once_in_order all (names_in_order last all h)
