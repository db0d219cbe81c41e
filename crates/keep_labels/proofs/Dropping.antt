-- Those are dropped that neither a count nor a tag keeps.
use Rattle.std.proofs.Common.{◌≡◌, Bool, true, false, not, ◌&&◌, ◌||◌, List, [], ◌∷◌, map, filter, Option, None, Some, option_map, IsPermutation, Result, Ok, Err, IfOk, Ordering, Less, Equal, Greater, is_eq, refl, sym, ap, ap₂, ◌∙◌}
use Rattle.std.specs.Cmp.{tied_itself}
use Rattle.std.specs.List.{AllByRecursion}
use Rattle.std.specs.Ordering.{ordering_reverse}
use Rattle.keep_names.specs.Orders.{id_cmp}
use Rattle.keep_names.specs.contracts.id.IdOrd.TheImpl.Laws as the_id_laws
use Rattle.keep_names.specs.declared.id.Id.{Id}
use Rattle.keep_snap.specs.Facts.{FactsData}
use Rattle.keep_labels.specs.Keeping.{EachOnce, PolicyData, by_count, by_tag, dropped_names, has_passing, keeps}
use Rattle.keep_labels.specs.Walk.{names_counted}
use Rattle.keep_labels.specs.declared.count.Count.{Count}
use Rattle.keep_labels.specs.declared.order.Counted.{Counted}
use Rattle.keep_labels.specs.declared.order.Counted.TheVariants.{Snapshots, Days, Weeks, Months, Years}
use Rattle.keep_labels.proofs.Chosen.{name_of}
use Rattle.keep_labels.proofs.Counting.{named_counted}
use Rattle.keep_labels.proofs.Kept.{is_named}
use Rattle.keep_labels.proofs.Lists.{all_always, all_both, all_with, any_none, filter_same, or_false}
use Rattle.keep_labels.proofs.Sorting.{apart_behind, once_behind}

pub own_name : (s : FactsData) → is_eq (id_cmp s.name s.name) ≡ true
own_name s = ap is_eq (tied_itself the_id_laws.total-law s.name)

tied_back_by : (o : Ordering) → is_eq (ordering_reverse o) ≡ is_eq o
tied_back_by Less = refl
tied_back_by Equal = refl
tied_back_by Greater = refl

apart_back : (x t : FactsData) → is_eq (id_cmp t.name x.name) ≡ false → is_eq (id_cmp x.name t.name) ≡ false
apart_back x t h = ap is_eq ((the_id_laws.total-law).antisymm x.name t.name) ∙ tied_back_by (id_cmp t.name x.name) ∙ h

-- at its name a snapshot's own answer is found
abbrev OwnAnswer : List FactsData → FactsData → Type 0
OwnAnswer all s = (test : FactsData → Bool) → has_passing test all s.name ≡ test s

own_answers : (all : List FactsData) → EachOnce all → AllByRecursion (OwnAnswer all) all
own_answers [] once = tt
own_answers (x ∷ xs) once =
    let apart = apart_behind x xs (own_name x) once in (
      λ test.
          ap₂ (λ a b. a && test x || b) (own_name x)
          (any_none (λ t. is_eq (id_cmp t.name x.name) && test t) xs (all_with (λ t. is_eq (id_cmp t.name x.name) ≡ false) (λ t. (is_eq (id_cmp t.name x.name) && test t) ≡ false) (λ t h. ap (λ b. b && test t) h) xs apart))
          ∙ or_false (test x),
      all_both (λ t. is_eq (id_cmp t.name x.name) ≡ false) (OwnAnswer xs) (OwnAnswer (x ∷ xs))
          (λ t other own test. ap (λ b. b && test x || has_passing test xs t.name) (apart_back x t other) ∙ own test) xs apart (own_answers xs (once_behind x xs once)),
    )

-- ---- one count

never : (b : Bool) → (b && false) ≡ false
never true = refl
never false = refl

-- where nothing is counted, nothing is kept
pub none_kept : (counted : Counted) (most : Option Count) (all : List FactsData) (name : Id) (known : Bool) → most ≡ None
    → known ≡ (known || has_passing (by_count counted (option_map (λ count. count.number) most) all) all name)
none_kept counted most all name known none =
    let p : FactsData → Bool = λ s. is_eq (id_cmp s.name name) && false in
    sym (or_false known)
    ∙ ap (λ b. known || b) (sym (any_none p all (all_always (λ s. p s ≡ false) (λ s. never (is_eq (id_cmp s.name name))) all)))
    ∙ ap (λ m. known || has_passing (by_count counted (option_map (λ count. count.number) m) all) all name) (sym none)

-- the names that the walk told are put there
pub counted_kept : (counted : Counted) (most : Option Count) (one : Count) (all sorted : List FactsData) (names left : List Id) (name : Id) (was now : Bool)
    → most ≡ Some one → IsPermutation all sorted → names ≡ names_counted counted one.number sorted → left ≡ []
    → (now || is_named left name) ≡ (was || is_named names name)
    → now ≡ (was || has_passing (by_count counted (option_map (λ count. count.number) most) all) all name)
counted_kept counted most one all sorted names left name was now some same told none all_put =
    sym (or_false now) ∙ ap (λ xs. now || is_named xs name) (sym none) ∙ all_put
    ∙ ap (λ b. was || b) (ap (λ xs. is_named xs name) told ∙ named_counted counted one.number all sorted name same)
    ∙ ap (λ m. was || has_passing (by_count counted (option_map (λ count. count.number) m) all) all name) (sym some)

-- ---- all together

-- by the names that are there after each count and after the tags
pub record Steps (policy : PolicyData) (all : List FactsData) (start last daily weekly monthly yearly tagged : Id → Bool) : Type 0 where
  pub none : (name : Id) → start name ≡ false
  pub by_last : (name : Id) → last name ≡ (start name || has_passing (by_count Snapshots policy.last all) all name)
  pub by_day : (name : Id) → daily name ≡ (last name || has_passing (by_count Days policy.daily all) all name)
  pub by_week : (name : Id) → weekly name ≡ (daily name || has_passing (by_count Weeks policy.weekly all) all name)
  pub by_month : (name : Id) → monthly name ≡ (weekly name || has_passing (by_count Months policy.monthly all) all name)
  pub by_year : (name : Id) → yearly name ≡ (monthly name || has_passing (by_count Years policy.yearly all) all name)
  pub by_tags : (name : Id) → tagged name ≡ (yearly name || has_passing (by_tag policy.tags) all name)

kept_at : (policy : PolicyData) (all : List FactsData) (start last daily weekly monthly yearly tagged : Id → Bool) → Steps policy all start last daily weekly monthly yearly tagged
    → (s : FactsData) → OwnAnswer all s → tagged s.name ≡ keeps policy all s
kept_at policy all start last daily weekly monthly yearly tagged steps s own =
    let or : Bool → Bool → Bool = λ a b. a || b in
    steps.by_tags s.name
    ∙ ap₂ or (steps.by_year s.name
    ∙ ap₂ or (steps.by_month s.name
    ∙ ap₂ or (steps.by_week s.name
    ∙ ap₂ or (steps.by_day s.name
    ∙ ap₂ or (steps.by_last s.name
    ∙ ap₂ or (steps.none s.name) (own (by_count Snapshots policy.last all)))
    (own (by_count Days policy.daily all)))
    (own (by_count Weeks policy.weekly all)))
    (own (by_count Months policy.monthly all)))
    (own (by_count Years policy.yearly all)))
    (own (by_tag policy.tags))

names_dropped : (policy : PolicyData) (all : List FactsData) (start last daily weekly monthly yearly tagged : Id → Bool) → Steps policy all start last daily weekly monthly yearly tagged
    → EachOnce all → map name_of (filter (λ s. not (tagged s.name)) all) ≡ dropped_names policy all
names_dropped policy all start last daily weekly monthly yearly tagged steps once =
    ap (map name_of)
    (filter_same (λ s. not (tagged s.name)) (λ s. not (keeps policy all s)) all
    (all_with (OwnAnswer all) (λ s. not (tagged s.name) ≡ not (keeps policy all s)) (λ s own. ap not (kept_at policy all start last daily weekly monthly yearly tagged steps s own)) all (own_answers all once)))

if_ok_with : {T E : Type 0} (P Q : T → Type 0) → ((t : T) → P t → Q t) → (r : Result T E) → IfOk r P → IfOk r Q
if_ok_with P Q f (Ok t) h = f t h
if_ok_with P Q f (Err e) h = h

pub all_dropped : {N E : Type 0} (items : N → List Id) (policy : PolicyData) (all : List FactsData) (start last daily weekly monthly yearly tagged : Id → Bool)
    → Steps policy all start last daily weekly monthly yearly tagged → EachOnce all
    → (r : Result N E) → IfOk r (λ names. items names ≡ map name_of (filter (λ s. not (tagged s.name)) all))
    → IfOk r (λ names. items names ≡ dropped_names policy all)
all_dropped items policy all start last daily weekly monthly yearly tagged steps once r h =
    if_ok_with (λ names. items names ≡ map name_of (filter (λ s. not (tagged s.name)) all)) (λ names. items names ≡ dropped_names policy all)
    (λ names e. e ∙ names_dropped policy all start last daily weekly monthly yearly tagged steps once) r h
