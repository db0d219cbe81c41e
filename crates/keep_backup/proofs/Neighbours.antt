-- Paths in order: where no neighbours clash, no two do.
use Rattle.std.proofs.Common.{◌≡◌, ℕ, zero, suc, ◌+◌, ◌<◌, Bool, true, false, ◌&&◌, ◌||◌, List, [], ◌∷◌, length, get_or, Ordering, Less, Equal, Greater, bytes_eq, is_lt, refl, sym, ap, ap₂, subst, ◌∙◌, true≢false, arith}
use Rattle.std.proofs.lemmas.Slice.Eq.{bytes_eq-Decides}
use Rattle.std.specs.Cmp.{tied_itself}
use Rattle.std.specs.Cmp.Lexicographic.{nat_list_cmp_total}
use Rattle.std.specs.List.{AllByRecursion, list_any}
use Rattle.std.specs.Ordering.{match_ordering, ordering_reverse, ordering_then}
use Rattle.keep_plan.proofs.Ordered.{each_so}
use Rattle.keep_backup.specs.Paths.{Path, StandInOrder, any_clash, do_clash, is_front, path_cmp, stands_before}
use Rattle.keep_backup.proofs.Groups.{Name, name_cmp, same_name}

both : (a b : Bool) → a ≡ true → b ≡ true → (a && b) ≡ true
both a b e f = ap₂ (λ x y. x && y) e f

not_true : (b : Bool) → (b ≡ true → ⊥) → b ≡ false
not_true true h = absurd (h refl)
not_true false h = refl

-- ---- one path before another

-- a path that stands before another is not its front, and neither the other way round
less_apart : (x y : Name) → name_cmp x y ≡ Less → (bytes_eq x y ≡ false) × (bytes_eq y x ≡ false)
less_apart x y less = (not_true _ (λ e. unequal ((bytes_eq-Decides x y).0 e)), not_true _ (λ e. unequal (sym ((bytes_eq-Decides y x).0 e)))) where
  unequal : x ≡ y → ⊥
  unequal e = not_both (sym less ∙ ap (name_cmp x) (sym e) ∙ tied_itself nat_list_cmp_total x) where
    not_both : Less ≡ Equal → ⊥
    not_both e = cc

module _ (x y : Name) (p q : Path) where
  -- by the order of the first names
  apart_by : (o : Ordering) → name_cmp x y ≡ o → match_ordering o true (stands_before p q) false ≡ true → (stands_before p q ≡ true → (is_front p q ≡ false) × (is_front q p ≡ false)) → (is_front (x ∷ p) (y ∷ q) ≡ false) × (is_front (y ∷ q) (x ∷ p) ≡ false)
  apart_by Less is h below =
      let apart = less_apart x y is in
      (ap (λ b. b && is_front p q) apart.0, ap (λ b. b && is_front q p) apart.1)
  apart_by Equal is h below =
      let same = same_name x y is in
      let apart = below h in
      (ap₂ (λ a b. a && b) ((bytes_eq-Decides x y).1 same) apart.0, ap₂ (λ a b. a && b) ((bytes_eq-Decides y x).1 (sym same)) apart.1)
  apart_by Greater is h below = absurd (true≢false (sym h))

before_apart : (p q : Path) → stands_before p q ≡ true → (is_front p q ≡ false) × (is_front q p ≡ false)
before_apart [] q h = absurd (true≢false (sym h))
before_apart (x ∷ p) [] h = absurd (true≢false (sym h))
before_apart (x ∷ p) (y ∷ q) h = apart_by x y p q (name_cmp x y) refl h (before_apart p q)

pub before_no_clash : (p q : Path) → stands_before p q ≡ true → do_clash p q ≡ false
before_no_clash p q h = let apart = before_apart p q h in ap₂ (λ a b. a || b) apart.0 apart.1

module _ (x y z : Name) (p q r : Path) where
  through_by : (o u : Ordering) → name_cmp x y ≡ o → name_cmp y z ≡ u → match_ordering o true (stands_before p q) false ≡ true → match_ordering u true (stands_before q r) false ≡ true → (stands_before p q ≡ true → stands_before q r ≡ true → stands_before p r ≡ true)
      → match_ordering (name_cmp x z) true (stands_before p r) false ≡ true
  through_by Less Less is js h g below = ap (λ o. match_ordering o true (stands_before p r) false) (nat_list_cmp_total.trans x y z is js)
  through_by Less Equal is js h g below = ap (λ o. match_ordering o true (stands_before p r) false) (ap (name_cmp x) (sym (same_name y z js)) ∙ is)
  through_by Less Greater is js h g below = absurd (true≢false (sym g))
  through_by Equal Less is js h g below = ap (λ o. match_ordering o true (stands_before p r) false) (nat_list_cmp_total.congr x y z is ∙ js)
  through_by Equal Equal is js h g below = ap (λ o. match_ordering o true (stands_before p r) false) (nat_list_cmp_total.congr x y z is ∙ js) ∙ below h g
  through_by Equal Greater is js h g below = absurd (true≢false (sym g))
  through_by Greater u is js h g below = absurd (true≢false (sym h))

pub before_through : (p q r : Path) → stands_before p q ≡ true → stands_before q r ≡ true → stands_before p r ≡ true
before_through [] q r h g = absurd (true≢false (sym h))
before_through (x ∷ p) [] r h g = absurd (true≢false (sym h))
before_through (x ∷ p) (y ∷ q) [] h g = absurd (true≢false (sym g))
before_through (x ∷ p) (y ∷ q) (z ∷ r) h g = through_by x y z p q r (name_cmp x y) (name_cmp y z) refl refl h g (before_through p q r)

module _ (x y : Name) (p q : Path) where
  less_by : (o : Ordering) → name_cmp x y ≡ o → match_ordering o true (stands_before p q) false ≡ true → (stands_before p q ≡ true → path_cmp p q ≡ Less) → ordering_then o (path_cmp p q) ≡ Less
  less_by Less is h below = refl
  less_by Equal is h below = below h
  less_by Greater is h below = absurd (true≢false (sym h))

pub before_less : (p q : Path) → stands_before p q ≡ true → path_cmp p q ≡ Less
before_less [] q h = absurd (true≢false (sym h))
before_less (x ∷ p) [] h = absurd (true≢false (sym h))
before_less (x ∷ p) (y ∷ q) h = less_by x y p q (name_cmp x y) refl h (before_less p q)

-- what isn't less than a path and doesn't lie below it comes after it
module _ (x y : Name) (p q : Path) where
  before_by : (o : Ordering) → name_cmp y x ≡ o → is_lt (ordering_then o (path_cmp q p)) ≡ false → (bytes_eq x y && is_front p q) ≡ false → (is_lt (path_cmp q p) ≡ false → is_front p q ≡ false → stands_before p q ≡ true)
      → match_ordering (name_cmp x y) true (stands_before p q) false ≡ true
  before_by Less is h g below = absurd (true≢false h)
  before_by Equal is h g below =
      let same : y ≡ x = same_name y x is in
      let e : name_cmp x y ≡ Equal = ap (name_cmp x) same ∙ tied_itself nat_list_cmp_total x in
      let so : bytes_eq x y ≡ true = (bytes_eq-Decides x y).1 (sym same) in
      let front : is_front p q ≡ false = sym (ap (λ b. b && is_front p q) so) ∙ g in
      ap (λ o. match_ordering o true (stands_before p q) false) e ∙ below h front
  before_by Greater is h g below =
      ap (λ o. match_ordering o true (stands_before p q) false) (nat_list_cmp_total.antisymm x y ∙ ap ordering_reverse is)

pub stands_from_sorted : (p q : Path) → is_lt (path_cmp q p) ≡ false → is_front p q ≡ false → stands_before p q ≡ true
stands_from_sorted [] q h g = absurd (true≢false g)
stands_from_sorted (x ∷ p) [] h g = absurd (true≢false h)
stands_from_sorted (x ∷ p) (y ∷ q) h g = before_by x y p q (name_cmp y x) refl h g (stands_from_sorted p q)

-- ---- lists of paths

-- each neighbour before the next
abbrev pub StepsUp : List Path → Type 0
StepsUp [] = Unit {0}
StepsUp (p ∷ []) = Unit {0}
StepsUp (p ∷ q ∷ ps) = (stands_before p q ≡ true) × StepsUp (q ∷ ps)

pub in_order_from_steps : (ps : List Path) → StepsUp ps → StandInOrder ps
in_order_from_steps [] h = tt
in_order_from_steps (p ∷ []) h = (tt, tt)
in_order_from_steps (p ∷ q ∷ ps) h =
    let rest : StandInOrder (q ∷ ps) = in_order_from_steps (q ∷ ps) h.1 in
    ((h.0, each_so (λ r. stands_before q r ≡ true) (λ r. stands_before p r ≡ true) (λ r g. before_through p q r h.0 g) ps rest.0), rest)

none_clash : (p : Path) (ps : List Path) → AllByRecursion (λ q. stands_before p q ≡ true) ps → list_any (do_clash p) ps ≡ false
none_clash p [] all = refl
none_clash p (q ∷ ps) all = ap₂ (λ a b. a || b) (before_no_clash p q all.0) (none_clash p ps all.1)

pub in_order_no_clash : (ps : List Path) → StandInOrder ps → any_clash ps ≡ false
in_order_no_clash [] h = refl
in_order_no_clash (p ∷ ps) h = ap₂ (λ a b. a || b) (none_clash p ps h.0) (in_order_no_clash ps h.1)

or-true : (b : Bool) → (b || true) ≡ true
or-true true = refl
or-true false = refl

-- two neighbours that clash
pub neighbours_clash : (ps : List Path) (i : ℕ) (d : Path) → i + 1 < length ps → is_front (get_or ps i d) (get_or ps (i + 1) d) ≡ true → any_clash ps ≡ true
neighbours_clash [] i d lt h = absurd (omega arith)
neighbours_clash (p ∷ []) i d lt h = absurd (omega arith)
neighbours_clash (p ∷ q ∷ ps) zero d lt h =
    ap (λ b. ((b || is_front q p) || list_any (do_clash p) ps) || any_clash (q ∷ ps)) h
neighbours_clash (p ∷ q ∷ ps) (suc i) d lt h =
    let G : ℕ → Type 0 = λ n. is_front (get_or (q ∷ ps) i d) (get_or (p ∷ q ∷ ps) n d) ≡ true in
    let e : suc i + 1 ≡ suc (i + 1) = omega arith in
    ap (λ b. list_any (do_clash p) (q ∷ ps) || b) (neighbours_clash (q ∷ ps) i d (omega arith) (subst G e h)) ∙ or-true (list_any (do_clash p) (q ∷ ps))

pub steps_from_index : (ps : List Path) → ((i : ℕ) (d : Path) → i + 1 < length ps → stands_before (get_or ps i d) (get_or ps (i + 1) d) ≡ true) → StepsUp ps
steps_from_index [] h = tt
steps_from_index (p ∷ []) h = tt
steps_from_index (p ∷ q ∷ ps) h = (
  h 0 [] (omega arith),
  steps_from_index (q ∷ ps) (λ i d lt.
      let e : suc i + 1 ≡ suc (i + 1) = omega arith in
      let G : ℕ → Type 0 = λ n. stands_before (get_or (q ∷ ps) i d) (get_or (p ∷ q ∷ ps) n d) ≡ true in
      subst G e (h (suc i) d (omega arith))),
)
