-- The leaves under keys that are walked over in turn are those of the content.
use Rattle.std.proofs.Common.{◌≡◌, ℕ, zero, suc, ◌+◌, ◌<◌, ◌≤◌, Bool, true, false, cond, ◌&&◌, ◌||◌, T, inl, inr, List, [], ◌∷◌, ◌++◌, drop, get_or, length, map, Option, Some, None, Ordering, Less, Equal, Greater, refl, sym, ap, ◌∙◌, subst, add-one, append-nil, append_assoc, arith}
use Rattle.std.specs.FinMap as finite
use Rattle.std.specs.FinMap.Entries.{below_all}
use Rattle.std.specs.List.{AllByRecursion, list_any}
use Rattle.std.specs.List.Sorted.{IsStrictlySortedBy}
use Rattle.std.specs.Ordering.{is_lt, nat_cmp}
use Rattle.std.proofs.Math.Seq.{drop-cons}
use Rattle.std.proofs.lemmas.Bool.{cases_eq, eq-eqb, ne_eqb}
use Rattle.keep_shelf.specs.Key.{key_cmp}
use Rattle.keep_shelf.specs.Shelved.{Content}
use Rattle.keep_shelf.specs.declared.key.Key.{Key}
use Rattle.keep_shelf.specs.declared.key.Key.TheVariants.{Live, Trash, Entry}
use Rattle.keep_moves.specs.Move.{Stand, key_eq}
use Rattle.keep_moves.proofs.Entries.{entry_other, entry_same}
use Rattle.keep_opening.proofs.Whole.{found_there}
use Rattle.keep_opening.specs.Leafing.{AreAlong, AreLeavesOf, AreUnder}
use Rattle.keep_reading.specs.Leaves.{AreLeaves, IsLeaf, Tells, leaf_at}
use Rattle.keep_reading.specs.declared.leaf.Leaf.{Leaf}

-- ---- one more key

pub along_next : (stand : Stand) (keys : List Key) (i : ℕ) (key d : Key) (leaves more : List Leaf) → i < length keys → key ≡ get_or keys i d
    → ((rest : List Leaf) → AreAlong stand (drop i keys) rest → AreAlong stand keys (leaves ++ rest)) → AreUnder stand key more
    → (rest : List Leaf) → AreAlong stand (drop (i + 1) keys) rest → AreAlong stand keys ((leaves ++ more) ++ rest)
along_next stand keys i key d leaves more within is so_far under rest h =
    let here : drop i keys ≡ key ∷ drop (i + 1) keys = rw (drop-cons keys i d) (rw (← add-one i) (ap (λ k. k ∷ drop (i + 1) keys) (sym is))) in
    rw (append_assoc leaves more rest) (so_far (more ++ rest) (subst (λ (ks : List Key). AreAlong stand ks (more ++ rest)) (sym here) (more, rest, refl, under, h)))

-- ---- leaves ascend

all_append : {X : Type 0} (P : X → Type 0) (xs ys : List X) → AllByRecursion P xs → AllByRecursion P ys → AllByRecursion P (xs ++ ys)
all_append P [] ys px py = py
all_append P (x ∷ xs) ys px py = (px.0, all_append P xs ys px.1 py)

of_key : (stand : Stand) (k : Key) (key : Key) (leaves : List Leaf) → key_cmp k key ≡ Less → AreUnder stand key leaves → AllByRecursion (λ leaf. key_cmp k (Entry leaf.at) ≡ Less) leaves
of_key stand k (Live name) leaves less under = subst (AllByRecursion (λ leaf. key_cmp k (Entry leaf.at) ≡ Less)) (sym under) tt
of_key stand k (Trash n name) leaves less under = subst (AllByRecursion (λ leaf. key_cmp k (Entry leaf.at) ≡ Less)) (sym under) tt
of_key stand k (Entry m) leaves less under = by (stand (Entry m)) under
  where
    by : (o : Option (List ℕ)) → AreLeavesOf m o leaves → AllByRecursion (λ leaf. key_cmp k (Entry leaf.at) ≡ Less) leaves
    by None are = subst (AllByRecursion (λ leaf. key_cmp k (Entry leaf.at) ≡ Less)) (sym are) tt
    by (Some bytes) are =
        let here : key_cmp k (Entry are.0.at) ≡ Less = subst (λ (i : ℕ). key_cmp k (Entry i) ≡ Less) (sym are.2) less in
        subst (AllByRecursion (λ leaf. key_cmp k (Entry leaf.at) ≡ Less)) (sym are.1) (here, tt)

above : (stand : Stand) (k : Key) (keys : List Key) (leaves : List Leaf) → AllByRecursion (λ y. key_cmp k y ≡ Less) keys → AreAlong stand keys leaves
    → AllByRecursion (λ leaf. key_cmp k (Entry leaf.at) ≡ Less) leaves
above stand k [] leaves all are = subst (AllByRecursion (λ leaf. key_cmp k (Entry leaf.at) ≡ Less)) (sym are) tt
above stand k (key ∷ keys) leaves all are =
    subst (AllByRecursion (λ leaf. key_cmp k (Entry leaf.at) ≡ Less)) (sym are.2)
    (all_append (λ leaf. key_cmp k (Entry leaf.at) ≡ Less) are.0 are.1 (of_key stand k key are.0 all.0 are.3) (above stand k keys are.1 all.1 are.4))

-- numbers of leaves
abbrev numbers : List Leaf → List ℕ
numbers leaves = map (λ leaf. leaf.at) leaves

numbers_above : (k : ℕ) (leaves : List Leaf) → AllByRecursion (λ leaf. nat_cmp k leaf.at ≡ Less) leaves → AllByRecursion (λ n. nat_cmp k n ≡ Less) (numbers leaves)
numbers_above k [] all = tt
numbers_above k (leaf ∷ leaves) all = (all.0, numbers_above k leaves all.1)

sorted_nil : IsStrictlySortedBy nat_cmp []
unfolding IsStrictlySortedBy
sorted_nil = tt

sorted_cons : (n : ℕ) (ns : List ℕ) → AllByRecursion (λ y. nat_cmp n y ≡ Less) ns → IsStrictlySortedBy nat_cmp ns → IsStrictlySortedBy nat_cmp (n ∷ ns)
unfolding IsStrictlySortedBy
sorted_cons n ns all sorted = (all, sorted)

-- each key is above those before it
abbrev pub KeysRise : List Key → Type 0
KeysRise [] = Unit {0}
KeysRise (key ∷ keys) = AllByRecursion (λ y. key_cmp key y ≡ Less) keys × KeysRise keys

ascend : (stand : Stand) (keys : List Key) (leaves : List Leaf) → KeysRise keys → AreAlong stand keys leaves → IsStrictlySortedBy nat_cmp (numbers leaves)
ascend stand [] leaves rise are = subst (λ (ls : List Leaf). IsStrictlySortedBy nat_cmp (numbers ls)) (sym are) sorted_nil
ascend stand (key ∷ keys) leaves rise are =
    subst (λ (ls : List Leaf). IsStrictlySortedBy nat_cmp (numbers ls)) (sym are.2) (by key are.3 (above stand key keys are.1 rise.0 are.4) (ascend stand keys are.1 rise.1 are.4))
  where
    first : List Leaf
    first = are.0

    rest : List Leaf
    rest = are.1

    one : (m : ℕ) (o : Option (List ℕ)) → AreLeavesOf m o first → AllByRecursion (λ leaf. nat_cmp m leaf.at ≡ Less) rest → IsStrictlySortedBy nat_cmp (numbers rest) → IsStrictlySortedBy nat_cmp (numbers (first ++ rest))
    one m None under all sorted = subst (λ (ls : List Leaf). IsStrictlySortedBy nat_cmp (numbers (ls ++ rest))) (sym under) sorted
    one m (Some bytes) under all sorted =
        subst (λ (ls : List Leaf). IsStrictlySortedBy nat_cmp (numbers (ls ++ rest))) (sym under.1)
        (sorted_cons under.0.at (numbers rest) (subst (λ (n : ℕ). AllByRecursion (λ y. nat_cmp n y ≡ Less) (numbers rest)) (sym under.2) (numbers_above m rest all)) sorted)

    by : (k : Key) → AreUnder stand k first → AllByRecursion (λ leaf. key_cmp k (Entry leaf.at) ≡ Less) rest → IsStrictlySortedBy nat_cmp (numbers rest) → IsStrictlySortedBy nat_cmp (numbers (first ++ rest))
    by (Live name) under all sorted = subst (λ (ls : List Leaf). IsStrictlySortedBy nat_cmp (numbers (ls ++ rest))) (sym under) sorted
    by (Trash n name) under all sorted = subst (λ (ls : List Leaf). IsStrictlySortedBy nat_cmp (numbers (ls ++ rest))) (sym under) sorted
    by (Entry m) under all sorted = one m (stand (Entry m)) under all sorted

-- ---- what is under a number

abbrev seen : Stand → List Key → ℕ → Option (List ℕ)
seen stand keys k = cond (list_any (key_eq (Entry k)) keys) (stand (Entry k)) None

each_along : (stand : Stand) (k : ℕ) (keys : List Key) (leaves : List Leaf) → AreAlong stand keys leaves → IsLeaf (seen stand keys k) (leaf_at leaves k)
each_along stand k [] leaves are = subst (λ (ls : List Leaf). IsLeaf None (leaf_at ls k)) (sym are) tt
each_along stand k (key ∷ keys) leaves are =
    subst (λ (ls : List Leaf). IsLeaf (seen stand (key ∷ keys) k) (leaf_at ls k)) (sym are.2) (by key are.3 (each_along stand k keys are.1 are.4))
  where
    first : List Leaf
    first = are.0

    rest : List Leaf
    rest = are.1

    -- where nothing is under the key, or another one's leaf is, the others say it
    skipped : (b : Bool) (o : Option (List ℕ)) → o ≡ None → IsLeaf (cond b o None) (leaf_at rest k) → IsLeaf (cond true o None) (leaf_at rest k)
    skipped true o none is = is
    skipped false o none is = subst (λ (p : Option (List ℕ)). IsLeaf p (leaf_at rest k)) (sym none) is

    here : (o : Option (List ℕ)) → o ≡ stand (Entry k) → AreLeavesOf k o first → IsLeaf (seen stand keys k) (leaf_at rest k) → IsLeaf (stand (Entry k)) (leaf_at (first ++ rest) k)
    here None there under is =
        subst (λ (ls : List Leaf). IsLeaf (stand (Entry k)) (leaf_at (ls ++ rest) k)) (sym under) (skipped (list_any (key_eq (Entry k)) keys) (stand (Entry k)) (sym there) is)
    here (Some bytes) there under is =
        let found : leaf_at (under.0 ∷ rest) k ≡ Some under.0 = ap (λ b. cond b (Some under.0) (leaf_at rest k)) (eq-eqb under.0.at k under.2) in
        let told : Tells under.0.at bytes under.0.event = subst (λ (n : ℕ). Tells n bytes under.0.event) (sym under.2) under.3 in
        subst (λ (ls : List Leaf). IsLeaf (stand (Entry k)) (leaf_at (ls ++ rest) k)) (sym under.1)
        (subst (λ (o : Option Leaf). IsLeaf (stand (Entry k)) o) (sym found) (subst (λ (p : Option (List ℕ)). IsLeaf p (Some under.0)) there told))

    other : (m : ℕ) (o : Option (List ℕ)) → (m ≡ k → ⊥) → AreLeavesOf m o first → IsLeaf (seen stand keys k) (leaf_at rest k) → IsLeaf (seen stand keys k) (leaf_at (first ++ rest) k)
    other m None apart under is = subst (λ (ls : List Leaf). IsLeaf (seen stand keys k) (leaf_at (ls ++ rest) k)) (sym under) is
    other m (Some bytes) apart under is =
        let past : leaf_at (under.0 ∷ rest) k ≡ leaf_at rest k = ap (λ b. cond b (Some under.0) (leaf_at rest k)) (ne_eqb under.0.at k (λ same. apart (sym under.2 ∙ same))) in
        subst (λ (ls : List Leaf). IsLeaf (seen stand keys k) (leaf_at (ls ++ rest) k)) (sym under.1)
        (subst (λ (o : Option Leaf). IsLeaf (seen stand keys k) o) (sym past) is)

    by : (x : Key) → AreUnder stand x first → IsLeaf (seen stand keys k) (leaf_at rest k) → IsLeaf (seen stand (x ∷ keys) k) (leaf_at (first ++ rest) k)
    by (Live name) under is = subst (λ (ls : List Leaf). IsLeaf (seen stand keys k) (leaf_at (ls ++ rest) k)) (sym under) is
    by (Trash n name) under is = subst (λ (ls : List Leaf). IsLeaf (seen stand keys k) (leaf_at (ls ++ rest) k)) (sym under) is
    by (Entry m) under is = elim (cases_eq m k) [
      | inl same ↦
          let number : AreLeavesOf k (stand (Entry k)) first = subst (λ (n : ℕ). AreLeavesOf n (stand (Entry n)) first) same under in
          subst (λ (b : Bool). IsLeaf (cond (b || list_any (key_eq (Entry k)) keys) (stand (Entry k)) None) (leaf_at (first ++ rest) k))
          (sym (entry_same k m (sym same))) (here (stand (Entry k)) refl number is)
      | inr apart ↦
          subst (λ (b : Bool). IsLeaf (cond (b || list_any (key_eq (Entry k)) keys) (stand (Entry k)) None) (leaf_at (first ++ rest) k))
          (sym (entry_other k m (λ same. apart (sym same)))) (other m (stand (Entry m)) apart under is)
    ]

-- ---- all keys of a content

both : (a b : Bool) → T (a && b) → T a × T b
both true b h = (tt, h)
both false b h = absurd h

less : (o : Ordering) → T (is_lt o) → o ≡ Less
less Less h = refl
less Equal h = absurd h
less Greater h = absurd h

keys_above : (key : Key) (es : List (Key × List ℕ)) → T (below_all key_cmp key es) → AllByRecursion (λ y. key_cmp key y ≡ Less) (map (λ e. e.0) es)
keys_above key [] h = tt
keys_above key (e ∷ es) h =
    let parts = both (is_lt (key_cmp key e.0)) (below_all key_cmp key es) h in
    (less (key_cmp key e.0) parts.0, keys_above key es parts.1)

pub keys_rise : (es : List (Key × List ℕ)) → T (finite.is_sorted key_cmp es) → KeysRise (map (λ e. e.0) es)
keys_rise [] h = tt
keys_rise (e ∷ es) h =
    let parts = both (below_all key_cmp e.0 es) (finite.is_sorted key_cmp es) h in
    (keys_above e.0 es parts.0, keys_rise es parts.1)

pub are_leaves : (content : Content) (leaves : List Leaf) → AreAlong (finite.get content) (finite.keys content) leaves → AreLeaves (finite.get content) leaves
are_leaves content leaves are = record {
  ascend = ascend (finite.get content) (finite.keys content) leaves (keys_rise (finite.entries content) (finite.entries_sorted content)) are;
  each = λ k. subst (λ (o : Option (List ℕ)). IsLeaf o (leaf_at leaves k)) (found_there content (Entry k)) (each_along (finite.get content) k (finite.keys content) leaves are);
}

-- ---- all keys were walked over

pub drop_end : {X : Type 0} (i : ℕ) (xs : List X) → length xs ≤ i → drop i xs ≡ []
drop_end {X} i [] end = by i
  where
    by : (k : ℕ) → drop {A = X} k [] ≡ []
    by zero = refl
    by (suc k) = refl
drop_end zero (x ∷ xs) end = absurd (omega arith)
drop_end (suc i) (x ∷ xs) end = drop_end i xs (omega arith)

pub along_end : (stand : Stand) (keys : List Key) (i : ℕ) (leaves : List Leaf) → length keys ≤ i
    → ((rest : List Leaf) → AreAlong stand (drop i keys) rest → AreAlong stand keys (leaves ++ rest)) → AreAlong stand keys leaves
along_end stand keys i leaves end so_far =
    subst (AreAlong stand keys) (append-nil leaves) (so_far [] (subst (λ (ks : List Key). AreAlong stand ks []) (sym (drop_end i keys end)) refl))
