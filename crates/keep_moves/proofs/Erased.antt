-- What is left once keys are erased, and when all of them can be.
use Rattle.std.proofs.Common.{◌≡◌, ℕ, Bool, true, false, cond, ◌||◌, List, [], ◌∷◌, ◌++◌, map, Option, None, is_some, refl, ap, ◌∙◌}
use Rattle.std.specs.List.{AllByRecursion, filter, list_all, list_any}
use Rattle.std.proofs.lemmas.List.Folds.{list_any-append}
use Rattle.keep_change.proofs.Records.{and_both, or_first, or_later, or_neither, or_second}
use Rattle.keep_shelf.specs.declared.key.Key.{Key}
use Rattle.keep_moves.specs.Move.{AllApart, AreApart, CanMake, Stand, key_eq, moved, moved_all, remains}
use Rattle.keep_moves.specs.declared.moves.Move.TheVariants.{Erase}
use Rattle.keep_moves.proofs.Keys.{key_eq_refl, key_eq_same}

-- whether the key is among these
abbrev pub is_in : Key → List Key → Bool
is_in q keys = list_any (key_eq q) keys

-- an erased key has nothing, and the others have what they had
pub erased : (keys : List Key) (h : Stand) (q : Key) → moved_all (map Erase keys) h q ≡ cond (is_in q keys) None (h q)
erased [] h q = refl
erased (key ∷ keys) h q = erased keys (moved (Erase key) h) q ∙ twice (key_eq q key) (is_in q keys) (h q)
  where
    twice : (a b : Bool) (o : Option (List ℕ)) → cond b None (cond a None o) ≡ cond (a || b) None o
    twice true true o = refl
    twice true false o = refl
    twice false b o = refl

-- no key stands twice
abbrev pub Distinct : List Key → Type 0
Distinct [] = Unit {0}
Distinct (key ∷ keys) = (is_in key keys ≡ false) × Distinct keys

apart_from : (key : Key) (keys : List Key) → is_in key keys ≡ false → AllByRecursion (AreApart (Erase key)) (map Erase keys)
apart_from key [] e = tt
apart_from key (k ∷ keys) e =
    ((λ q used. ap (λ x. key_eq x k) (key_eq_same q key used) ∙ or_first (key_eq key k) (is_in key keys) e), apart_from key keys (or_second (key_eq key k) (is_in key keys) e))

all_apart : (keys : List Key) → Distinct keys → AllApart (map Erase keys)
all_apart [] d = tt
all_apart (key ∷ keys) d = (apart_from key keys d.0, all_apart keys d.1)

-- something stands under each of the keys
abbrev pub AllFilled : Stand → List Key → Type 0
AllFilled h keys = AllByRecursion (λ key. is_some (h key) ≡ true) keys

all_remain : (h : Stand) (keys : List Key) → AllFilled h keys → list_all (remains h) (map Erase keys) ≡ true
all_remain h [] filled = refl
all_remain h (key ∷ keys) filled = and_both (is_some (h key)) (list_all (remains h) (map Erase keys)) filled.0 (all_remain h keys filled.1)

-- such keys can all be erased
pub can_erase : (h : Stand) (keys : List Key) → Distinct keys → AllFilled h keys → CanMake (map Erase keys) h
can_erase h keys d filled = record { apart = all_apart keys d; remain = all_remain h keys filled }

-- ---- two lists of keys

pub Distinct-append : (xs ys : List Key) → Distinct xs → Distinct ys → ((q : Key) → is_in q xs ≡ true → is_in q ys ≡ false) → Distinct (xs ++ ys)
Distinct-append [] ys d e apart = e
Distinct-append (x ∷ xs) ys d e apart =
    (list_any-append (key_eq x) xs ys ∙ or_neither (is_in x xs) (is_in x ys) d.0 (apart x (first x xs)), Distinct-append xs ys d.1 e (λ q there. apart q (later q x xs there)))
  where
    first : (x : Key) (xs : List Key) → is_in x (x ∷ xs) ≡ true
    first x xs = ap (λ b. b || is_in x xs) (key_eq_refl x)

    later : (q x : Key) (xs : List Key) → is_in q xs ≡ true → is_in q (x ∷ xs) ≡ true
    later q x xs there = or_later (key_eq q x) (is_in q xs) there

pub all_append : {X : Type 0} (P : X → Type 0) (xs ys : List X) → AllByRecursion P xs → AllByRecursion P ys → AllByRecursion P (xs ++ ys)
all_append P [] ys a b = b
all_append P (x ∷ xs) ys a b = (a.0, all_append P xs ys a.1 b)

pub all_weaker : {X : Type 0} (P Q : X → Type 0) → ((x : X) → P x → Q x) → (xs : List X) → AllByRecursion P xs → AllByRecursion Q xs
all_weaker P Q weaker [] all = tt
all_weaker P Q weaker (x ∷ xs) all = (weaker x all.0, all_weaker P Q weaker xs all.1)

-- of those that pass a test
pub all_filtered : {X : Type 0} (P : X → Type 0) (p : X → Bool) (xs : List X) → AllByRecursion P xs → AllByRecursion (λ x. P x × (p x ≡ true)) (filter p xs)
all_filtered P p [] all = tt
all_filtered P p (x ∷ xs) all = by (p x) refl (all_filtered P p xs all.1)
  where
    by : (b : Bool) → p x ≡ b → AllByRecursion (λ x. P x × (p x ≡ true)) (filter p xs) → AllByRecursion (λ x. P x × (p x ≡ true)) (cond b (x ∷ filter p xs) (filter p xs))
    by true e rest = ((all.0, e), rest)
    by false e rest = rest

pub all_mapped : {X Y : Type 0} (P : Y → Type 0) (f : X → Y) (xs : List X) → AllByRecursion (λ x. P (f x)) xs → AllByRecursion P (map f xs)
all_mapped P f [] all = tt
all_mapped P f (x ∷ xs) all = (all.0, all_mapped P f xs all.1)
