-- Whether two paths clash doesn't hang on their order.
use Rattle.std.proofs.Common.{◌≡◌, ℕ, suc, ◌+◌, ◌<◌, ◌≤◌, Bool, true, false, cond, ◌&&◌, ◌||◌, List, [], ◌∷◌, length, IsPermutation, sum_by, count_by, refl, sym, ap, ap₂, ◌∙◌, true≢false, arith}
use Rattle.std.proofs.lemmas.List.Sorted.{length_permutation, sum_by-IsPermutation}
use Rattle.std.proofs.lemmas.List.Sums.{sum_by-cons}
use Rattle.std.proofs.lemmas.Slice.Eq.{bytes_eq-Decides}
use Rattle.std.specs.List.{list_any}
use Rattle.keep_backup.specs.Paths.{Path, any_clash, do_clash, is_front}

or_comm : (a b : Bool) → (a || b) ≡ (b || a)
or_comm true true = refl
or_comm true false = refl
or_comm false true = refl
or_comm false false = refl

own_front : (p : Path) → is_front p p ≡ true
own_front [] = refl
own_front (x ∷ p) = ap₂ (λ a b. a && b) ((bytes_eq-Decides x x).1 refl) (own_front p)

own_clash : (p : Path) → do_clash p p ≡ true
own_clash p = ap (λ b. b || is_front p p) (own_front p)

-- 1 where the two clash, else 0
abbrev weight : Path → Path → ℕ
weight p q = cond (do_clash p q) 1 0

same_weight : (p q : Path) → weight p q ≡ weight q p
same_weight p q = ap (λ b. cond b 1 0) (or_comm (is_front p q) (is_front q p))

-- how many of the first list clash with those of the second, all told
abbrev total : List Path → List Path → ℕ
total zs xs = sum_by (λ p. count_by (do_clash p) zs) xs

total-cons : (x : Path) (zs xs : List Path) → total (x ∷ zs) xs ≡ sum_by (λ p. weight p x) xs + total zs xs
total-cons x zs [] = refl
total-cons x zs (y ∷ xs) =
    let rest : total (x ∷ zs) xs ≡ sum_by (λ p. weight p x) xs + total zs xs = total-cons x zs xs in
    let a : total (x ∷ zs) (y ∷ xs) ≡ count_by (do_clash y) (x ∷ zs) + total (x ∷ zs) xs = sum_by-cons (λ p. count_by (do_clash p) (x ∷ zs)) y xs in
    let b : count_by (do_clash y) (x ∷ zs) ≡ weight y x + count_by (do_clash y) zs = sum_by-cons (λ q. weight y q) x zs in
    let c : sum_by (λ p. weight p x) (y ∷ xs) ≡ weight y x + sum_by (λ p. weight p x) xs = sum_by-cons (λ p. weight p x) y xs in
    let d : total zs (y ∷ xs) ≡ count_by (do_clash y) zs + total zs xs = sum_by-cons (λ p. count_by (do_clash p) zs) y xs in
    regroup (total (x ∷ zs) (y ∷ xs)) (count_by (do_clash y) (x ∷ zs)) (total (x ∷ zs) xs) (weight y x) (count_by (do_clash y) zs) (sum_by (λ p. weight p x) xs) (total zs xs) (sum_by (λ p. weight p x) (y ∷ xs)) (total zs (y ∷ xs)) a b rest c d
  where
    regroup : (t u v w m s n k l : ℕ) → t ≡ u + v → u ≡ w + m → v ≡ s + n → k ≡ w + s → l ≡ m + n → t ≡ k + l
    regroup t u v w m s n k l a b c d e = omega arith

-- with itself each clashes
total_own : (x : Path) (xs : List Path) → total (x ∷ xs) (x ∷ xs) ≡ 1 + count_by (do_clash x) xs + (count_by (do_clash x) xs + total xs xs)
total_own x xs =
    let a : total (x ∷ xs) (x ∷ xs) ≡ count_by (do_clash x) (x ∷ xs) + total (x ∷ xs) xs = sum_by-cons (λ p. count_by (do_clash p) (x ∷ xs)) x xs in
    let b : count_by (do_clash x) (x ∷ xs) ≡ weight x x + count_by (do_clash x) xs = sum_by-cons (λ q. weight x q) x xs in
    let own : weight x x ≡ 1 = ap (λ t. cond t 1 0) (own_clash x) in
    let c : total (x ∷ xs) xs ≡ sum_by (λ p. weight p x) xs + total xs xs = total-cons x xs xs in
    let d : sum_by (λ p. weight p x) xs ≡ count_by (do_clash x) xs = ap (λ f. sum_by f xs) (λ i p. same_weight p x i) in
    regroup (total (x ∷ xs) (x ∷ xs)) (count_by (do_clash x) (x ∷ xs)) (total (x ∷ xs) xs) (weight x x) (count_by (do_clash x) xs) (sum_by (λ p. weight p x) xs) (total xs xs) a b own c d
  where
    regroup : (t u v w m s n : ℕ) → t ≡ u + v → u ≡ w + m → w ≡ 1 → v ≡ s + n → s ≡ m → t ≡ 1 + m + (m + n)
    regroup t u v w m s n a b c d e = omega arith

-- ---- a count, and whether there is one

none_by : (b c : Bool) (n : ℕ) → (b || c) ≡ false → (c ≡ false → n ≡ 0) → cond b 1 0 + n ≡ 0
none_by true c n h rest = absurd (true≢false h)
none_by false c n h rest = let e : n ≡ 0 = rest h in omega arith

some_by : (b c : Bool) (n : ℕ) → (b || c) ≡ true → (c ≡ true → 1 ≤ n) → 1 ≤ cond b 1 0 + n
some_by true c n h rest = omega arith
some_by false c n h rest = let e : 1 ≤ n = rest h in omega arith

none_count : (p : Path → Bool) (xs : List Path) → list_any p xs ≡ false → count_by p xs ≡ 0
none_count p [] h = refl
none_count p (x ∷ xs) h =
    sum_by-cons (λ y. cond (p y) 1 0) x xs ∙ none_by (p x) (list_any p xs) (count_by p xs) h (none_count p xs)

some_count : (p : Path → Bool) (xs : List Path) → list_any p xs ≡ true → 1 ≤ count_by p xs
some_count p [] h = absurd (true≢false (sym h))
some_count p (x ∷ xs) h =
    let e : count_by p (x ∷ xs) ≡ cond (p x) 1 0 + count_by p xs = sum_by-cons (λ y. cond (p y) 1 0) x xs in
    let some : 1 ≤ cond (p x) 1 0 + count_by p xs = some_by (p x) (list_any p xs) (count_by p xs) h (some_count p xs) in
    omega arith

-- ---- clashes by the total

at_least : (xs : List Path) → length xs ≤ total xs xs
at_least [] = omega arith
at_least (x ∷ xs) =
    let e = total_own x xs in
    let rest : length xs ≤ total xs xs = at_least xs in
    raise (total (x ∷ xs) (x ∷ xs)) (count_by (do_clash x) xs) (total xs xs) (length xs) e rest
  where
    raise : (t m n l : ℕ) → t ≡ 1 + m + (m + n) → l ≤ n → suc l ≤ t
    raise t m n l e h = omega arith

more_by : (b c : Bool) (t m n l : ℕ) → (b || c) ≡ true → t ≡ 1 + m + (m + n) → (b ≡ true → 1 ≤ m) → (c ≡ true → l < n) → l ≤ n → suc l < t
more_by true c t m n l h e first rest low = let some : 1 ≤ m = first refl in omega arith
more_by false c t m n l h e first rest low = let some : l < n = rest h in omega arith

clash_more : (xs : List Path) → any_clash xs ≡ true → length xs < total xs xs
clash_more [] h = absurd (true≢false (sym h))
clash_more (x ∷ xs) h =
    more_by (list_any (do_clash x) xs) (any_clash xs) (total (x ∷ xs) (x ∷ xs)) (count_by (do_clash x) xs) (total xs xs) (length xs) h (total_own x xs) (some_count (do_clash x) xs) (clash_more xs) (at_least xs)

same_by : (b c : Bool) (t m n l : ℕ) → (b || c) ≡ false → t ≡ 1 + m + (m + n) → (b ≡ false → m ≡ 0) → (c ≡ false → n ≡ l) → t ≡ suc l
same_by true c t m n l h e first rest = absurd (true≢false h)
same_by false c t m n l h e first rest = let none : m ≡ 0 = first refl in let same : n ≡ l = rest h in omega arith

no_clash_same : (xs : List Path) → any_clash xs ≡ false → total xs xs ≡ length xs
no_clash_same [] h = refl
no_clash_same (x ∷ xs) h =
    same_by (list_any (do_clash x) xs) (any_clash xs) (total (x ∷ xs) (x ∷ xs)) (count_by (do_clash x) xs) (total xs xs) (length xs) h (total_own x xs) (none_count (do_clash x) xs) (no_clash_same xs)

same_total : (xs ys : List Path) → IsPermutation xs ys → total ys ys ≡ total xs xs
same_total xs ys h =
    ap (λ f. sum_by f ys) (λ i p. sum_by-IsPermutation (λ q. weight p q) xs ys h i)
    ∙ sum_by-IsPermutation (λ p. count_by (do_clash p) xs) xs ys h

clash_by : (b c : Bool) (t u l m : ℕ) → u ≡ t → m ≡ l → (b ≡ true → l < t) → (b ≡ false → t ≡ l) → (c ≡ true → m < u) → (c ≡ false → u ≡ m) → b ≡ c
clash_by true true t u l m e f p q r s = refl
clash_by false false t u l m e f p q r s = refl
clash_by true false t u l m e f p q r s = let x : l < t = p refl in let y : u ≡ m = s refl in absurd (omega arith)
clash_by false true t u l m e f p q r s = let x : t ≡ l = q refl in let y : m < u = r refl in absurd (omega arith)

pub clash_permuted : (xs ys : List Path) → IsPermutation xs ys → any_clash xs ≡ any_clash ys
clash_permuted xs ys h =
    clash_by (any_clash xs) (any_clash ys) (total xs xs) (total ys ys) (length xs) (length ys) (same_total xs ys h) (length_permutation xs ys h) (clash_more xs) (no_clash_same xs) (clash_more ys) (no_clash_same ys)
