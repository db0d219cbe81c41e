-- Which of the numbered changes pass a test.
use Rattle.std.proofs.Common.{◌≡◌, ℕ, ◌+◌, ◌-◌, ◌<◌, ◌≤◌, ◌==◌, nat_lt, nat_le, Bool, true, false, ◌&&◌, cond, List, [], ◌∷◌, ◌++◌, length, Some, inl, inr, refl, sym, ap, ◌∙◌, arith}
use Rattle.std.proofs.lemmas.Bool.{cases_eq, cases_lt, eq-eqb, ne_eqb, le-leb, le-ltb, lt-leb, lt-ltb}
use Rattle.std.proofs.lemmas.Bool.Decides.{nat_tests}
use Rattle.std.proofs.lemmas.List.{append_assoc}
use Rattle.std.proofs.lemmas.List.Elements.{filter-append, filter_agree}
use Rattle.std.proofs.lemmas.Option.{same_Some}
use Rattle.std.specs.List.{filter, find}
use Rattle.std.specs.Option.{option_map}
use Rattle.keep_change.specs.Fold.{Numbered}
use Rattle.keep_change.specs.declared.change.Change.{Change}
use Rattle.keep_change.specs.declared.change.PackMark.{PackMark}
use Rattle.keep_journal.specs.History.{committed, last_change, change_of, CountsFrom, IsNumbered}
use Rattle.keep_journal.specs.Kept.{chosen}
use Rattle.keep_journal.specs.Journal.{Journal, posted}
use Rattle.keep_journal.specs.Event.{committing, undoing, redoing, emptying}
use Rattle.keep_journal.proofs.Commits.{committed-Commit, committed-Empty, committed-Redo, committed-Undo, within_journal}

-- ---- tests

and_false : (a b : Bool) → b ≡ false → (a && b) ≡ false
and_false true b e = e
and_false false b e = refl

and_true : (a b : Bool) → b ≡ true → (a && b) ≡ a
and_true true b e = e
and_true false b e = refl

one_more : (b : Bool) (x : Numbered) (all front back : List Numbered) → all ≡ front ++ back
    → cond b (x ∷ all) all ≡ cond (b && true) (x ∷ front) front ++ cond (b && false) (x ∷ back) back
one_more true x all front back e = ap (λ xs. x ∷ xs) e
one_more false x all front back e = e

kept_one : (b : Bool) (m x : Numbered) → m ≡ x → cond (b && true) (m ∷ []) [] ≡ cond b (x ∷ []) []
kept_one true m x e = ap (λ y. y ∷ []) e
kept_one false m x e = refl

below_test : (b : Bool) (m n : ℕ) → 0 < n → ((b && nat_le m n) && nat_le m (n - 1)) ≡ (b && nat_lt m n)
below_test true m n pos = grind (arith, nat_tests)
below_test false m n pos = refl

at_test : (b : Bool) (m n : ℕ) → 0 < n → ((b && nat_le m n) && nat_lt (n - 1) m) ≡ (b && (m == n))
at_test true m n pos = grind (arith, nat_tests)
at_test false m n pos = refl

-- ---- lists that are numbered from k on

-- two tests that agree on the numbers in use keep the same
counted_agree : (p q : ℕ → Bool) (k : ℕ) (ns : List Numbered) → CountsFrom k ns → ((m : ℕ) → k ≤ m → m < k + length ns → p m ≡ q m)
    → filter (λ c. p c.number) ns ≡ filter (λ c. q c.number) ns
counted_agree p q k [] h agree = refl
counted_agree p q k (n ∷ ns) h agree =
    let first : n.number ≡ k = h.0 in
    let here : p n.number ≡ q n.number = agree n.number (omega arith) (omega arith) in
    let rest = counted_agree p q (k + 1) ns h.1 (λ m low high. agree m (omega arith) (omega arith)) in
    rw (here, rest) refl

counted_none : (p : ℕ → Bool) (k : ℕ) (ns : List Numbered) → CountsFrom k ns → ((m : ℕ) → k ≤ m → p m ≡ false)
    → filter (λ c. p c.number) ns ≡ []
counted_none p k [] h none = refl
counted_none p k (n ∷ ns) h none =
    let first : n.number ≡ k = h.0 in
    let here : p n.number ≡ false = none n.number (omega arith) in
    rw here (counted_none p (k + 1) ns h.1 (λ m low. none m (omega arith)))

-- those up to n come before those above n
counted_split : (p : ℕ → Bool) (n k : ℕ) (ns : List Numbered) → CountsFrom k ns
    → filter (λ c. p c.number) ns ≡ filter (λ c. p c.number && nat_le c.number n) ns ++ filter (λ c. p c.number && nat_lt n c.number) ns
counted_split p n k [] h = refl
counted_split p n k (m ∷ ns) h =
    let first : m.number ≡ k = h.0 in
    elim (cases_lt n k) [
      | inl above ↦
          let none = counted_none (λ j. p j && nat_le j n) k (m ∷ ns) h (λ j low. and_false (p j) (nat_le j n) (lt-leb j n (omega arith))) in
          let all = counted_agree (λ j. p j && nat_lt n j) p k (m ∷ ns) h (λ j low high. and_true (p j) (nat_lt n j) (lt-ltb n j (omega arith))) in
          sym (ap (λ xs. xs ++ filter (λ c. p c.number && nat_lt n c.number) (m ∷ ns)) none ∙ all)
      | inr upto ↦
          let within : nat_le m.number n ≡ true = le-leb m.number n (omega arith) in
          let beyond : nat_lt n m.number ≡ false = le-ltb n m.number (omega arith) in
          let rest = counted_split p n (k + 1) ns h.1 in
          rw (within, beyond) (one_more (p m.number) m _ _ _ rest)
    ]

-- the one with number n, if it passes
counted_only : (p : ℕ → Bool) (n k : ℕ) (ns : List Numbered) (x : Numbered) → CountsFrom k ns → find (λ c. c.number == n) ns ≡ Some x
    → filter (λ c. p c.number && (c.number == n)) ns ≡ cond (p n) (x ∷ []) []
counted_only p n k [] x h found = cc found
counted_only p n k (m ∷ ns) x h found =
    let first : m.number ≡ k = h.0 in
    elim (cases_eq m.number n) [
      | inl same ↦
          let here : (m.number == n) ≡ true = eq-eqb m.number n same in
          let is_x : m ≡ x = same_Some m x (rw here at found) in
          let none = counted_none (λ j. p j && (j == n)) (k + 1) ns h.1 (λ j low. and_false (p j) (j == n) (ne_eqb j n (λ e. omega arith))) in
          rw (here, none) (ap (λ j. cond (p j && true) (m ∷ []) []) same ∙ kept_one (p n) m x is_x)
      | inr other ↦
          let not_here : (m.number == n) ≡ false = ne_eqb m.number n other in
          let rest = counted_only p n (k + 1) ns x h.1 (rw not_here at found) in
          rw (not_here, and_false (p m.number) false refl) rest
    ]

-- ---- the changes of a history

-- after one more event
pub chosen-Commit : (test : ℕ → Bool) (j : Journal) (k n : ℕ) (c : Change)
    → chosen test (posted j k (committing n c)) ≡ chosen test j ++ cond (test n) (record { number = n; change = c } ∷ []) []
chosen-Commit test j k n c =
    ap (filter (λ x. test x.number)) (committed-Commit j k n c)
    ∙ filter-append (λ (x : Numbered). test x.number) (committed j) (record { number = n; change = c } ∷ [])

pub chosen-Undo : (test : ℕ → Bool) (j : Journal) (k n : ℕ) → chosen test (posted j k (undoing n)) ≡ chosen test j
chosen-Undo test j k n = ap (filter (λ x. test x.number)) (committed-Undo j k n)

pub chosen-Redo : (test : ℕ → Bool) (j : Journal) (k n : ℕ) → chosen test (posted j k (redoing n)) ≡ chosen test j
chosen-Redo test j k n = ap (filter (λ x. test x.number)) (committed-Redo j k n)

pub chosen-Empty : (test : ℕ → Bool) (j : Journal) (k n : ℕ) (marks : List PackMark) → chosen test (posted j k (emptying n marks)) ≡ chosen test j
chosen-Empty test j k n marks = ap (filter (λ x. test x.number)) (committed-Empty j k n marks)

-- tests that agree choose the same
pub chosen_agree : (p q : ℕ → Bool) (j : Journal) → ((m : ℕ) → p m ≡ q m) → chosen p j ≡ chosen q j
chosen_agree p q j agree = filter_agree (λ (c : Numbered). p c.number) (λ c. q c.number) (λ c. agree c.number) (committed j)

-- and so do those that agree on the numbers of changes
pub chosen_agree_on : (p q : ℕ → Bool) (j : Journal) → IsNumbered j
    → ((m : ℕ) → j.base < m → m ≤ last_change j → p m ≡ q m) → chosen p j ≡ chosen q j
chosen_agree_on p q j h agree =
    counted_agree p q (j.base + 1) (committed j) h.commits (λ m low high. agree m (omega arith) (omega arith))

-- those up to n, and then those above n
pub chosen_split : (p : ℕ → Bool) (j : Journal) (n : ℕ) → IsNumbered j
    → chosen p j ≡ chosen (λ m. p m && nat_le m n) j ++ chosen (λ m. p m && nat_lt n m) j
chosen_split p j n h = counted_split p n (j.base + 1) (committed j) h.commits

-- a test that no number of a change passes chooses none
pub chosen_none : (p : ℕ → Bool) (j : Journal) → IsNumbered j
    → ((m : ℕ) → j.base < m → m ≤ last_change j → p m ≡ false) → chosen p j ≡ []
chosen_none p j h none =
    chosen_agree_on p (λ m. false) j h none ∙ counted_none (λ m. false) (j.base + 1) (committed j) h.commits (λ m low. refl)

same_parts : (x : Numbered) (n : ℕ) (c : Change) → x.number ≡ n → x.change ≡ c → x ≡ record { number = n; change = c }
same_parts x n c e f = rw (← e, ← f) refl

the_number : (ns : List Numbered) (n : ℕ) (c : Change) → option_map (λ x. x.change) (find (λ x. x.number == n) ns) ≡ Some c
    → find (λ x. x.number == n) ns ≡ Some (record { number = n; change = c })
the_number [] n c h = cc h
the_number (x ∷ xs) n c h =
    elim (cases_eq x.number n) [
      | inl same ↦
          let here : (x.number == n) ≡ true = eq-eqb x.number n same in
          let change : x.change ≡ c = same_Some x.change c (rw here at h) in
          rw here (ap Some (same_parts x n c same change))
      | inr other ↦
          let not_here : (x.number == n) ≡ false = ne_eqb x.number n other in
          rw not_here (the_number xs n c (rw not_here at h))
    ]

-- those below n, change n if it passes, and then those above n
pub chosen_around : (p : ℕ → Bool) (j : Journal) (n : ℕ) (c : Change) → IsNumbered j → change_of j n ≡ Some c
    → chosen p j ≡ chosen (λ m. p m && nat_lt m n) j
    ++ (cond (p n) (record { number = n; change = c } ∷ []) [] ++ chosen (λ m. p m && nat_lt n m) j)
chosen_around p j n c h is_c =
    let there = the_number (committed j) n c is_c in
    let only = counted_only p n (j.base + 1) (committed j) (record { number = n; change = c }) h.commits there in
    let positive : 0 < n = omega (arith, (within_journal j n c h is_c).0) in
    let up = chosen_split p j n h in
    let down = chosen_split (λ m. p m && nat_le m n) j (n - 1) h in
    let front = chosen_agree (λ m. (p m && nat_le m n) && nat_le m (n - 1)) (λ m. p m && nat_lt m n) j (λ m. below_test (p m) m n positive) in
    let middle = chosen_agree (λ m. (p m && nat_le m n) && nat_lt (n - 1) m) (λ m. p m && (m == n)) j (λ m. at_test (p m) m n positive) in
    up
    ∙ ap (λ xs. xs ++ chosen (λ m. p m && nat_lt n m) j) (down ∙ ap (λ xs. xs ++ chosen (λ m. (p m && nat_le m n) && nat_lt (n - 1) m) j) front ∙ ap (λ xs. chosen (λ m. p m && nat_lt m n) j ++ xs) (middle ∙ only))
    ∙ append_assoc (chosen (λ m. p m && nat_lt m n) j) (cond (p n) (record { number = n; change = c } ∷ []) []) (chosen (λ m. p m && nat_lt n m) j)

-- the changes around change n, by another test that agrees with the first one below n and above n
pub chosen_around_as : (p q : ℕ → Bool) (passes : Bool) (j : Journal) (n : ℕ) (c : Change) → IsNumbered j → change_of j n ≡ Some c → p n ≡ passes
    → ((m : ℕ) → (p m && nat_lt m n) ≡ (q m && nat_lt m n)) → ((m : ℕ) → (p m && nat_lt n m) ≡ (q m && nat_lt n m))
    → chosen p j ≡ chosen (λ m. q m && nat_lt m n) j
    ++ (cond passes (record { number = n; change = c } ∷ []) [] ++ chosen (λ m. q m && nat_lt n m) j)
chosen_around_as p q passes j n c h is_c at below above =
    let front = chosen_agree (λ m. p m && nat_lt m n) (λ m. q m && nat_lt m n) j below in
    let back = chosen_agree (λ m. p m && nat_lt n m) (λ m. q m && nat_lt n m) j above in
    chosen_around p j n c h is_c
    ∙ ap (λ xs. xs ++ (cond (p n) (record { number = n; change = c } ∷ []) [] ++ chosen (λ m. p m && nat_lt n m) j)) front
    ∙ ap (λ b. chosen (λ m. q m && nat_lt m n) j ++ (cond b (record { number = n; change = c } ∷ []) [] ++ chosen (λ m. p m && nat_lt n m) j)) at
    ∙ ap (λ xs. chosen (λ m. q m && nat_lt m n) j ++ (cond passes (record { number = n; change = c } ∷ []) [] ++ xs)) back

-- ---- those above a number, one by one

none_between : (b : Bool) (n m next : ℕ) → next ≡ n + 1 → ((b && nat_lt n m) && nat_lt m next) ≡ false
none_between true n m next e = grind (arith, nat_tests)
none_between false n m next e = refl

itself_next : (b : Bool) (n next : ℕ) → next ≡ n + 1 → (b && nat_lt n next) ≡ b
itself_next true n next e = lt-ltb n next (omega arith)
itself_next false n next e = refl

above_next : (b : Bool) (n m next : ℕ) → next ≡ n + 1 → ((b && nat_lt n m) && nat_lt next m) ≡ (b && nat_lt next m)
above_next true n m next e = grind (arith, nat_tests)
above_next false n m next e = refl

-- the next one, if it passes, comes first
pub chosen_next : (p : ℕ → Bool) (j : Journal) (n k : ℕ) (c : Change) → IsNumbered j → k ≡ n + 1 → change_of j k ≡ Some c
    → chosen (λ m. p m && nat_lt n m) j ≡ cond (p k) (record { number = k; change = c } ∷ []) [] ++ chosen (λ m. p m && nat_lt k m) j
chosen_next p j n k c h next is_c =
    let it : List Numbered = record { number = k; change = c } ∷ [] in
    let none = chosen_none (λ m. (p m && nat_lt n m) && nat_lt m k) j h (λ m low high. none_between (p m) n m k next) in
    let back = chosen_agree (λ m. (p m && nat_lt n m) && nat_lt k m) (λ m. p m && nat_lt k m) j (λ m. above_next (p m) n m k next) in
    chosen_around (λ m. p m && nat_lt n m) j k c h is_c
    ∙ ap (λ xs. xs ++ (cond (p k && nat_lt n k) it [] ++ chosen (λ m. (p m && nat_lt n m) && nat_lt k m) j)) none
    ∙ ap (λ b. cond b it [] ++ chosen (λ m. (p m && nat_lt n m) && nat_lt k m) j) (itself_next (p k) n k next)
    ∙ ap (λ xs. cond (p k) it [] ++ xs) back

-- a number up to which all was final when the history began is no change's
pub chosen_below : (p : ℕ → Bool) (j : Journal) (n k : ℕ) → IsNumbered j → k ≡ n + 1 → k ≤ j.base
    → chosen (λ m. p m && nat_lt n m) j ≡ chosen (λ m. p m && nat_lt k m) j
chosen_below p j n k h next below =
    chosen_agree_on (λ m. p m && nat_lt n m) (λ m. p m && nat_lt k m) j h
    (λ m low high. rw (lt-ltb n m (omega arith), lt-ltb k m (omega arith)) refl)

-- none is above the last
pub chosen_past : (p : ℕ → Bool) (j : Journal) (n : ℕ) → IsNumbered j → last_change j ≤ n → chosen (λ m. p m && nat_lt n m) j ≡ []
chosen_past p j n h end =
    chosen_none (λ m. p m && nat_lt n m) j h (λ m low high. and_false (p m) (nat_lt n m) (le-ltb n m (omega arith)))
