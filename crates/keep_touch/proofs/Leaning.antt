-- Where the greater ones of the changes that are taken back are undone, nothing that is left leans on the next.
use Rattle.std.proofs.Common.{◌≡◌, ℕ, ◌+◌, ◌<◌, ◌≤◌, ◌==◌, nat_lt, Bool, true, false, ◌&&◌, not, cond, List, [], ◌∷◌, ◌++◌, Some, None, inl, inr, refl, sym, ap, ◌∙◌, arith}
use Rattle.std.specs.List.{filter, find, AllByRecursion}
use Rattle.std.specs.Option.{option_map}
use Rattle.std.proofs.lemmas.Bool.{and_from, and_parts, eq-eqb, false_from_ne_true, false≢true, ltb-true, ne_eqb, not-true, or_cases, or_right}
use Rattle.std.proofs.lemmas.List.Folds.{list_any-append}
use Rattle.keep_change.specs.Fold.{Numbered, first_leaning}
use Rattle.keep_change.specs.Touch.{leans_on}
use Rattle.keep_change.specs.declared.change.Change.{Change}
use Rattle.keep_journal.specs.History.{change_of, committed, last_change, CountsFrom, IsNumbered}
use Rattle.keep_journal.specs.Journal.{Journal}
use Rattle.keep_journal.specs.Kept.{chosen, is_kept, later}
use Rattle.keep_journal.proofs.Chosen.{chosen_agree}
use Rattle.keep_journal.proofs.Later.{a_kept_change}
use Rattle.keep_touch.proofs.Picking.{all_weaker}
use Rattle.keep_touch.specs.Taken.{is_one_of, itself, leaning, AreTaken, FallFrom, IsTaken, LeansOn}
use Rattle.keep_touch.specs.Undone.{undone_in}
use Rattle.keep_touch.proofs.Members.{fall_below, one_cases, one_itself}
use Rattle.keep_touch.proofs.Undoing.{chosen-undone, is_kept-undone}

-- ---- a falling list, cut at one of its numbers

in_list : (done : List ℕ) (m : ℕ) (rest : List ℕ) → is_one_of (done ++ m ∷ rest) m ≡ true
in_list done m rest = list_any-append (λ k. k == m) done (m ∷ rest) ∙ or_right (is_one_of done m) (is_one_of (m ∷ rest) m) (one_itself m rest)

rest_falls : (k : ℕ) (done : List ℕ) (m : ℕ) (rest : List ℕ) → FallFrom k (done ++ m ∷ rest) → FallFrom m rest
rest_falls k [] m rest falls = falls.1
rest_falls k (d ∷ ds) m rest falls = rest_falls d ds m rest falls.1

-- those before m are above it
done_above : (k : ℕ) (done : List ℕ) (m : ℕ) (rest : List ℕ) → FallFrom k (done ++ m ∷ rest) → (x : ℕ) → is_one_of done x ≡ true → m < x
done_above k [] m rest falls x h = absurd (false≢true h)
done_above k (d ∷ ds) m rest falls x h = elim (one_cases d ds x h) [
  | inl same ↦ omega (arith, fall_below d (ds ++ m ∷ rest) falls.1 m (in_list ds m rest))
  | inr there ↦ done_above d ds m rest falls.1 x there
]

-- and those above it are before it
above_done : (k : ℕ) (done : List ℕ) (m : ℕ) (rest : List ℕ) → FallFrom k (done ++ m ∷ rest) → (x : ℕ) → m < x
    → is_one_of (done ++ m ∷ rest) x ≡ true → is_one_of done x ≡ true
above_done k done m rest falls x above h = elim (or_cases (is_one_of done x) (is_one_of (m ∷ rest) x) (sym (list_any-append (λ k. k == x) done (m ∷ rest)) ∙ h)) [
  | inl there ↦ there
  | inr behind ↦ elim (one_cases m rest x behind) [
    | inl same ↦ absurd (omega arith)
    | inr below ↦ absurd (omega (arith, fall_below m rest (rest_falls k done m rest falls) x below))
  ]
]

-- ---- numbered changes

-- each is found by its number
found_each : (k : ℕ) (ns : List Numbered) → CountsFrom k ns
    → AllByRecursion (λ n. (k ≤ n.number) × (find (λ c. c.number == n.number) ns ≡ Some n)) ns
found_each k [] counts = tt
found_each k (n ∷ ns) counts = (
  (omega (arith, counts.0), rw (eq-eqb n.number n.number refl) refl),
  all_weaker (λ m found. (omega (arith, found.0), rw (ne_eqb n.number m.number (λ same. omega (arith, counts.0, found.0))) found.1)) ns (found_each (k + 1) ns counts.1),
)

pub each_committed : (j : Journal) → IsNumbered j → AllByRecursion (λ n. change_of j n.number ≡ Some n.change) (committed j)
each_committed j numbered =
    all_weaker (λ n found. ap (option_map (λ c. c.change)) found.1) (committed j) (found_each (j.base + 1) (committed j) numbered.commits)

all_chosen : (test : ℕ → Bool) (P : Numbered → Type 0) (ns : List Numbered) → AllByRecursion P ns
    → AllByRecursion (λ n. (test n.number ≡ true) × P n) (filter (λ n. test n.number) ns)
all_chosen test P [] all = tt
all_chosen test P (n ∷ ns) all = one (test n.number) refl (all_chosen test P ns all.1)
  where
    one : (b : Bool) → test n.number ≡ b → AllByRecursion (λ m. (test m.number ≡ true) × P m) (filter (λ m. test m.number) ns)
        → AllByRecursion (λ m. (test m.number ≡ true) × P m) (cond b (n ∷ filter (λ m. test m.number) ns) (filter (λ m. test m.number) ns))
    one true is rest = ((is, all.0), rest)
    one false is rest = rest

find_none : (p : Numbered → Bool) (ns : List Numbered) → AllByRecursion (λ n. p n ≡ false) ns → find p ns ≡ None
find_none p [] none = refl
find_none p (n ∷ ns) none = rw none.0 (find_none p ns none.1)

-- ---- the next of those that are taken back

-- where n is kept, so is each of them
pub taken_is_kept : (j : Journal) (n : ℕ) → is_kept j n ≡ true → (m : ℕ) → IsTaken j n m → is_kept j m ≡ true
taken_is_kept j n first _ itself = first
taken_is_kept j n first _ (leaning k m taken leans) = (a_kept_change j m leans.change leans.is_m).0

module _ (j : Journal) (n : ℕ) (done : List ℕ) (m : ℕ) (rest : List ℕ) where
  pub next_taken : AreTaken j n (done ++ m ∷ rest) → IsTaken j n m
  next_taken are = are.each m (in_list done m rest)

  not_done : AreTaken j n (done ++ m ∷ rest) → is_one_of done m ≡ false
  not_done are = false_from_ne_true (is_one_of done m) (λ h. absurd (omega (arith, done_above (last_change j + 1) done m rest are.down m h)))

  -- it is in force still
  pub still_kept : is_kept j n ≡ true → AreTaken j n (done ++ m ∷ rest) → is_kept (undone_in j done) m ≡ true
  still_kept first are =
      is_kept-undone j done m ∙ and_from (is_kept j m) (not (is_one_of done m)) (taken_is_kept j n first m (next_taken are)) (ap not (not_done are))

  -- the later changes that are left
  abbrev left : ℕ → Bool
  left k = (is_kept j k && not (is_one_of done k)) && nat_lt m k

  module _ (c : Change) (are : AreTaken j n (done ++ m ∷ rest)) (is_c : change_of j m ≡ Some c) where
    -- one that leans on it is undone
    leaning_done : (x : Numbered) → change_of j x.number ≡ Some x.change → is_kept j x.number ≡ true → m < x.number → leans_on x.change c ≡ true
        → is_one_of done x.number ≡ true
    leaning_done x is_x kept_x above leans =
        let it : LeansOn j x.number m = record {
          change = x.change;
          other = c;
          is_m = rw kept_x is_x;
          is_n = is_c;
          later = above;
          touches = leans;
        } in
        above_done (last_change j + 1) done m rest are.down x.number above (are.all x.number (leaning m x.number (next_taken are) it))

    none_leans : (x : Numbered) → (left x.number ≡ true) × (change_of j x.number ≡ Some x.change) → leans_on x.change c ≡ false
    none_leans x is =
        let parts = and_parts (is_kept j x.number && not (is_one_of done x.number)) (nat_lt m x.number) is.0 in
        let two = and_parts (is_kept j x.number) (not (is_one_of done x.number)) parts.0 in
        false_from_ne_true (leans_on x.change c) (λ leans. false≢true
        (sym (not-true (is_one_of done x.number) two.1) ∙ leaning_done x is.1 two.0 (ltb-true m x.number parts.1) leans))

  -- nothing that is left leans on it
  pub unleaned : (c : Change) → IsNumbered j → AreTaken j n (done ++ m ∷ rest) → change_of j m ≡ Some c
      → first_leaning c (later (undone_in j done) m) ≡ None
  unleaned c numbered are is_c =
      ap (first_leaning c) (chosen-undone (λ k. is_kept (undone_in j done) k && nat_lt m k) j done
      ∙ chosen_agree (λ k. is_kept (undone_in j done) k && nat_lt m k) left j (λ k. ap (λ b. b && nat_lt m k) (is_kept-undone j done k)))
      ∙ ap (option_map (λ x. x.number)) (find_none (λ x. leans_on x.change c) (chosen left j)
      (all_weaker (none_leans c are is_c) (chosen left j) (all_chosen left (λ x. change_of j x.number ≡ Some x.change) (committed j) (each_committed j numbered))))
