-- The search for what has to be taken back: what was looked at, what is pending, and that this is all.
use Rattle.std.proofs.Common.{◌≡◌, ℕ, ◌+◌, ◌<◌, ◌≤◌, ◌==◌, nat_lt, Bool, true, ◌||◌, not, List, [], ◌∷◌, ◌⊎◌, inl, inr, refl, sym, ap, subst, ◌∙◌, arith}
use Rattle.std.proofs.lemmas.Bool.{and_from, and_parts, cases_eq, eq-eqb, eqb-false, false≢true, lt-ltb, ltb-true, ne_eqb, not-true, or_cases, or_left, or_right}
use Rattle.keep_repo.specs.declared.facet.Facet.{Facet}
use Rattle.keep_journal.specs.History.{last_change}
use Rattle.keep_journal.specs.Journal.{Journal}
use Rattle.keep_touch.specs.Gathering.{is_pending, is_walked, touches_kept, Begins, Covers, Finds, NothingPends, Takes}
use Rattle.keep_touch.specs.Taken.{is_one_of, itself, leaning, AreTaken, FallFrom, IsTaken, LeansOn}
use Rattle.keep_touch.specs.declared.gathered.Gathered.{Gathered}
use Rattle.keep_touch.proofs.Members.{fall_higher, one_cases, one_itself, one_more, taken_is_least}

-- whether the change was looked at, or is pending
abbrev pub is_found : List ℕ → Gathered → ℕ → Bool
is_found done found m = is_one_of done m || is_pending found m

-- what was looked at, the last first, falls and is below what is pending; all of it is taken back; what leans on one that was looked at is found
pub record IsSearch (j : Journal) (n : ℕ) (done : List ℕ) (found : Gathered) : Type 0 where
  pub down : FallFrom (last_change j + 1) done
  pub each : (m : ℕ) → is_one_of done m ≡ true → IsTaken j n m
  pub above : (m : ℕ) → is_pending found m ≡ true → FallFrom m done
  pub taken : (m : ℕ) → is_pending found m ≡ true → IsTaken j n m
  pub first : is_found done found n ≡ true
  pub closed : (k m : ℕ) → is_one_of done k ≡ true → LeansOn j m k → is_found done found m ≡ true
  pub covers : (facet : Facet) (m : ℕ) → is_walked found facet ≡ true → FallFrom m done → touches_kept j facet m ≡ true → is_pending found m ≡ true

pub search_begins : (j : Journal) (n : ℕ) (found : Gathered) → Begins n found → IsSearch j n [] found
search_begins j n found begins = record {
  down = tt;
  each = λ m h. absurd (false≢true h);
  above = λ m h. tt;
  taken = λ m h. subst (IsTaken j n) (only m h) itself;
  first = begins.pending n ∙ eq-eqb n n refl;
  closed = λ k m h leans. absurd (false≢true h);
  covers = λ facet m walked falls t. absurd (false≢true (sym (begins.walked facet) ∙ walked));
}
  where
    only : (m : ℕ) → is_pending found m ≡ true → n ≡ m
    only m h = elim (cases_eq n m) [
      | inl same ↦ same
      | inr other ↦ absurd (false≢true (sym (begins.pending m ∙ ne_eqb n m other) ∙ h))
    ]

-- ---- the least of the pending ones is looked at

module _ (j : Journal) (n : ℕ) (done : List ℕ) (old mid : Gathered) (m : ℕ) (search : IsSearch j n done old) (takes : Takes m old mid) where
  pub first_taken : IsTaken j n m
  first_taken = search.taken m takes.was

  pub first_above : FallFrom m done
  first_above = search.above m takes.was

  -- those that were pending are greater, and still pending, but for itself
  was_pending : (q : ℕ) → is_pending old q ≡ true → (m ≡ q) ⊎ ((m < q) × (is_pending mid q ≡ true))
  was_pending q h = elim (cases_eq m q) [
    | inl same ↦ inl same
    | inr other ↦ inr (omega (arith, takes.least q h), takes.others q ∙ and_from (is_pending old q) (not (m == q)) h (ap not (ne_eqb m q other)))
  ]

  still_pending : (q : ℕ) → is_pending mid q ≡ true → (m < q) × (is_pending old q ≡ true)
  still_pending q h =
      let parts = and_parts (is_pending old q) (not (m == q)) (sym (takes.others q) ∙ h) in
      let other = eqb-false m q (not-true (m == q) parts.1) in
      (omega (arith, takes.least q parts.0, other), parts.0)

  mid_covers : Covers j m mid
  mid_covers facet q walked later =
      let parts = and_parts (nat_lt m q) (touches_kept j facet q) later in
      let above : m < q = ltb-true m q parts.0 in
      let before = search.covers facet q (sym (takes.walked facet) ∙ walked) (fall_higher m q done (omega arith) first_above) parts.1 in
      elim (was_pending q before) [
        | inl same ↦ absurd (omega arith)
        | inr rest ↦ rest.1
      ]

  found_still : (new : Gathered) → Finds j m mid new → (q : ℕ) → is_found done old q ≡ true → is_found (m ∷ done) new q ≡ true
  found_still new finds q h = elim (or_cases (is_one_of done q) (is_pending old q) h) [
    | inl there ↦ or_left (is_one_of (m ∷ done) q) (is_pending new q) (one_more m done q there)
    | inr pending ↦ elim (was_pending q pending) [
      | inl same ↦ or_left (is_one_of (m ∷ done) q) (is_pending new q) (subst (λ x. is_one_of (m ∷ done) x ≡ true) same (one_itself m done))
      | inr rest ↦ or_right (is_one_of (m ∷ done) q) (is_pending new q) (finds.stay q rest.1)
    ]
  ]

  pub search_goes_on : (new : Gathered) → Finds j m mid new → m ≤ last_change j → IsSearch j n (m ∷ done) new
  search_goes_on new finds within = record {
    down = (omega arith, first_above);
    each = λ q h. elim (one_cases m done q h) [
      | inl same ↦ subst (IsTaken j n) same first_taken
      | inr there ↦ search.each q there
    ];
    above = λ q h. elim (finds.only q h) [
      | inl pending ↦ ((still_pending q pending).0, first_above)
      | inr leans ↦ (leans.later, first_above)
    ];
    taken = λ q h. elim (finds.only q h) [
      | inl pending ↦ search.taken q (still_pending q pending).1
      | inr leans ↦ leaning m q first_taken leans
    ];
    first = found_still new finds n search.first;
    closed = λ k q h leans. elim (one_cases m done k h) [
      | inl same ↦ or_right (is_one_of (m ∷ done) q) (is_pending new q) (finds.leaning mid_covers q (subst (λ x. LeansOn j q x) (sym same) leans))
      | inr there ↦ found_still new finds q (search.closed k q there leans)
    ];
    covers = λ facet q walked falls t.
        finds.covers mid_covers facet q walked (and_from (nat_lt m q) (touches_kept j facet q) (lt-ltb m q falls.0) t);
  }

-- ---- the end: nothing is pending

pub search_ends : (j : Journal) (n : ℕ) (done : List ℕ) (found : Gathered) → IsSearch j n done found → NothingPends found → AreTaken j n done
search_ends j n done found search none = record {
  down = search.down;
  each = search.each;
  all = taken_is_least j n (is_one_of done) (looked_at n search.first) (λ k m h leans. looked_at m (search.closed k m h leans));
}
  where
    looked_at : (m : ℕ) → is_found done found m ≡ true → is_one_of done m ≡ true
    looked_at m h = elim (or_cases (is_one_of done m) (is_pending found m) h) [
      | inl there ↦ there
      | inr pending ↦ absurd (false≢true (sym (none.none m) ∙ pending))
    ]

-- ---- how far it has come

-- above the greatest of what was looked at
abbrev pub bound_of : List ℕ → ℕ
bound_of [] = 0
bound_of (m ∷ ms) = m + 1

pub above_bound : (m : ℕ) (done : List ℕ) → FallFrom m done → bound_of done ≤ m
above_bound m [] falls = omega arith
above_bound m (x ∷ xs) falls = omega (arith, falls.0)
