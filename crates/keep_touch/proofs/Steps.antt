-- One step of the search after another, in the words of the function that goes through them.
use Rattle.std.proofs.Common.{◌≡◌, ℕ, ◌+◌, ◌-◌, ◌<◌, ◌≤◌, true, List, [], ◌∷◌, ◌++◌, reverse, sym, ap, subst, ◌∙◌, arith}
use Rattle.std.proofs.lemmas.List.{reverse-append}
use Rattle.keep_journal.specs.History.{is_change, last_change, IsNumbered}
use Rattle.keep_journal.specs.Journal.{Journal}
use Rattle.keep_journal.specs.Kept.{is_kept}
use Rattle.keep_touch.specs.Finding.{in_force}
use Rattle.keep_touch.specs.Gathering.{Begins, Finds, NothingPends, Takes}
use Rattle.keep_touch.specs.Taken.{AreTaken}
use Rattle.keep_touch.specs.declared.gathered.Gathered.{Gathered}
use Rattle.keep_touch.proofs.Members.{kept_is_there, kept_within, taken_kept}
use Rattle.keep_touch.proofs.Seeking.{above_bound, bound_of, search_begins, search_ends, search_goes_on, IsSearch}
use Rattle.keep_touch.proofs.Walking.{finds_nothing}

pub begins : (j : Journal) (n : ℕ) (numbers : List ℕ) (found : Gathered) → numbers ≡ [] → Begins n found → IsSearch j n (reverse numbers) found
begins j n numbers found none is = subst (λ xs. IsSearch j n (reverse xs) found) (sym none) (search_begins j n found is)

module _ (j : Journal) (n : ℕ) (numbers : List ℕ) (m : ℕ) (old mid : Gathered) where
  -- what is looked at is in force
  pub first_kept : IsNumbered j → is_change j n ≡ true → is_kept j n ≡ true → IsSearch j n (reverse numbers) old → Takes m old mid → in_force j m ≡ true
  first_kept numbered change kept search takes =
      taken_kept j n (kept_is_there j n numbered change kept) m (search.taken m takes.was)

  module _ (more : List ℕ) (longer : more ≡ numbers ++ m ∷ []) where
    looked_more : reverse more ≡ m ∷ reverse numbers
    looked_more = ap reverse longer ∙ reverse-append numbers (m ∷ [])

    -- what leans on it is found
    pub goes_on : (new : Gathered) → IsNumbered j → is_change j n ≡ true → is_kept j n ≡ true
        → IsSearch j n (reverse numbers) old → Takes m old mid → Finds j m mid new → IsSearch j n (reverse more) new
    goes_on new numbered change kept search takes finds =
        subst (λ xs. IsSearch j n xs new) (sym looked_more)
        (search_goes_on j n (reverse numbers) old mid m search takes new finds (kept_within j m numbered (first_kept numbered change kept search takes)))

    -- nothing leans on the last change
    pub passes_last : IsNumbered j → is_change j n ≡ true → is_kept j n ≡ true → last_change j ≤ m
        → IsSearch j n (reverse numbers) old → Takes m old mid → IsSearch j n (reverse more) mid
    passes_last numbered change kept last search takes = goes_on mid numbered change kept search takes (finds_nothing j m mid numbered last)

    -- it comes nearer to the last change
    pub comes_nearer : IsNumbered j → is_change j n ≡ true → is_kept j n ≡ true → IsSearch j n (reverse numbers) old → Takes m old mid
        → last_change j + 1 - bound_of (reverse more) < last_change j + 1 - bound_of (reverse numbers)
    comes_nearer numbered change kept search takes =
        let within = kept_within j m numbered (first_kept numbered change kept search takes) in
        let above = above_bound m (reverse numbers) (search.above m takes.was) in
        let bound = ap bound_of looked_more in
        omega (arith, within, above, bound)

pub ends : (j : Journal) (n : ℕ) (numbers turned : List ℕ) (found : Gathered) → turned ≡ reverse numbers → IsSearch j n (reverse numbers) found → NothingPends found → AreTaken j n turned
ends j n numbers turned found is search none = subst (AreTaken j n) (sym is) (search_ends j n (reverse numbers) found search none)
