-- Kept changes that are made in turn.
use Rattle.std.proofs.Common.{◌≡◌, ℕ, ◌+◌, ◌≤◌, true, false, cond, Some, None, sym, ap, ◌∙◌}
use Rattle.keep_repo.specs.Repository.{Repository, held}
use Rattle.keep_change.specs.Change.{is_met}
use Rattle.keep_change.specs.Fold.{first_break, fold_of}
use Rattle.keep_change.specs.Result.{result_of}
use Rattle.keep_change.specs.declared.change.Change.{Change}
use Rattle.keep_journal.specs.History.{last_change, IsNumbered}
use Rattle.keep_journal.specs.Journal.{Journal}
use Rattle.keep_journal.specs.Kept.{kept, kept_change, later}
use Rattle.keep_journal.proofs.Kept.{later_none}
use Rattle.keep_journal.proofs.Later.{later_with, later_without}

-- the changes after n, made of what there is, are the kept ones, made of what there was
pub record Remakes (j : Journal) (n : ℕ) (was is : Repository) : Type 0 where
  pub break : first_break (later j n) is ≡ first_break (kept j) was
  pub fold : fold_of (later j n) is ≡ fold_of (kept j) was

pub remade_without : (j : Journal) (n k : ℕ) (was is : Repository) → IsNumbered j → k ≡ n + 1 → k ≤ last_change j → kept_change j k ≡ None → Remakes j n was is → Remakes j k was is
remade_without j n k was is numbered next within e so_far =
    let same = later_without j n k numbered next within e in
    record {
      break = sym (ap (λ ns. first_break ns is) same) ∙ so_far.break;
      fold = sym (ap (λ ns. fold_of ns is) same) ∙ so_far.fold;
    }

pub remade_with : (j : Journal) (n k : ℕ) (c : Change) (was is new : Repository) → IsNumbered j → k ≡ n + 1 → kept_change j k ≡ Some c
    → is_met (held is) c ≡ true → new ≡ result_of c is → Remakes j n was is → Remakes j k was new
remade_with j n k c was is new numbered next e met made so_far =
    let same = later_with j n k c numbered next e in
    record {
      break = ap (first_break (later j k)) made
          ∙ sym (ap (λ ns. first_break ns is) same ∙ ap (λ b. cond b (first_break (later j k) (result_of c is)) (Some k)) met) ∙ so_far.break;
      fold = ap (fold_of (later j k)) made ∙ sym (ap (λ ns. fold_of ns is) same) ∙ so_far.fold;
    }

-- one that isn't met breaks them
pub remade_broken : (j : Journal) (n k : ℕ) (c : Change) (was is : Repository) → IsNumbered j → k ≡ n + 1 → kept_change j k ≡ Some c
    → is_met (held is) c ≡ false → Remakes j n was is → first_break (kept j) was ≡ None → ⊥
remade_broken j n k c was is numbered next e unmet so_far whole =
    let broken : first_break (later j n) is ≡ Some k =
    ap (λ ns. first_break ns is) (later_with j n k c numbered next e) ∙ ap (λ b. cond b (first_break (later j k) (result_of c is)) (Some k)) unmet in
    cc (broken, so_far.break, whole)

-- and past the last one all are made
pub remade_whole : (j : Journal) (n : ℕ) (was is : Repository) → IsNumbered j → last_change j ≤ n → Remakes j n was is → first_break (kept j) was ≡ None
remade_whole j n was is numbered end so_far = sym so_far.break ∙ ap (λ ns. first_break ns is) (later_none j n numbered end)

pub remade_all : (j : Journal) (n : ℕ) (was is : Repository) → IsNumbered j → last_change j ≤ n → Remakes j n was is → is ≡ fold_of (kept j) was
remade_all j n was is numbered end so_far = sym (ap (λ ns. fold_of ns is) (later_none j n numbered end)) ∙ so_far.fold
