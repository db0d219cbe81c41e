-- Kept changes that are gone through in turn.
use Rattle.std.proofs.Common.{◌≡◌, ℕ, ◌+◌, ◌≤◌, Some, None, sym, ap, ◌∙◌}
use Rattle.keep_change.specs.declared.change.Change.{Change}
use Rattle.keep_journal.specs.History.{last_change, IsNumbered}
use Rattle.keep_journal.specs.Journal.{Journal}
use Rattle.keep_journal.specs.Kept.{kept, kept_change, later}
use Rattle.keep_journal.proofs.Kept.{later_none}
use Rattle.keep_journal.proofs.Later.{later_with, later_without}
use Rattle.keep_reading.specs.Checks.{Files}
use Rattle.keep_damage.specs.Asked.{passed, stepped}
use Rattle.keep_damage.specs.declared.half.Half.{Half}

-- the changes after n, gone through from what there is, make what all make of what there was
abbrev pub Passes : Half → Journal → ℕ → Files → Files → Type 0
Passes pass j n was is = passed pass (later j n) is ≡ passed pass (kept j) was

pub passes_without : (pass : Half) (j : Journal) (n k : ℕ) (was is : Files) → IsNumbered j → k ≡ n + 1 → k ≤ last_change j → kept_change j k ≡ None → Passes pass j n was is → Passes pass j k was is
passes_without pass j n k was is numbered next within e so_far = sym (ap (λ ns. passed pass ns is) (later_without j n k numbered next within e)) ∙ so_far

pub passes_with : (pass : Half) (j : Journal) (n k : ℕ) (c : Change) (was is new : Files) → IsNumbered j → k ≡ n + 1 → kept_change j k ≡ Some c
    → new ≡ stepped pass c is → Passes pass j n was is → Passes pass j k was new
passes_with pass j n k c was is new numbered next e made so_far =
    ap (passed pass (later j k)) made ∙ sym (ap (λ ns. passed pass ns is) (later_with j n k c numbered next e)) ∙ so_far

pub passes_end : (pass : Half) (j : Journal) (n : ℕ) (was is : Files) → IsNumbered j → last_change j ≤ n → Passes pass j n was is → is ≡ passed pass (kept j) was
passes_end pass j n was is numbered end so_far = sym (ap (λ ns. passed pass ns is) (later_none j n numbered end)) ∙ so_far
