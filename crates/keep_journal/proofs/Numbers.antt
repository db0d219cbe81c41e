-- The numbers that changes have.
use Rattle.std.proofs.Common.{◌≡◌, ℕ, ◌<◌, ◌≤◌, true, Some, arith}
use Rattle.std.proofs.lemmas.Bool.Decides.{nat_tests}
use Rattle.keep_journal.specs.History.{last_change, change_of, is_change, IsNumbered}
use Rattle.keep_change.specs.declared.change.Change.{Change}
use Rattle.keep_journal.proofs.Commits.{within_journal}
use Rattle.keep_journal.specs.Journal.{Journal}

pub is_change_parts : (j : Journal) (n : ℕ) → is_change j n ≡ true → (0 < n) × (n ≤ last_change j)
is_change_parts j n h = (grind (arith, nat_tests), grind (arith, nat_tests))

pub is_change_from : (j : Journal) (n : ℕ) → 0 < n → n ≤ last_change j → is_change j n ≡ true
is_change_from j n low high = grind (arith, nat_tests)

-- a change that the journal has
pub is_change_found : (j : Journal) (n : ℕ) (c : Change) → IsNumbered j → change_of j n ≡ Some c → is_change j n ≡ true
is_change_found j n c h found =
    let parts = within_journal j n c h found in
    is_change_from j n (omega (arith, parts.0)) parts.1
