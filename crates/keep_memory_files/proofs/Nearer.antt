-- What becomes of the calls, told from one call later.
use Rattle.std.proofs.Common.{◌≡◌, ℕ, ◌+◌, ◌-◌, ◌≤◌, Bool, ap}
use Rattle.std.specs.Prelude.{if◌then◌else◌, ◌==◌, nat_le}
use Rattle.keep_shelf.proofs.Nearer as chosen
use Rattle.keep_memory_files.specs.declared.tree_failures.Fate.{Fate}

pub once_nearer : (n k : ℕ) (chosen_fate other_fate : Fate) → 1 ≤ n → (if n == k - 1 then chosen_fate else other_fate) ≡ (if n + 1 == k then chosen_fate else other_fate)
once_nearer n k chosen_fate other_fate late = ap (λ (b : Bool). if b then chosen_fate else other_fate) (chosen.once_nearer n k late)

pub onward_nearer : (n k : ℕ) (chosen_fate other_fate : Fate) → (if nat_le (k - 1) n then chosen_fate else other_fate) ≡ (if nat_le k (n + 1) then chosen_fate else other_fate)
onward_nearer n k chosen_fate other_fate = ap (λ (b : Bool). if b then chosen_fate else other_fate) (chosen.onward_nearer n k)
