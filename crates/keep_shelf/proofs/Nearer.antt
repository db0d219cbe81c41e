-- The calls that fail, told from one call later.
use Rattle.std.proofs.Common.{◌≡◌, ℕ, ◌+◌, ◌-◌, ◌≤◌, arith}
use Rattle.std.specs.Prelude.{◌==◌, nat_le}
use Rattle.std.proofs.lemmas.Bool.Decides.{nat_tests}

pub once_nearer : (n k : ℕ) → 1 ≤ n → (n == k - 1) ≡ (n + 1 == k)
once_nearer n k late = grind (arith, nat_tests)

pub onward_nearer : (n k : ℕ) → nat_le (k - 1) n ≡ nat_le k (n + 1)
onward_nearer n k = grind (arith, nat_tests)
