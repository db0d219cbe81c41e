-- Which of the calls that are to come fail.
use Rattle.std.specs.Prelude.{ℕ, Bool, ◌==◌, nat_le}
use Rattle.keep_shelf.specs.declared.call_failures.Plan.{Plan}
use Rattle.keep_shelf.specs.declared.call_failures.Plan.TheVariants.{Once, Onward}

-- whether the call of this number fails, the next one being number 1
abbrev pub fails_at : Plan → ℕ → Bool
fails_at (Once k) n = n == k
fails_at (Onward k) n = nat_le k n
