-- Which of the calls that are to come fail, and how.
use Rattle.std.specs.Prelude.{if◌then◌else◌, ℕ, ◌==◌, nat_le}
use Rattle.keep_memory_files.specs.declared.tree_failures.Fate.{Fate}
use Rattle.keep_memory_files.specs.declared.tree_failures.Fate.TheVariants.{Passed, Refused, Denied}
use Rattle.keep_memory_files.specs.declared.tree_failures.Plan.{Plan}
use Rattle.keep_memory_files.specs.declared.tree_failures.Plan.TheVariants.{Once, Onward, OnceDone}

-- what becomes of the call of this number, the next one being number 1
abbrev pub fate_at : Plan → ℕ → Fate
fate_at (Once k) n = if n == k then Refused else Passed
fate_at (Onward k) n = if nat_le k n then Refused else Passed
fate_at (OnceDone k) n = if n == k then Denied else Passed
