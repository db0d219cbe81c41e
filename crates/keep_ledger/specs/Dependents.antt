-- What the later changes say of a change that is taken back, or made again.
use Rattle.std.specs.Prelude.{◌≡◌, ℕ, if◌then◌else◌, Option, Some, None, Result, Ok, Err}
use Rattle.std.specs.Option.{option_and_then}
use Rattle.keep_repo.specs.Repository.{Repository, held}
use Rattle.keep_change.specs.Change.{is_met}
use Rattle.keep_change.specs.Fold.{first_leaning}
use Rattle.keep_change.specs.Holdings.{value_at}
use Rattle.keep_change.specs.declared.change.Change.{Change}
use Rattle.keep_journal.specs.History.{change_of}
use Rattle.keep_journal.specs.Kept.{later}
use Rattle.keep_journal.specs.Journal.{Journal}
use Rattle.keep_ledger.specs.declared.reply.Refusal.{Refusal}

-- the first later change that touches what change n writes
abbrev pub leaned_on : Journal → ℕ → Option ℕ
leaned_on j n = option_and_then (λ c. first_leaning c (later j n)) (change_of j n)

-- n where this change isn't met at n's place, which the later changes and the live repository tell; else the first later change that touches what it writes
abbrev pub blocked_at : Journal → Repository → ℕ → Change → Option ℕ
blocked_at j live n c =
    if is_met (value_at (later j n) (held live)) c then first_leaning c (later j n) else Some n

-- the number of what blocks change n at its place, if there is such a change
abbrev pub blocked_by : Journal → Repository → ℕ → Option ℕ
blocked_by j live n = option_and_then (blocked_at j live n) (change_of j n)

-- the refusal where there is one, and else no objection
abbrev pub Passes : Option Refusal → Result (Unit {0}) Refusal → Type 0
Passes (Some refusal) answer = answer ≡ Err refusal
Passes None answer = answer ≡ Ok tt
