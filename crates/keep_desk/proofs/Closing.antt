-- What closing a desk tells, put together.
use Rattle.std.proofs.Common.{◌≡◌, ◌∙◌, ℕ, ◌≤◌, List, [], length, ap, subst}
use Rattle.std.specs.List.{All}
use mathlib.Core.List.{IsPrefix}
use Rattle.keep_change.specs.declared.change.Planned.{Planned}
use Rattle.keep_journal.specs.History.{length_of}
use Rattle.keep_journal.specs.declared.event.Event.{Event}
use Rattle.keep_hooks.specs.Guards.{Rule}
use Rattle.keep_ledger.specs.LedgerState.{LedgerState}
use Rattle.keep_pages.specs.Histories.{state_of, IsHistory}
use Rattle.keep_pages.proofs.Histories.{length_at-all}
use Rattle.keep_register.specs.Known.{Known}
use Rattle.keep_register.specs.Allowed.{AreAllowed}
use Rattle.keep_crew.specs.Asking.{count_of}
use Rattle.keep_desk.specs.Closed.{IsClosed}

-- all passes were taken in, and the counts agree with the list
pub closed : (allows : List Event → Planned → Type 0) (rules : List Rule) (opening : LedgerState) (parts : ℕ) (passes : List Known)
    (es : List Event) (now : LedgerState) (taken amount : ℕ) → now ≡ state_of opening es → IsHistory rules opening es
    → AreAllowed allows rules opening [] es → All (λ p. IsPrefix p.seen es) passes
    → amount ≡ count_of passes → taken ≡ length passes → amount ≤ length es → (taken ≡ parts → length es ≡ amount)
    → IsClosed allows rules opening parts passes now
closed allows rules opening parts passes es now taken amount state history allowed begins counted long least whole = record {
  since = es;
  state = state;
  history = history;
  allowed = allowed;
  begins = begins;
  longer = ap (λ (b : LedgerState). length_of b.events) state ∙ length_at-all opening es;
  least = subst (λ n. n ≤ length es) counted least;
  whole = λ all. whole (long ∙ all) ∙ counted;
}
