-- A change that is taken back with all that leans on it: what is written, and what is left.
use Rattle.std.specs.Prelude.{◌≡◌, ℕ, ◌||◌, List, Option}
use Rattle.keep_book.specs.Cascade.{AreUndone, EachCallSays, EndsAlong, FaultsNext, TakesAlong, with_undos}
use Rattle.keep_ledger.specs.OnShelf.{OnShelf}
use Rattle.keep_ledger.specs.declared.reply.Refusal.{Refusal}
use Rattle.keep_answers.specs.State.{State, is_stopped_by_fault, ledger_in}
use Rattle.keep_answers.specs.Text.{taken_answer}

-- the state once these changes are taken back, and this stopped it, where the ledger is left so on its shelf: each undo is
-- added
abbrev pub without_changes : State → List ℕ → Option Refusal → OnShelf → State
without_changes state numbers stopped ledger = record state {
  book = with_undos state.book numbers;
  due = ledger.due;
  shelf = ledger.shelf;
  faulted = state.faulted || is_stopped_by_fault stopped;
}

-- change n is taken back with all that leans on it, as far as that comes; the numbers and what stopped it are
-- written, and alone decide on what is left; by its rules the book accepts each of the undos. They tell of the calls of
-- the shelf, too, each of which left a shelf that says what is so once some of the changes are taken back
pub record Cascaded (state : State) (n : ℕ) (written : List ℕ) (after : State) : Type 0 where
  pub numbers : List ℕ
  pub stopped : Option Refusal
  pub along : TakesAlong state.book.events n numbers stopped
  pub accepted : AreUndone state.book numbers
  pub text : written ≡ taken_answer numbers stopped
  pub ends : EndsAlong (ledger_in state) n numbers stopped (ledger_in after)
  pub faults : FaultsNext (ledger_in state) numbers stopped (ledger_in after)
  pub stops : EachCallSays (ledger_in state) n (ledger_in after)
  pub left : after ≡ without_changes state numbers stopped (ledger_in after)
