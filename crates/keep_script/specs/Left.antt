-- What a run leaves behind.
use Rattle.std.specs.Prelude.{◌≡◌}
use Rattle.keep_book.specs.Armed.{hooks_of, on_shelf}
use Rattle.keep_book.specs.declared.book.Book.{Book}
use Rattle.keep_answers.specs.State.{State, ledger_in}

-- the book is left as the state has it: its ledger, the moves that are due, its shelf with the record of its calls, and what
-- is armed over it
pub record IsLeft {S I F g J E h : _} (after : State) (book : Book S I F g J E h) : Type 0 where
  pub ledger : on_shelf book ≡ ledger_in after
  pub armed : hooks_of book ≡ after.armed
