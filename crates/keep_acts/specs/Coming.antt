-- What the book's reply to a request comes to.
use Rattle.std.specs.Prelude.{◌≡◌, ℕ, true, false, Result, Ok, Err}
use Rattle.keep_book.specs.Armed.{Responds, ledger_of}
use Rattle.keep_book.specs.declared.book.Book.{Book}
use Rattle.keep_journal.specs.History.{length_of}
use Rattle.keep_journal.specs.declared.request.Request.{Request}
use Rattle.keep_journal.specs.declared.request.Told.{Told}
use Rattle.keep_ledger.specs.declared.reply.Refusal.{Refusal}
use Rattle.keep_ledger.specs.declared.reply.Refusal.TheVariants.{Unsettled}
use Rattle.keep_acts.specs.declared.made.Made.{Made}

-- an event that is in, settled or not, where the history has this length afterwards; or the refusal
abbrev pub made_by : ℕ → Result Told Refusal → Result Made Refusal
made_by last (Ok told) = Ok (record { number = told.number; event = told.at; is_unsettled = false })
made_by last (Err (Unsettled n)) = Ok (record { number = n; event = last; is_unsettled = true })
made_by last (Err refusal) = Err refusal

-- the book is asked for this and for nothing else, and what came is what its reply comes to
pub record Comes {S I F g J E h : _} (before : Book S I F g J E h) (request : Request) (came : Result Made Refusal)
    (after : Book S I F g J E h) : Type 0 where
  pub reply : Result Told Refusal
  pub responds : Responds before request reply after
  pub is : came ≡ made_by (length_of (ledger_of after).events) reply
