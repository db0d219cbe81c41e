-- That the answers to lines lose nothing: to jobs, revisions and cascades. What is read, noted, compared or armed
-- leaves the book as it is; a file that is added or dropped by hand is no job.
use Rattle.std.specs.Prelude.{List, ◌∷◌, ℕ, IfOk}
use Rattle.keep_repo.specs.Repository.{Repository}
use Rattle.keep_sound.specs.Met.{AddsPart}
use Rattle.keep_ledger.specs.LedgerState.{LedgerState}
use Rattle.keep_lines.specs.Revision.{request_of}
use Rattle.keep_lines.specs.declared.revision.Revision.{Revision}
use Rattle.keep_replies.specs.Reply.{told_text}
use Rattle.keep_jobs.specs.Job.{JobData, job_change}
use Rattle.keep_answers.specs.Answer.{Asked, JobAnswered, shown_by}
use Rattle.keep_answers.specs.Cascading.{Cascaded}
use Rattle.keep_answers.specs.State.{State}
use Rattle.keep_planned_books.specs.History.{BeginsWhole, IsPlannedHistory}
use Rattle.keep_planned_books.specs.Jobs.{IsText, Meets}
use Rattle.keep_planned_books.specs.Losing.{LosesNothing}

-- what the job says is text, and what it builds and adds is among all that is met
pub record MeetsJob (all : Repository) (state : State) (job : JobData) : Type 0 where
  pub text : IsText job
  pub built : Meets all (shown_by state.book) state.settings job
  pub added : IfOk (job_change (shown_by state.book) state.settings job) (AddsPart all)

-- a planned history has come to this state, and it has lost nothing
abbrev pub GoesOn : Repository → Repository → State → Type 0
GoesOn all opening state =
    ((earlier : List LedgerState) × IsPlannedHistory all opening (state.book ∷ earlier)) × LosesNothing state.book.live

-- what the answer to a line leaves that asks for a job, be it committed, refused or without memory
abbrev pub JobsLoseNothing : Type 0
JobsLoseNothing =
    (all opening : Repository) (state after : State) (job : JobData) (text : List ℕ)
    → BeginsWhole all opening → GoesOn all opening state
    → MeetsJob all state job → JobAnswered state job text after → GoesOn all opening after

-- to one that asks for an undo, a redo or an emptying
abbrev pub RevisionsLoseNothing : Type 0
RevisionsLoseNothing =
    (all opening : Repository) (state after : State) (revision : Revision) (text : List ℕ)
    → BeginsWhole all opening → GoesOn all opening state
    → Asked state (request_of revision) told_text text after → GoesOn all opening after

-- and to one that takes a change back with all that leans on it
abbrev pub TakenLoseNothing : Type 0
TakenLoseNothing =
    (all opening : Repository) (state after : State) (n : ℕ) (text : List ℕ)
    → BeginsWhole all opening → GoesOn all opening state → Cascaded state n text after → GoesOn all opening after
