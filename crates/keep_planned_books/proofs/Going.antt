-- The answer to a line goes on with a planned history.
use Rattle.std.proofs.Common.{◌≡◌, inl, inr, ℕ, List, ◌∷◌, IfOk, Result, Ok, Err, refl, sym, subst}
use Rattle.keep_repo.specs.Repository.{Repository}
use Rattle.keep_change.specs.declared.change.Change.{Change}
use Rattle.keep_plan.specs.declared.plan_error.PlanError.{PlanError}
use Rattle.keep_sound.specs.Met.{AddsPart}
use Rattle.keep_ledger.specs.LedgerState.{LedgerState}
use Rattle.keep_journal.specs.declared.request.Told.{Told}
use Rattle.keep_journal.specs.declared.request.Request.{Request}
use Rattle.keep_lines.specs.Revision.{request_of}
use Rattle.keep_lines.specs.declared.revision.Revision.{Revision}
use Rattle.keep_lines.specs.declared.revision.Revision.TheVariants.{Undo, Redo, Empty}
use Rattle.keep_jobs.specs.Job.{JobData, job_change}
use Rattle.keep_answers.specs.Answer.{Asked, CommittedOrRefused, JobAnswered, commit_of, shown_by}
use Rattle.keep_answers.specs.State.{State}
use Rattle.keep_planned_books.proofs.Heard.{by_reply}
use Rattle.keep_planned_books.specs.History.{BeginsWhole, IsPlanned, IsPlannedHistory, accepted}
use Rattle.keep_planned_books.specs.Losing.{BooksLoseNothing, CascadesLoseNothing}
use Rattle.keep_planned_books.specs.Lines.{GoesOn, JobsLoseNothing, MeetsJob, RevisionsLoseNothing, TakenLoseNothing}

-- the planned history goes on with this book
abbrev Goes : Repository → Repository → LedgerState → Type 0
Goes all opening book = (between : List LedgerState) × IsPlannedHistory all opening (book ∷ between)

module _ (all opening : Repository) (state after : State) (earlier : List LedgerState) (history : IsPlannedHistory all opening (state.book ∷ earlier)) where
  stays : after ≡ state → Goes all opening after.book
  stays same = subst (λ (s : State). Goes all opening s.book) (sym same) (earlier, history)

  asked : (request : Request) → IsPlanned all (state.book ∷ earlier) request → (told : Told → List ℕ) (text : List ℕ) → Asked state request told text after → Goes all opening after.book
  asked request planned told text is =
      subst (λ (s : State). Goes all opening s.book) (sym is.left)
      (by_reply (Goes all opening) state.book state.armed.vetoes request (earlier, history)
      (λ answer made. (state.book ∷ earlier, accepted state.book earlier state.armed.vetoes request answer history planned made)) is.reply is.replies)

  revised : (revision : Revision) → IsPlanned all (state.book ∷ earlier) (request_of revision)
  revised (Undo n) = tt
  revised (Redo n) = tt
  revised (Empty n) = tt

  module _ (job : JobData) (meets : MeetsJob all state job) (text : List ℕ) where
    by_change : (found : Result Change PlanError) → job_change (shown_by state.book) state.settings job ≡ found → IfOk found (AddsPart all) → CommittedOrRefused state found text after
        → Goes all opening after.book
    by_change (Err why) is adds answer = stays answer.same
    by_change (Ok change) is adds answer =
        asked (commit_of state.book change)
        (state.book, inl refl, record { settings = state.settings; job = job; text = meets.text; change = is; seen = refl; meets = meets.built; adds = adds }) _ text answer

    planned : JobAnswered state job text after → Goes all opening after.book
    planned (inl answer) = by_change (job_change (shown_by state.book) state.settings job) refl meets.added answer
    planned (inr none) = stays none.1.same

module _ (books : BooksLoseNothing) where
  with_all : (all opening : Repository) (after : State) → BeginsWhole all opening → Goes all opening after.book → GoesOn all opening after
  with_all all opening after begins goes = (goes, books all opening after.book goes.0 begins goes.1)

  pub jobs_lose_nothing : JobsLoseNothing
  jobs_lose_nothing all opening state after job text begins on meets answer =
      with_all all opening after begins (planned all opening state after on.0.0 on.0.1 job meets text answer)

  pub revisions_lose_nothing : RevisionsLoseNothing
  revisions_lose_nothing all opening state after revision text begins on answer =
      with_all all opening after begins
      (asked all opening state after on.0.0 on.0.1 (request_of revision) (revised all opening state after on.0.0 on.0.1 revision) _ text answer)

pub taken_lose_nothing : CascadesLoseNothing → TakenLoseNothing
taken_lose_nothing cascades all opening state after n text begins on answer =
    subst (λ (s : State). GoesOn all opening s) (sym answer.left) (cascades all opening state.book on.0.0 answer.numbers begins on.0.1 answer.accepted)
