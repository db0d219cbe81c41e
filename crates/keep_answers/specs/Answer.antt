-- The answer to a line, by the state that the lines before leave.
use Rattle.std.specs.Prelude.{◌≡◌, ◌≢◌, ℕ, Bool, true, false, ◌||◌, IsTrue, ◌↔◌, ◌⊎◌, List, [], Result, Ok, Err}
use Rattle.keep_repo.specs.Repository.{Repository, is_filled}
use Rattle.keep_names.specs.declared.id.Id.{Id}
use Rattle.keep_change.specs.declared.change.Change.{Change}
use Rattle.keep_journal.specs.History.{length_of}
use Rattle.keep_view.specs.Shown.{Shown, shown_of}
use Rattle.keep_ledger.specs.LedgerState.{LedgerState}
use Rattle.keep_ledger.specs.Ends.{Ends, FaultsLast, heard}
use Rattle.keep_ledger.specs.OnShelf.{OnShelf}
use Rattle.keep_ledger.specs.Reply.{Replies, state_after}
use Rattle.keep_ledger.specs.Stops.{EachCallReads}
use Rattle.keep_ledger.specs.declared.reply.Refusal.{Refusal}
use Rattle.keep_ledger.specs.declared.reply.Refusal.TheVariants.{Fault}
use Rattle.keep_journal.specs.declared.request.Request.{Request}
use Rattle.keep_journal.specs.declared.request.Request.TheVariants as request
use Rattle.keep_ledger.specs.Sums.{sums_of}
use Rattle.keep_journal.specs.declared.request.Told.{Told}
use Rattle.keep_read.specs.Findings.{findings_in}
use Rattle.keep_read.specs.Restored.{restored, snapshot_facet}
use Rattle.keep_jobs.specs.Job.{JobData, has_bad_edit, job_change}
use Rattle.keep_plan.specs.declared.plan_error.PlanError.{PlanError}
use Rattle.keep_lines.specs.Command.{Asks}
use Rattle.keep_lines.specs.Line.{IsLine, IsPassedOver}
use Rattle.keep_lines.specs.Mistake.{IsMistake}
use Rattle.keep_lines.specs.Revision.{request_of}
use Rattle.keep_lines.specs.declared.command.Command.{Command}
use Rattle.keep_lines.specs.declared.mistake.Mistake.{Mistake}
use Rattle.keep_replies.specs.Reply.{sizes_of, told_text}
use Rattle.keep_answers.specs.Arming.{ArmsVeto, ArmsWatch}
use Rattle.keep_answers.specs.Cascading.{Cascaded}
use Rattle.keep_answers.specs.Files.{added_file, dropped_file}
use Rattle.keep_answers.specs.Meaning.{MeantData, Job, Add, Drop, Revise, Cascade, Tell, Compare, Restore, Note, Arm, meant_by}
use Rattle.keep_answers.specs.declared.hook_place.HookPlace.{HookPlace}
use Rattle.keep_answers.specs.declared.hook_place.HookPlace.TheVariants.{Armed, Veto, Watch}
use Rattle.keep_answers.specs.declared.meant.Topic.{Topic}
use Rattle.keep_answers.specs.declared.meant.Topic.TheVariants as topic
use Rattle.keep_answers.specs.State.{State, is_fault, ledger_in, noted_under}
use Rattle.keep_answers.specs.Text.{armed_answer, commit_text, count_answer, double_name_answer, found_answer, history_answer, list_answer, no_memory_answer, note_answer, reply_answer, restore_answer, same_answer, totals_answer, unplanned_answer}

-- what the book shows
abbrev pub shown_by : LedgerState → Shown
shown_by book = shown_of book.opening book.events book.live

-- to commit the change, planned on the book as it is
abbrev pub commit_of : LedgerState → Change → Request
commit_of book change = request.Commit (record { change = change; seen = length_of book.events })

-- this is written, and nothing changes
pub record Shows (state : State) (shown written : List ℕ) (after : State) : Type 0 where
  pub text : written ≡ shown
  pub same : after ≡ state

-- what the reply leaves, where the ledger is left so on its shelf: an event that is in, settled or not, is added
abbrev pub replied : State → Request → Result Told Refusal → OnShelf → State
replied state request reply ledger = record state {
  book = state_after state.book request (heard state.book request reply);
  due = ledger.due;
  shelf = ledger.shelf;
  faulted = state.faulted || is_fault reply;
}

-- the book's reply to the request is written, and alone decides on what is left; by its rules the book replies unless
-- the shelf fails before the event is in. The reply tells of the calls of the shelf, too: which were made, and which one
-- failed; each of them left a shelf that says what was so before the request, or what is so after it
pub record Asked (state : State) (request : Request) (accepted : Told → List ℕ)
    (written : List ℕ) (after : State) : Type 0 where
  pub reply : Result Told Refusal
  pub replies : reply ≢ Err Fault → Replies state.book state.armed.vetoes request (heard state.book request reply)
  pub text : written ≡ reply_answer accepted reply
  pub ends : Ends (ledger_in state) request reply (ledger_in after)
  pub faults : FaultsLast (ledger_in state) state.armed.vetoes request reply (ledger_in after)
  pub stops : EachCallReads (ledger_in state) request (ledger_in after)
  pub left : after ≡ replied state request reply (ledger_in after)

-- the change is planned on the present state, and its commit follows at once
abbrev pub Committed : State → Change → List ℕ → State → Type 0
Committed state change text after =
    Asked state (commit_of state.book change) (commit_text (sizes_of change)) text after

-- a planned change is committed, or its planner's refusal is written and nothing changes
abbrev pub CommittedOrRefused : State → Result Change PlanError → List ℕ → State → Type 0
CommittedOrRefused state (Ok change) text after = Committed state change text after
CommittedOrRefused state (Err refusal) text after = Shows state (unplanned_answer refusal) text after

-- a job is planned and committed, or refused; memory may run out, but not for a bad edit, which is found before memory
-- is taken
abbrev pub JobAnswered : State → JobData → List ℕ → State → Type 0
JobAnswered state job text after =
    CommittedOrRefused state (job_change (shown_by state.book) state.settings job) text after
    ⊎ ((has_bad_edit job ≡ false) × Shows state no_memory_answer text after)

-- what a restore is answered: its outcome, or that memory runs out where the snapshot isn't missing: a missing one is
-- found before memory is taken
abbrev pub Restores : Repository → Id → List ℕ → Type 0
Restores repository snapshot text =
    (text ≡ restore_answer (restored repository snapshot))
    ⊎ ((is_filled repository (snapshot_facet snapshot) ≡ true) × (text ≡ no_memory_answer))

-- what is told: a total is the sum over the events since its watch was armed
abbrev pub Tells : State → Topic → List ℕ → Type 0
Tells state topic.List text = text ≡ list_answer state.book.live
Tells state topic.Count text = text ≡ count_answer state.book.live
Tells state topic.History text = text ≡ history_answer state.book.events
Tells state topic.Audit text = (text ≡ found_answer (findings_in state.book.live)) ⊎ (text ≡ no_memory_answer)
Tells state topic.Totals text = text ≡ totals_answer (sums_of state.book.events state.armed.watches)

-- whether the repository is as the noted one, which is told under the name of the note
abbrev pub Compares : State → List ℕ → Repository → List ℕ → Type 0
Compares state name noted text =
    (same : Bool) × (IsTrue same ↔ (state.book.live ≡ noted)) × (text ≡ same_answer name same)

-- what the kit has is armed in this way, or memory runs out
abbrev pub ArmsSpare : State → List ℕ → (State → Type 0) → List ℕ → State → Type 0
ArmsSpare state name ArmsIt text after =
    Shows state no_memory_answer text after
    ⊎ ((armed : State) × ArmsIt armed × Shows armed (armed_answer name) text after)

-- what `arm` does: nothing where the name is armed; else what is at the place is armed, behind the others
abbrev pub Arms : State → List ℕ → HookPlace → List ℕ → State → Type 0
Arms state name Armed text after = Shows state double_name_answer text after
Arms state name (Veto place) text after = ArmsSpare state name (ArmsVeto state place) text after
Arms state name (Watch place) text after = ArmsSpare state name (ArmsWatch state place) text after

-- the answer to what a command means, and the state that it leaves: a job is planned and committed, a file by itself
-- committed, a revision asked of the book; a change is taken back with all that leans on it; what is told changes
-- nothing; a note is kept; a veto or a watch is armed
abbrev pub AnswersTo : State → MeantData → List ℕ → State → Type 0
AnswersTo state (Job job) text after = JobAnswered state job text after
AnswersTo state (Add kind bytes) text after = Committed state (added_file kind bytes) text after
AnswersTo state (Drop name) text after = Committed state (dropped_file state.book.live name) text after
AnswersTo state (Revise revision) text after = Asked state (request_of revision) told_text text after
AnswersTo state (Cascade n) text after = Cascaded state n text after
AnswersTo state (Tell what) text after = Tells state what text × (after ≡ state)
AnswersTo state (Compare name noted) text after = Compares state name noted text × (after ≡ state)
AnswersTo state (Restore snapshot) text after = Restores state.book.live snapshot text × (after ≡ state)
AnswersTo state (Note name) text after =
    Shows (record state { notes = noted_under name state.book.live state.notes }) (note_answer name) text after
AnswersTo state (Arm name place) text after = Arms state name place text after

-- the answer to a line: none where it is passed over, and else that to what its command means
pub data Answered (state : State) (line text : List ℕ) (after : State) : Type 0 where
  PassedOver : IsLine line → IsPassedOver line → Shows state [] text after → Answered state line text after
  Done : IsLine line → (command : Command) → Asks line command → (meant : MeantData)
      → meant_by state command ≡ Ok meant → AnswersTo state meant text after → Answered state line text after

-- a line isn't one of the language, for this cause: it is no command's, or a name of its command has nothing behind it
abbrev pub IsBad : State → List ℕ → Mistake → Type 0
IsBad state line why =
    IsMistake line why ⊎ ((command : Command) × Asks line command × (meant_by state command ≡ Err why))
