-- What is written for what a command means, where its answer is known.
use Rattle.std.proofs.Common.{◌≡◌, ◌≢◌, ℕ, List, [], Result, Ok, Err, Bool, true, false, Option, IfOk, IfErr, inl, inr, ap, refl, subst}
use Rattle.std.proofs.KnownBytes.{Appends-nil}
use Rattle.keep_book.specs.Armed.{IsUnchanged, Responds, ledger_of, on_shelf}
use Rattle.keep_journal.specs.declared.request.Request.{Request}
use Rattle.keep_book.specs.declared.book.Book.{Book}
use Rattle.keep_ledger.specs.declared.reply.Refusal.{Refusal}
use Rattle.keep_journal.specs.declared.request.Told.{Told}
use Rattle.keep_change.specs.declared.change.Change.{Change}
use Rattle.keep_jobs.specs.Kits.{KitData}
use Rattle.keep_jobs.specs.Job.{JobData, has_bad_edit, job_change, settings_view}
use Rattle.keep_lines.specs.Command.{Asks}
use Rattle.keep_lines.specs.Line.{IsLine}
use Rattle.keep_lines.specs.Mistake.{IsMistake}
use Rattle.keep_lines.specs.declared.command.Command.{Command}
use Rattle.keep_lines.specs.declared.command.LineError.{LineError}
use Rattle.keep_lines.specs.declared.command.LineError.TheVariants.{Bad, Memory}
use Rattle.keep_lines.specs.declared.mistake.Mistake.{Mistake}
use Rattle.keep_replies.specs.Reply.{sizes_of}
use Rattle.keep_replies.specs.declared.reply_lines.Sizes.{Sizes}
use Rattle.keep_plan.specs.declared.plan_error.PlanError.{PlanError}
use Rattle.keep_plan.specs.declared.plan_error.PlanError.TheVariants as plan_error
use Rattle.keep_answers.specs.Answer.{AnswersTo, Asked, Committed, Done, JobAnswered, Shows, commit_of, replied, shown_by}
use Rattle.keep_answers.specs.Answering.{AnswersDue, AnswersLine, AnswersMeant}
use Rattle.keep_answers.specs.Halting.{halt_of}
use Rattle.keep_answers.specs.Known.{Puts, Writes}
use Rattle.keep_answers.specs.Meaning.{Job, MeantData, meant_by}
use Rattle.keep_answers.specs.State.{State, session_after, state_of}
use Rattle.keep_answers.specs.Text.{commit_text, outcome_answer, reply_answer, unplanned_answer}
use Rattle.keep_answers.specs.declared.session.Session.{Session}
use Rattle.keep_answers.specs.declared.halt.Halt.{Halt}
use Rattle.keep_answers.specs.declared.halt.Halt.TheVariants.{BadLine, WriteFailed, NoMemory, Untold}

-- nothing is written, and nothing changes
pub Shows-nothing : (state : State) → Shows state [] [] state
Shows-nothing state = record { text = refl; same = refl }

-- its answer is written, or a first part of it
pub AnswersMeant-puts : (a b : Option (List ℕ)) (state after : State) (meant : MeantData) (text : List ℕ) (r : Result (Unit {0}) Halt)
    → Puts a b text r → AnswersTo state meant text after → Writes a b (λ t. AnswersMeant state meant t r after)
AnswersMeant-puts a b state after meant text (Ok u) h answer = (text, h, answer)
AnswersMeant-puts a b state after meant text (Err (BadLine why)) h answer = absurd h
AnswersMeant-puts a b state after meant text (Err WriteFailed) h answer = (h.part, h.appended, inr (h.rest, subst (λ t. AnswersTo state meant t after) h.split answer))
AnswersMeant-puts a b state after meant text (Err NoMemory) h answer = (h.part, h.appended, inr (h.rest, subst (λ t. AnswersTo state meant t after) h.split answer))
AnswersMeant-puts a b state after meant text (Err Untold) h answer = absurd h

-- the answer is held back
pub AnswersMeant-untold : (a : Option (List ℕ)) (state after : State) (meant : MeantData) (text : List ℕ) (r : Result (Unit {0}) Halt)
    → r ≡ Err Untold → after.faulted ≡ true → AnswersTo state meant text after → Writes a a (λ t. AnswersMeant state meant t r after)
AnswersMeant-untold a state after meant text r same faulted answer = rw same ([], Appends-nil a, (refl, faulted, (text, answer)))

-- nothing was done, for want of memory
pub AnswersMeant-none : (a : Option (List ℕ)) (state : State) (meant : MeantData) (r : Result (Unit {0}) Halt) → r ≡ Err NoMemory → Writes a a (λ t. AnswersMeant state meant t r state)
AnswersMeant-none a state meant r same = rw same ([], Appends-nil a, inl (Shows-nothing state))

-- what is due to be meant is
pub AnswersDue-meant : (a b : Option (List ℕ)) (state after : State) (due : Result MeantData Mistake) (meant : MeantData) (r : Result (Unit {0}) Halt)
    → due ≡ Ok meant → Writes a b (λ t. AnswersMeant state meant t r after) → Writes a b (λ t. AnswersDue state due t r after)
AnswersDue-meant a b state after due meant (Ok u) is (t, h, answer) = (t, h, (meant, is, answer))
AnswersDue-meant a b state after due meant (Err (BadLine why)) is (t, h, answer) = absurd answer
AnswersDue-meant a b state after due meant (Err WriteFailed) is (t, h, answer) = (t, h, (meant, is, answer))
AnswersDue-meant a b state after due meant (Err NoMemory) is (t, h, answer) = (t, h, (meant, is, answer))
AnswersDue-meant a b state after due meant (Err Untold) is (t, h, answer) = (t, h, (meant, is, answer))

-- or the line is bad
pub AnswersDue-bad : (a : Option (List ℕ)) (state : State) (due : Result MeantData Mistake) (why : Mistake) → due ≡ Err why → Writes a a (λ t. AnswersDue state due t (Err (BadLine why)) state)
AnswersDue-bad a state due why is = ([], Appends-nil a, (is, Shows-nothing state))

-- the answer to a line is that to what its command means
pub AnswersLine-command : (a b : Option (List ℕ)) (state after : State) (line : List ℕ) (command : Command) (r : Result (Unit {0}) Halt)
    → IsLine line → Asks line command → Writes a b (λ t. AnswersDue state (meant_by state command) t r after) → Writes a b (λ t. AnswersLine state line t r after)
AnswersLine-command a b state after line command (Ok u) whole asks (t, h, (meant, due, answer)) = (t, h, Done whole command asks meant due answer)
AnswersLine-command a b state after line command (Err (BadLine why)) whole asks (t, h, (due, none)) = (t, h, (inr (command, asks, due), none))
AnswersLine-command a b state after line command (Err WriteFailed) whole asks (t, h, (meant, due, answer)) =
    (t, h, elim answer [ inl none ↦ inl none | inr begun ↦ inr (begun.0, Done whole command asks meant due begun.1) ])
AnswersLine-command a b state after line command (Err NoMemory) whole asks (t, h, (meant, due, answer)) =
    (t, h, elim answer [ inl none ↦ inl none | inr begun ↦ inr (begun.0, Done whole command asks meant due begun.1) ])
AnswersLine-command a b state after line command (Err Untold) whole asks (t, h, (meant, due, (none, faulted, (answer, answers)))) =
    (t, h, (none, faulted, (answer, Done whole command asks meant due answers)))

-- ---- what a reading of a line tells

-- the line's command can't be told for want of memory, or it isn't one of the language
pub AnswersLine-unread : (a : Option (List ℕ)) (state : State) (line : List ℕ) (error : LineError) (halt : Halt) (r : Result (Unit {0}) Halt)
    → halt ≡ halt_of error → ((why : Mistake) → error ≡ Bad why → IsMistake line why) → r ≡ Err halt → Writes a a (λ t. AnswersLine state line t r state)
AnswersLine-unread a state line (Bad why) halt r e bad same = rw (same, e) ([], Appends-nil a, (inl (bad why refl), Shows-nothing state))
AnswersLine-unread a state line Memory halt r e bad same = rw (same, e) ([], Appends-nil a, inl (Shows-nothing state))

-- ---- commits

-- what the book replies decides on what is left
pub left_by : {S I F g J E h : _} (kit : KitData) (session session' : Session) (book book' : Book S I F g J E h) (request : Request) (reply : Result Told Refusal)
    → Responds book request reply book' → session' ≡ session_after session reply
    → state_of kit session' book' ≡ replied (state_of kit session book) request reply (on_shelf book')
left_by kit session session' book book' request reply asks noted = rw (noted, asks.ledger, asks.hooks) refl

-- what the book responds is what it is asked for
pub Asked-by : {S I F g J E h : _} (kit : KitData) (session session' : Session) (book book' : Book S I F g J E h) (request : Request) (accepted : Told → List ℕ) (reply : Result Told Refusal)
    → Responds book request reply book' → session' ≡ session_after session reply
    → Asked (state_of kit session book) request accepted (reply_answer accepted reply) (state_of kit session' book')
Asked-by kit session session' book book' request accepted reply asks noted = record {
  reply = reply;
  replies = asks.replies;
  text = refl;
  ends = asks.ends;
  faults = asks.faults;
  stops = asks.stops;
  left = left_by kit session session' book book' request reply asks noted;
}

-- the change that was made ready is committed
pub Committed-by : {S I F g J E h : _} (kit : KitData) (session session' : Session) (book book' : Book S I F g J E h) (change : Change) (sizes : Sizes) (reply : Result Told Refusal)
    → Responds book (commit_of (ledger_of book) change) reply book' → session' ≡ session_after session reply → sizes ≡ sizes_of change
    → Committed (state_of kit session book) change (reply_answer (commit_text sizes) reply) (state_of kit session' book')
Committed-by kit session session' book book' change sizes reply asks noted counted =
    rw counted (Asked-by kit session session' book book' (commit_of (ledger_of book) change) (commit_text (sizes_of change)) reply asks noted)

-- ---- jobs

-- what came of a job was answered: it was committed as it was to be planned
Job-made : {S I F g J E h : _} (kit : KitData) (session session' : Session) (book book' : Book S I F g J E h) (job : JobData) (made : Result Told Refusal × Sizes) (change : Change)
    → job_change (shown_by (ledger_of book)) (settings_view session.settings) job ≡ Ok change → Responds book (commit_of (ledger_of book) change) made.0 book'
    → session' ≡ session_after session made.0 → made.1 ≡ sizes_of change
    → JobAnswered (state_of kit session book) job (reply_answer (commit_text made.1) made.0) (state_of kit session' book')
Job-made kit session session' book book' job made change due asks noted counted =
    rw due (inl (Committed-by kit session session' book book' change made.1 made.0 asks noted counted))

-- an edit that isn't refused as bad is none
good_edit : (bad : Bool) → (bad ≡ true → ◌≡◌ {A = PlanError} plan_error.Memory plan_error.BadEdit) → bad ≡ false
good_edit true refused = let same : ◌≡◌ {A = PlanError} plan_error.Memory plan_error.BadEdit = refused refl in cc same
good_edit false refused = refl

-- or it was refused as it was to be, or memory ran out, and its edit isn't bad
Job-refused : (state after : State) (job : JobData) (refusal : PlanError)
    → (refusal ≢ plan_error.Memory → job_change (shown_by state.book) state.settings job ≡ Err refusal)
    → (has_bad_edit job ≡ true → refusal ≡ plan_error.BadEdit)
    → after ≡ state → JobAnswered state job (unplanned_answer refusal) after
Job-refused state after job plan_error.BadPath due bad same = rw (due (λ e. cc e)) (inl (record { text = refl; same = same }))
Job-refused state after job plan_error.SamePathTwice due bad same = rw (due (λ e. cc e)) (inl (record { text = refl; same = same }))
Job-refused state after job plan_error.BadTime due bad same = rw (due (λ e. cc e)) (inl (record { text = refl; same = same }))
Job-refused state after job plan_error.BadEdit due bad same = rw (due (λ e. cc e)) (inl (record { text = refl; same = same }))
Job-refused state after job plan_error.BadPattern due bad same = rw (due (λ e. cc e)) (inl (record { text = refl; same = same }))
Job-refused state after job (plan_error.Unread file) due bad same = rw (due (λ e. cc e)) (inl (record { text = refl; same = same }))
Job-refused state after job (plan_error.Reach why) due bad same = rw (due (λ e. cc e)) (inl (record { text = refl; same = same }))
Job-refused state after job plan_error.TooDeep due bad same = rw (due (λ e. cc e)) (inl (record { text = refl; same = same }))
Job-refused state after job plan_error.Full due bad same = rw (due (λ e. cc e)) (inl (record { text = refl; same = same }))
Job-refused state after job plan_error.SnapshotThere due bad same = rw (due (λ e. cc e)) (inl (record { text = refl; same = same }))
Job-refused state after job plan_error.NothingToDo due bad same = rw (due (λ e. cc e)) (inl (record { text = refl; same = same }))
Job-refused state after job plan_error.Memory due bad same = inr (good_edit (has_bad_edit job) bad, record { text = refl; same = same })

-- nothing was asked of the book
left_alone : {S I F g J E h : _} (kit : KitData) (session session' : Session) (book book' : Book S I F g J E h) → IsUnchanged book book' → session' ≡ session
    → state_of kit session' book' ≡ state_of kit session book
left_alone kit session session' book book' same kept = rw (kept, same.ledger, same.hooks) refl

-- the answer to a job
pub Job-answered : {S I F g J E h : _} (kit : KitData) (session session' : Session) (book book' : Book S I F g J E h) (asked : JobData)
    (outcome : Result (Result Told Refusal × Sizes) PlanError)
    → IfOk outcome (λ made. (change : Change) × (job_change (shown_by (ledger_of book)) (settings_view session.settings) asked ≡ Ok change) × Responds book (commit_of (ledger_of book) change) made.0 book' × (session' ≡ session_after session made.0) × (made.1 ≡ sizes_of change))
    → IfErr outcome (λ refusal. refusal ≢ plan_error.Memory → job_change (shown_by (ledger_of book)) (settings_view session.settings) asked ≡ Err refusal)
    → (has_bad_edit asked ≡ true → outcome ≡ Err plan_error.BadEdit) → IfErr outcome (λ refusal. IsUnchanged book book' × (session' ≡ session))
    → AnswersTo (state_of kit session book) (Job asked) (outcome_answer outcome) (state_of kit session' book')
Job-answered kit session session' book book' asked (Ok made) h refused bad same = Job-made kit session session' book book' asked made h.0 h.1 h.2 h.3 h.4
Job-answered kit session session' book book' asked (Err refusal) made due bad same =
    Job-refused (state_of kit session book) (state_of kit session' book') asked refusal due
    (λ is. let refused : ◌≡◌ {A = Result (Result Told Refusal × Sizes) PlanError} (Err refusal) (Err plan_error.BadEdit) = bad is in cc refused)
    (left_alone kit session session' book book' same.0 same.1)
