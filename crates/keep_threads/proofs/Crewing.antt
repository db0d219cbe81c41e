-- What a crew did: of what each operator did, and of what closing the desk told.
use Rattle.std.proofs.Common.{◌≡◌, ◌∙◌, ℕ, ◌-◌, ◌<◌, List, [], length, map, Option, Some, None, Result, ap, arith, subst, sym}
use Rattle.std.proofs.lemmas.List.{get_or-map, length-map}
use Rattle.std.proofs.lemmas.Slice.Zip.{get_or-zip, length-zip}
use Rattle.std.specs.List.{slice_index_or, zip}
use Rattle.std.specs.Option.{IsSomeAnd}
use Rattle.keep_change.specs.declared.change.Change.{Change}
use Rattle.keep_change.specs.declared.change.Planned.{Planned}
use Rattle.keep_hooks.specs.Guards.{Rule}
use Rattle.keep_journal.specs.History.{length_of}
use Rattle.keep_journal.specs.declared.event.Event.{Event}
use Rattle.keep_plan.specs.declared.plan_error.PlanError.{PlanError}
use Rattle.keep_view.specs.Shown.{Shown}
use Rattle.keep_ledger.specs.LedgerState.{LedgerState}
use Rattle.keep_journal.specs.declared.request.Told.{Told}
use Rattle.keep_jobs.specs.Job.{JobData, SettingsData, job_change, settings_view}
use Rattle.keep_register.proofs.Allowing.{allowed_as}
use Rattle.keep_register.specs.Known.{AreFresh, Known, fresh}
use Rattle.keep_crew.specs.Allowing.{AllowsPlans, AllowsWork}
use Rattle.keep_crew.specs.declared.work.Work.{Work}
use Rattle.keep_crew.specs.declared.work.Work.TheVariants.{Plan, Undo, Redo, Empty}
use Rattle.keep_desk.specs.Closed.{IsClosed}
use Rattle.keep_crew.specs.Asking.{PlansAndCommits}
use Rattle.keep_desk.specs.Crew.{DoesWork, HasWorked}
use Rattle.keep_crew.specs.declared.answers.NotTold.{NotTold}
use Rattle.keep_desk.specs.declared.crew.Operator.{Operator}
use Rattle.keep_operators.specs.Asked.{AreAsked, IsAsked, job_of}
use Rattle.keep_operators.specs.Backups.{backup_of}
use Rattle.keep_operators.specs.Crewed.{AllowsJustBackups, IsCrewed, IsDone, PlansBackup, wanted_of}
use Rattle.keep_operators.specs.declared.each_snapshot.EachSnapshot.{EachSnapshot}
use Rattle.keep_operators.specs.declared.planner.Planner.{Planner}

-- what an operator of a crew is asked for
abbrev pub Asked : Type 0
Asked = Work (Planner EachSnapshot)

-- one that hasn't worked yet
abbrev pub hand_of : {B : Type 0} → Known × Asked → Operator B (Planner EachSnapshot)
hand_of given = record { pass = given.0; work = given.1; answer = None }

-- the change that a planner wants
abbrev pub wants : Planner EachSnapshot → Shown → Result Change PlanError
wants planner shown = job_change shown (settings_view planner.settings) (job_of planner.job)

-- each of them, who had seen nothing, planned what is wanted at its place and asked for that, and knows this now
abbrev pub HaveWorked : List Rule → LedgerState → (wanted : ℕ → Shown → Result Change PlanError) → List Known → Type 0
HaveWorked rules before wanted known =
    (i : ℕ) (d : Known) → i < length known
    → (answer : Result Told NotTold) × PlansAndCommits rules before (wanted i) fresh (slice_index_or known i d) answer

-- as many hands as works
pub hands_long : {B : Type 0} (passes : List Known) (works : List Asked) (hands : List (Operator B (Planner EachSnapshot)))
    → length passes ≡ length works → hands ≡ map hand_of (zip passes works) → length hands ≡ length works
hands_long {B} passes works hands as_many paired =
    omega (arith, ap length paired, length-map (zip passes works) (hand_of {B = B}), length-zip passes works)

-- ---- each did its work

module _ (rules : List Rule) (settings : SettingsData) (time : List ℕ) (opening : LedgerState) where
  -- what a planner wants that was asked for the job of this place
  same_wanted : (i : ℕ) (planner : Planner EachSnapshot) → IsAsked settings (backup_of time i) (Plan planner)
      → wants planner ≡ wanted_of settings time i
  same_wanted i planner asked =
      ap {B = Shown → Result Change PlanError} (λ (s : SettingsData) (shown : Shown). job_change shown s (job_of planner.job)) asked.0
      ∙ ap {B = Shown → Result Change PlanError} (λ (j : JobData) (shown : Shown). job_change shown settings j) asked.1

  -- one that was asked for it, and had seen nothing, planned that and asked for it
  plans_backup : (i : ℕ) (work : Asked) → IsAsked settings (backup_of time i) work → (before after : Known)
      (answer : Result Told NotTold) → before ≡ fresh → DoesWork rules opening wants work before after answer
      → PlansAndCommits rules opening (wanted_of settings time i) fresh after answer
  plans_backup i (Plan planner) asked before after answer none does =
      subst (λ (w : Shown → Result Change PlanError). PlansAndCommits rules opening w fresh after answer) (same_wanted i planner asked)
      (subst (λ (k : Known). PlansAndCommits rules opening (wants planner) k after answer) none does)
  plans_backup i (Undo n) asked before after answer none does = absurd asked
  plans_backup i (Redo n) asked before after answer none does = absurd asked
  plans_backup i (Empty n) asked before after answer none does = absurd asked

  -- and has an answer
  has_answer : (i : ℕ) (work : Asked) → IsAsked settings (backup_of time i) work → (before after : Known) → before ≡ fresh
      → (answer : Option (Result Told NotTold)) → IsSomeAnd answer (DoesWork rules opening wants work before after)
      → (told : Result Told NotTold) × PlansAndCommits rules opening (wanted_of settings time i) fresh after told
  has_answer i work asked before after none None does = absurd does
  has_answer i work asked before after none (Some told) does = (told, plans_backup i work asked before after told none does)

  -- what it plans may be committed, where the backups of so many may be
  plan_allowed : (allows : List Event → Planned → Type 0) (size : ℕ) → AllowsJustBackups allows settings time size opening
      → (i : ℕ) → i < size → (work : Asked) → IsAsked settings (backup_of time i) work → AllowsWork allows opening wants work
  plan_allowed allows size just i within (Plan planner) asked =
      subst (AllowsPlans allows opening) (sym (same_wanted i planner asked)) (λ seen p planned. (just seen p).1 (i, within, planned))
  plan_allowed allows size just i within (Undo n) asked = absurd asked
  plan_allowed allows size just i within (Redo n) asked = absurd asked
  plan_allowed allows size just i within (Empty n) asked = absurd asked

  module _ {B : Type 0} (passes : List Known) (works : List Asked) (new : AreFresh passes)
      (asked : AreAsked settings (backup_of time) works) (as_many : length passes ≡ length works) where
    -- an operator has the pass and the work of its place
    at_place : (before : List (Operator B (Planner EachSnapshot))) → before ≡ map hand_of (zip passes works) → (i : ℕ)
        (d : Operator B (Planner EachSnapshot)) → i < length works
        → slice_index_or before i d ≡ hand_of (slice_index_or passes i d.pass, slice_index_or works i d.work)
    at_place before paired i d within =
        ap (λ (os : List (Operator B (Planner EachSnapshot))). slice_index_or os i d) paired
        ∙ (get_or-map hand_of (zip passes works) i (d.pass, d.work) d (omega (arith, length-zip passes works))
        ∙ ap hand_of (get_or-zip passes works i (d.pass, d.work) (omega arith) (omega arith)))

    -- each may do its work
    pub all_allowed : (allows : List Event → Planned → Type 0) (size : ℕ) → AllowsJustBackups allows settings time size opening
        → length works ≡ size → (before : List (Operator B (Planner EachSnapshot))) → before ≡ map hand_of (zip passes works) → (i : ℕ)
        (d : Operator B (Planner EachSnapshot)) → i < length before → AllowsWork allows opening wants (slice_index_or before i d).work
    all_allowed allows size just sized before paired i d within =
        let inside : i < length works = omega (arith, hands_long passes works before as_many paired) in
        subst (λ (h : Operator B (Planner EachSnapshot)). AllowsWork allows opening wants h.work) (sym (at_place before paired i d inside))
        (plan_allowed allows size just i (omega arith) (slice_index_or works i d.work) (asked i d.work inside))

    module _ (before after : List (Operator B (Planner EachSnapshot))) (paired : before ≡ map hand_of (zip passes works))
        (same : length after ≡ length before) (taken : List Known)
        (out : taken ≡ map (λ (o : Operator B (Planner EachSnapshot)). o.pass) after) where
      as_long : length before ≡ length works
      as_long = hands_long passes works before as_many paired

      -- as many passes come out as there were works
      pub all_out : length taken ≡ length works
      all_out = omega (arith, ap length out, length-map after (λ (o : Operator B (Planner EachSnapshot)). o.pass), as_long)

      -- each asked once for its backup
      pub have_worked : ((i : ℕ) (d : Operator B (Planner EachSnapshot)) → i < length before
          → HasWorked rules opening wants (slice_index_or before i d) (slice_index_or after i d))
          → HaveWorked rules opening (wanted_of settings time) taken
      have_worked worked i d within =
          let o : Operator B (Planner EachSnapshot) = hand_of (d, Empty 0) in
          let first = slice_index_or before i o in
          let last = slice_index_or after i o in
          let place = at_place before paired i o (omega (arith, all_out)) in
          let pass : slice_index_or taken i d ≡ last.pass =
          ap (λ (ks : List Known). slice_index_or ks i d) out
          ∙ get_or-map (λ (o : Operator B (Planner EachSnapshot)). o.pass) after i o d (omega (arith, all_out, as_long)) in
          subst (λ (k : Known). (told : Result Told NotTold) × PlansAndCommits rules opening (wanted_of settings time i) fresh k told)
          (sym pass)
          (has_answer i first.work
          (subst (λ (h : Operator B (Planner EachSnapshot)). IsAsked settings (backup_of time i) h.work) (sym place)
          (asked i (Empty 0) (omega (arith, all_out))))
          first.pass last.pass
          (ap (λ (h : Operator B (Planner EachSnapshot)). h.pass) place ∙ new i d (omega (arith, all_out))) last.answer
          (worked i o (omega (arith, all_out, as_long))).1)

  -- ---- the desk is closed

  -- what they did, with what closing told where all passes came back
  pub crewed : (allows : List Event → Planned → Type 0) (taken : List Known) (parts size : ℕ) (now : LedgerState) (accepted last : ℕ)
      → AllowsJustBackups allows settings time size opening
      → HaveWorked rules opening (wanted_of settings time) taken → length taken ≡ size → parts ≡ size
      → IsClosed allows rules opening parts taken now → last ≡ length_of now.events → accepted ≡ last - length_of opening.events
      → IsCrewed rules settings time size opening now accepted last
  crewed allows taken parts size now accepted last just worked all counts closed is_last is_accepted = record {
    since = closed.since;
    left = closed.state;
    history = closed.history;
    planned = allowed_as allows (PlansBackup settings time size opening) rules opening (λ seen p. (just seen p).0) [] closed.since
        closed.allowed;
    known = taken;
    all = all;
    done = done;
    counted = sym (closed.whole (all ∙ sym counts)) ∙ each;
    each = each;
    longer = omega (arith, closed.longer);
  }
    where
      each : length closed.since ≡ accepted
      each = omega (arith, closed.longer)

      done : (i : ℕ) (d : Known) → i < size → IsDone rules opening (wanted_of settings time i) closed.since (slice_index_or taken i d)
      done i d within =
          let told = worked i d (omega arith) in
          record { answer = told.0; works = told.1; begins = closed.begins i d (omega arith) }
