-- A planned history goes on with the events of a desk, one after another.
use Rattle.std.proofs.Common.{◌≡◌, ◌∙◌, ℕ, ◌<◌, ◌≤◌, List, [], ◌∷◌, ◌++◌, ◌⊎◌, IfOk, Ok, ap, append-nil, append_assoc, arith, inl, inr, refl, subst, sym}
use mathlib.Core.List.{IsPrefix}
use Rattle.std.specs.Prelude.{IsUtf8}
use Rattle.keep_repo.specs.Repository.{Repository}
use Rattle.keep_change.specs.declared.change.Planned.{Planned}
use Rattle.keep_hooks.specs.Guards.{Rule}
use Rattle.keep_sound.specs.Met.{AddsPart}
use Rattle.keep_journal.specs.declared.event.Event.{Event}
use Rattle.keep_journal.specs.declared.request.Request.{Request}
use Rattle.keep_journal.specs.declared.request.Request.TheVariants.{Commit, Undo, Redo, Empty}
use Rattle.keep_ledger.specs.LedgerState.{LedgerState}
use Rattle.keep_ledger.specs.Made.{event_of, with_event}
use Rattle.keep_ledger.specs.Reply.{told_of}
use Rattle.keep_pages.specs.Histories.{shown_at, state_of, state_with}
use Rattle.keep_pages.proofs.Histories.{state_of-push, with_event-is}
use Rattle.keep_chronicle.proofs.Prefixes.{prefix_trans}
use Rattle.keep_register.specs.Allowed.{AreAllowed, IsAllowed, MayFollow}
use Rattle.keep_register.specs.Known.{Known}
use Rattle.keep_desk.specs.Closed.{IsClosed}
use Rattle.keep_jobs.specs.Job.{SettingsData, job_change}
use Rattle.keep_operators.specs.Backups.{backup_of}
use Rattle.keep_operators.specs.Crewed.{IsCrewed, PlansBackup}
use Rattle.keep_planned_books.specs.History.{BeginsWhole, IsOneOf, IsPlanned, IsPlannedHistory, accepted}
use Rattle.keep_planned_books.specs.Jobs.{IsOfJob}
use Rattle.keep_planned_books.specs.Losing.{BooksLoseNothing}
use Rattle.keep_planned_crews.specs.Losing.{AllowsJobs, CrewsLoseNothing, DesksLoseNothing, GoesOn, MeetsBackups}
use Rattle.keep_planned_crews.proofs.Texts.{backup_said}

-- what begins a list with one more element is the whole of it, or begins the list
begins_or_whole : {A : Type 0} (seen on : List A) (e : A) → IsPrefix seen (on ++ e ∷ []) → (seen ≡ on ++ e ∷ []) ⊎ IsPrefix seen on
begins_or_whole [] on e p = inr (on, refl)
begins_or_whole (x ∷ []) [] e p = inl (cc (p.1))
begins_or_whole (x ∷ y ∷ seen) [] e p = absurd (cc (p.1))
begins_or_whole (x ∷ seen) (y ∷ on) e p = more (begins_or_whole seen on e (p.0, cc (p.1))) where
  more : (seen ≡ on ++ e ∷ []) ⊎ IsPrefix seen on → (x ∷ seen ≡ y ∷ (on ++ e ∷ [])) ⊎ IsPrefix (x ∷ seen) (y ∷ on)
  more (inl same) = inl (cc (p.1, same))
  more (inr q) = inr (q.0, cc (p.1, q.1))

module _ (all opening : Repository) (book : LedgerState) where
  -- the history has come to what these events left of the book, and has what each beginning of them left
  record HasCome (on : List Event) : Type 0 where
    before : List LedgerState
    history : IsPlannedHistory all opening (state_of book on ∷ before)
    each : (seen : List Event) → IsPrefix seen on → IsOneOf (state_of book on ∷ before) (state_of book seen)

  none_yet : (earlier : List LedgerState) → IsPlannedHistory all opening (book ∷ earlier) → HasCome []
  none_yet earlier history = record { before = earlier; history = history; each = each } where
    nothing : (seen : List Event) → IsPrefix seen [] → seen ≡ []
    nothing [] p = refl
    nothing (x ∷ seen) p = absurd (cc (p.1))

    each : (seen : List Event) → IsPrefix seen [] → IsOneOf (book ∷ earlier) (state_of book seen)
    each seen p = inl (ap (state_of book) (nothing seen p))

  module _ (allows : List Event → Planned → Type 0) (rules : List Rule) (since : List Event) (jobs : AllowsJobs allows all book since) where
    module _ (on : List Event) (within : IsPrefix on since) (come : HasCome on) where
      planned_there : (request : Request) → MayFollow allows on request → IsPlanned all (state_of book on ∷ come.before) request
      planned_there (Commit p) may =
          (state_of book may.0, come.each may.0 may.1, jobs may.0 p (prefix_trans may.0 on since may.1 within) may.2)
      planned_there (Undo n) may = tt
      planned_there (Redo n) may = tt
      planned_there (Empty n) may = tt

      one_more : (e : Event) → IsAllowed allows rules book on e → HasCome (on ++ e ∷ [])
      one_more e allowed = record { before = state_of book on ∷ come.before; history = history; each = each } where
        request : Request
        request = allowed.accepted.request

        is : with_event (state_of book on) request ≡ state_of book (on ++ e ∷ [])
        is =
            with_event-is (state_of book on) request
            ∙ (ap (state_with (state_of book on)) (sym allowed.accepted.event) ∙ sym (state_of-push book on e))

        history : IsPlannedHistory all opening (state_of book (on ++ e ∷ []) ∷ state_of book on ∷ come.before)
        history =
            subst (λ (b : LedgerState). IsPlannedHistory all opening (b ∷ state_of book on ∷ come.before)) is
            (accepted (state_of book on) come.before rules request (told_of (state_of book on).events request) come.history
            (planned_there request allowed.may) allowed.accepted.reply)

        each : (seen : List Event) → IsPrefix seen (on ++ e ∷ [])
            → IsOneOf (state_of book (on ++ e ∷ []) ∷ state_of book on ∷ come.before) (state_of book seen)
        each seen p = elim (begins_or_whole seen on e p) [ inl same ↦ inl (ap (state_of book) same) | inr q ↦ inr (come.each seen q) ]

    all_come : (on es : List Event) → on ++ es ≡ since → HasCome on → AreAllowed allows rules book on es → HasCome since
    all_come on [] is come allowed = subst HasCome (sym (append-nil on) ∙ is) come
    all_come on (e ∷ es) is come allowed =
        all_come (on ++ e ∷ []) es (append_assoc on (e ∷ []) es ∙ is) (one_more on (e ∷ es, is) come e allowed.0) allowed.1

    pub goes_on : BooksLoseNothing → BeginsWhole all opening → (earlier : List LedgerState) → IsPlannedHistory all opening (book ∷ earlier)
        → AreAllowed allows rules book [] since → (now : LedgerState) → now ≡ state_of book since → GoesOn all opening now
    goes_on loses begins earlier history allowed now is =
        let come = all_come [] since refl (none_yet earlier history) allowed in
        subst (GoesOn all opening) (sym is) (record {
          before = come.before;
          history = come.history;
          loses = loses all opening (state_of book since) come.before begins come.history;
        })

pub desks_lose_nothing : (allows : List Event → Planned → Type 0) → BooksLoseNothing → DesksLoseNothing allows
desks_lose_nothing allows loses all opening book now earlier rules parts passes begins history closed jobs =
    goes_on all opening book allows rules closed.since jobs loses begins earlier history closed.allowed now closed.state

-- what a crew's operators plan is planned as jobs
backups_are_jobs : (all : Repository) (settings : SettingsData) (time : List ℕ) (size : ℕ) (book : LedgerState) (since : List Event)
    → IsUtf8 time → size ≤ 8 → MeetsBackups all settings time size book since
    → AllowsJobs (PlansBackup settings time size book) all book since
backups_are_jobs all settings time size book since said few meets seen p within planned =
    let i : ℕ = planned.0 in
    record {
      settings = settings;
      job = backup_of time i;
      text = backup_said time said i (omega (arith, planned.1));
      change = planned.2.0;
      seen = planned.2.1;
      meets = meets.built i seen planned.1 within;
      adds = subst (λ r. IfOk r (AddsPart all)) planned.2.0 (meets.added i seen planned.1 within);
    }

pub crews_lose_nothing : BooksLoseNothing → CrewsLoseNothing
crews_lose_nothing loses all opening book after earlier rules settings time size many last begins history said few crewed meets =
    goes_on all opening book (PlansBackup settings time size book) rules crewed.since
    (backups_are_jobs all settings time size book crewed.since said few meets) loses begins earlier history crewed.planned after crewed.left
