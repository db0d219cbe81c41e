-- A change that is taken back at a desk with what leans on it, undo by undo.
use Rattle.std.proofs.Common.{◌≡◌, ◌∙◌, ℕ, ◌+◌, ◌<◌, Bool, true, false, List, [], ◌∷◌, ◌++◌, Option, Some, None, Ok, Err, inl, inr, ap, append-nil, append_assoc, drop, get_or, length, map, refl, subst, sym, take}
use Rattle.std.specs.Prelude.{◌≢◌, if◌then◌else◌, unwrap_or}
use Rattle.std.proofs.lemmas.List.{drop_more, map-append, take-append-drop, take_more}
use Rattle.std.proofs.lemmas.List.Sums.{fold-append}
use Rattle.keep_hooks.specs.Guards.{Rule}
use Rattle.keep_journal.specs.Event.{undoing}
use Rattle.keep_journal.specs.declared.event.Event.{Event}
use Rattle.keep_touch.specs.Taken.{AreTaken}
use Rattle.keep_touch.specs.Undone.{undone_in}
use Rattle.keep_ledger.specs.LedgerState.{LedgerState}
use Rattle.keep_ledger.specs.Made.{with_event}
use Rattle.keep_ledger.specs.Reply.{RefusesOrTells, Replies, early_refusal, is_full, told_of}
use Rattle.keep_ledger.specs.declared.reply.Refusal.{Refusal}
use Rattle.keep_ledger.specs.declared.reply.Refusal.TheVariants.{Fault, Full, Memory, Unsettled}
use Rattle.keep_journal.specs.declared.request.Told.{Told}
use Rattle.keep_journal.specs.declared.request.Request.TheVariants.{Undo}
use Rattle.keep_ledger.proofs.Replying.{undo_answers}
use Rattle.keep_book.specs.Cascade.{AreUndone, StopsBefore, TakesDown, count_at, taken_refusal, with_undos}
use Rattle.keep_book.proofs.Undos.{accepted_told, nothing_leans, undone_one_more}
use Rattle.keep_pages.specs.Histories.{state_of, state_with, IsHistory}
use Rattle.keep_pages.proofs.Following.{open_at}
use Rattle.keep_crew.specs.Answered.{Tells}
use Rattle.keep_desk.specs.Cascade.{GoesDown, refusal_of}
use Rattle.keep_crew.specs.declared.answers.DeskError.{DeskError}
use Rattle.keep_crew.specs.declared.answers.DeskError.TheVariants.{Late, Refused}

-- ---- undos, and the events that tell them

undos_told : (b : LedgerState) (ms : List ℕ) → state_of b (map undoing ms) ≡ with_undos b ms
undos_told b [] = refl
undos_told b (m ∷ ms) = undos_told (with_event b (Undo m)) ms

-- what they leave behind other events
state_undone : (opening : LedgerState) (on : List Event) (ms : List ℕ)
    → state_of opening (on ++ map undoing ms) ≡ with_undos (state_of opening on) ms
state_undone opening on ms = fold-append state_with opening on (map undoing ms) ∙ undos_told (state_of opening on) ms

-- one more
undos_more : (on : List Event) (ms : List ℕ) (m : ℕ) → (on ++ map undoing ms) ++ undoing m ∷ [] ≡ on ++ map undoing (ms ++ m ∷ [])
undos_more on ms m =
    append_assoc on (map undoing ms) (undoing m ∷ []) ∙ ap (λ es. on ++ es) (sym (map-append undoing ms (m ∷ [])))

-- ---- why the next one isn't taken back

why : (o : Option Refusal) (told : Told) (refusal : Refusal) → RefusesOrTells o told (Err refusal) → refusal ≡ unwrap_or o Memory
why (Some other) told refusal said = cc said
why None told refusal (inl said) = cc said
why None told refusal (inr said) = cc said

full_or_memory : (full : Bool) → unwrap_or (if full then Some Full else None) Memory ≡ (if full then Full else Memory)
full_or_memory true = refl
full_or_memory false = refl

-- ---- on the way

-- these are taken back, and nothing else came behind the events `on`
pub record Going (opening : LedgerState) (on : List Event) (front : List ℕ) (now : List Event) : Type 0 where
  pub accepted : AreUndone (state_of opening on) front
  pub events : now ≡ on ++ map undoing front

-- a cascade that goes down so does it with a list and a reason that equal its own
pub as_told : (opening : LedgerState) (n : ℕ) (on : List Event) (numbers : List ℕ) (stopped : Option DeskError) (told : List ℕ)
    (said : Option DeskError) (seen : List Event) → told ≡ numbers → said ≡ stopped → GoesDown opening n on numbers stopped seen
    → GoesDown opening n on told said seen
as_told opening n on numbers stopped told said seen is_told is_said goes =
    subst (λ ns. GoesDown opening n on ns said seen) (sym is_told) (subst (λ s. GoesDown opening n on numbers s seen) (sym is_said) goes)

-- no undo is asked for
pub asks_nothing : (opening : LedgerState) (n : ℕ) (on : List Event) (numbers : List ℕ) (stopped : Option DeskError) (refusal : Refusal)
    (seen : List Event) → numbers ≡ [] → stopped ≡ Some (Refused refusal)
    → refusal ≡ unwrap_or (taken_refusal (state_of opening on).events n) Memory → seen ≡ on → GoesDown opening n on numbers stopped seen
asks_nothing opening n on numbers stopped refusal seen none is why same =
    as_told opening n on [] (Some (Refused refusal)) numbers stopped seen none is
    (record { along = inl (refl, ap Some why); accepted = tt; sees = same ∙ sym (append-nil on) })

module _ (rules : List Rule) (opening : LedgerState) (n : ℕ) (on : List Event) (history : IsHistory rules opening on)
    (free : taken_refusal (state_of opening on).events n ≡ None) where
  abbrev b : LedgerState
  b = state_of opening on

  -- all are taken back
  pub all_taken : (all : List ℕ) (now : List Event) → AreTaken b.events n all → Going opening on all now → GoesDown opening n on all None now
  all_taken all now taken going =
      let takes : TakesDown b.events n all None = record {
        free = free;
        left = [];
        taken = subst (AreTaken b.events n) (sym (append-nil all)) taken;
        stops = refl;
      } in
      record { along = inr takes; accepted = going.accepted; sees = going.events }

  module _ (front : List ℕ) (m : ℕ) (rest : List ℕ) (taken : AreTaken b.events n (front ++ m ∷ rest)) (now : List Event)
      (going : Going opening on front now) where
    state_now : state_of opening now ≡ with_undos b front
    state_now = ap (state_of opening) going.events ∙ state_undone opening on front

    accepted_more : Replies (state_of opening now) rules (Undo m) (Ok (told_of (state_of opening now).events (Undo m)))
        → AreUndone b (front ++ m ∷ [])
    accepted_more replies =
        undone_one_more b front m going.accepted
        (subst (λ (l : LedgerState). Replies l [] (Undo m) (Ok (told_of l.events (Undo m)))) state_now
        (accepted_told (state_of opening now) rules m (told_of (state_of opening now).events (Undo m)) replies))

    -- it is told: one more is taken back
    one_more : (t : Told) (seen : List Event) → Tells rules opening (Undo m) (Ok t) now seen → Going opening on (front ++ m ∷ []) seen
    one_more t seen tells = record {
      accepted = accepted_more tells.0.0;
      events = tells.0.1 ∙ (ap (λ es. es ++ undoing m ∷ []) going.events ∙ undos_more on front m);
    }

    -- it is in, and the last
    takes_last : (k : ℕ) → k ≡ m → TakesDown b.events n (front ++ m ∷ []) (Some (Unsettled k))
    takes_last k is_k = record {
      free = free;
      left = rest;
      taken = subst (AreTaken b.events n) (sym (append_assoc front (m ∷ []) rest)) taken;
      stops = (front, ap (λ x. front ++ x ∷ []) (sym is_k));
    }

    last_late : (k : ℕ) (seen : List Event) → Tells rules opening (Undo m) (Err (Late k)) now seen
        → GoesDown opening n on (front ++ m ∷ []) (Some (Late k)) seen
    last_late k seen tells = record {
      along = inr (takes_last k tells.1);
      accepted = accepted_more tells.0;
      sees = (front, ap (λ x. front ++ x ∷ []) (sym tells.1), tells.2 ∙ going.events);
    }

    last_unsettled : (k : ℕ) (seen : List Event) → Tells rules opening (Undo m) (Err (Refused (Unsettled k))) now seen
        → GoesDown opening n on (front ++ m ∷ []) (Some (Refused (Unsettled k))) seen
    last_unsettled k seen tells = record {
      along = inr (takes_last k tells.1);
      accepted = accepted_more tells.0.0;
      sees = tells.0.1 ∙ (ap (λ es. es ++ undoing m ∷ []) going.events ∙ undos_more on front m);
    }

    -- nothing leans on it
    why_next : (refusal : Refusal) → Replies (state_of opening now) rules (Undo m) (Err refusal)
        → refusal ≡ (if is_full (undone_in b.events front) then Full else Memory)
    why_next refusal replies =
        let now_is = state_of opening now in
        let told = told_of now_is.events (Undo m) in
        let early : early_refusal now_is (Undo m) ≡ (if is_full (undone_in b.events front) then Some Full else None) =
        ap (λ l. early_refusal l (Undo m)) state_now
        ∙ nothing_leans b n front m rest (open_at rules opening on history.begins history.legal) free taken going.accepted in
        why (early_refusal now_is (Undo m)) told refusal (undo_answers now_is rules m (Err refusal) replies)
        ∙ (ap (λ o. unwrap_or o Memory) early ∙ full_or_memory (is_full (undone_in b.events front)))

    -- it isn't taken back
    not_taken : (refusal : Refusal) (seen : List Event) → StopsBefore b.events front (m ∷ rest) (Some refusal)
        → seen ≡ now → GoesDown opening n on front (Some (Refused refusal)) seen
    not_taken refusal seen stops same =
        let takes : TakesDown b.events n front (Some refusal) = record { free = free; left = m ∷ rest; taken = taken; stops = stops } in
        record { along = inr takes; accepted = going.accepted; sees = same ∙ going.events }

    next_refused : (refusal : Refusal) → ((k : ℕ) → refusal ≢ Unsettled k) → (seen : List Event)
        → Tells rules opening (Undo m) (Err (Refused refusal)) now seen → GoesDown opening n on front (Some (Refused refusal)) seen
    next_refused (Unsettled k) other seen tells = absurd (other k refl)
    next_refused Fault other seen tells = not_taken Fault seen (λ e. cc e, inl refl) tells
    next_refused refusal other seen tells = not_taken refusal seen (λ e. cc e, inr (why_next refusal tells.0)) tells.1

  -- ---- the list, as far as it was gone through

  module _ (all : List ℕ) (taken : AreTaken b.events n all) (done m : ℕ) (within : done < length all) (is_m : m ≡ get_or all done m)
      (now : List Event) (going : Going opening on (take done all) now) where
    cut : AreTaken b.events n (take done all ++ m ∷ drop (done + 1) all)
    cut =
        subst (AreTaken b.events n)
        (sym (take-append-drop done all) ∙ ap (λ xs. take done all ++ xs) (drop_more all done m within ∙ ap (λ x. x ∷ drop (done + 1) all) (sym is_m)))
        taken

    more : take (done + 1) all ≡ take done all ++ m ∷ []
    more = take_more all done m within ∙ ap (λ x. take done all ++ x ∷ []) (sym is_m)

    pub goes_on : (t : Told) (seen : List Event) → Tells rules opening (Undo m) (Ok t) now seen → Going opening on (take (done + 1) all) seen
    goes_on t seen tells =
        subst (λ ns. Going opening on ns seen) (sym more) (one_more (take done all) m (drop (done + 1) all) cut now going t seen tells)

    pub stops_there : (error : DeskError) (seen : List Event) → Tells rules opening (Undo m) (Err error) now seen
        → GoesDown opening n on (take (count_at done (refusal_of error)) all) (Some error) seen
    stops_there (Late k) seen tells =
        subst (λ ns. GoesDown opening n on ns (Some (Late k)) seen) (sym more)
        (last_late (take done all) m (drop (done + 1) all) cut now going k seen tells)
    stops_there (Refused (Unsettled k)) seen tells =
        subst (λ ns. GoesDown opening n on ns (Some (Refused (Unsettled k))) seen) (sym more)
        (last_unsettled (take done all) m (drop (done + 1) all) cut now going k seen tells)
    stops_there (Refused refusal) seen tells =
        next_refused (take done all) m (drop (done + 1) all) cut now going refusal (λ k e. cc e) seen tells
