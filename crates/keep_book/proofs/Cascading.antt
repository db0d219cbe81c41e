-- A cascade on its shelf, undo by undo.
use Rattle.std.proofs.Common.{◌≡◌, ◌∙◌, ℕ, ◌+◌, ◌<◌, Bool, true, false, List, [], ◌∷◌, ◌++◌, Option, Some, None, Result, Ok, Err, ◌⊎◌, inl, inr, ap, append-nil, append_assoc, arith, drop, get_or, length, map, refl, subst, sym, take}
use Rattle.std.specs.Prelude.{◌≢◌, if◌then◌else◌, nat_le, unwrap_or}
use Rattle.std.specs.List.{AllByRecursion}
use Rattle.std.proofs.Math.Seq.{drop-append_seam}
use Rattle.std.proofs.lemmas.List.{drop_more, take-append-drop, take_more}
use Rattle.keep_change.specs.Fold.{fold_of}
use Rattle.keep_hooks.specs.Guards.{Rule}
use Rattle.keep_journal.specs.History.{final_number, is_change, is_in_force, length_of}
use Rattle.keep_journal.specs.Journal.{Journal}
use Rattle.keep_shelf.specs.Shelved.{Content, Shelved, risen}
use Rattle.keep_moves.specs.Calls.{Call, Make, looks, played}
use Rattle.keep_moves.specs.Course.{entry_put}
use Rattle.keep_moves.proofs.Erased.{all_append, all_weaker}
use Rattle.keep_reading.specs.Laws.{contents_along}
use Rattle.keep_reading.proofs.Stopping.{calls_added}
use Rattle.keep_touch.specs.Taken.{AreTaken}
use Rattle.keep_touch.specs.Undone.{kept_without, undone_in}
use Rattle.keep_ledger.specs.Ends.{Ends, FaultsAtEntry, FaultsAtMoves, FaultsLast, failures_after, heard}
use Rattle.keep_ledger.specs.LedgerState.{LedgerState}
use Rattle.keep_ledger.specs.Made.{event_of, with_event}
use Rattle.keep_ledger.specs.OnShelf.{OnShelf, entered, looks_for, settled}
use Rattle.keep_ledger.specs.Reply.{RefusesOrTells, Replies, early_refusal, is_full, state_after, told_of}
use Rattle.keep_ledger.specs.Request.{IsFree}
use Rattle.keep_ledger.specs.Stops.{EachCallReads, IsBeforeOrAfter, Says}
use Rattle.keep_ledger.specs.declared.reply.Refusal.{Refusal}
use Rattle.keep_ledger.specs.declared.reply.Refusal.TheVariants.{Unknown, Final, NotInForce, Full, Memory, Fault, Unsettled}
use Rattle.keep_journal.specs.declared.request.Told.{Told}
use Rattle.keep_journal.specs.declared.request.Request.{Request}
use Rattle.keep_journal.specs.declared.request.Request.TheVariants.{Undo}
use Rattle.keep_ledger.proofs.Counted.{faults_counted}
use Rattle.keep_ledger.proofs.Replying.{undo_answers}
use Rattle.keep_book.specs.Cascade.{AreUndone, AsksNothing, EachCallSays, EndsAlong, EndsBefore, FaultsNext, RefusesOrGives, SaysSome, StopsBefore, TakesAlong, TakesDown, count_at, failures_at, taken_refusal, undone_on, with_undos}
use Rattle.keep_book.proofs.Undos.{IsOpenState, accepted_free, accepted_told, events_undone, nothing_leans, others_left, undone_one_more, with_one_more}

-- ---- the ledger on its shelf after some undos

state_on : (b : OnShelf) (ms : List ℕ) → (undone_on b ms).state ≡ with_undos b.state ms
state_on b [] = refl
state_on b (m ∷ ms) = state_on (settled (entered (Undo m) (settled b))) ms

on_one_more : (b : OnShelf) (ms : List ℕ) (m : ℕ) → undone_on b (ms ++ m ∷ []) ≡ settled (entered (Undo m) (settled (undone_on b ms)))
on_one_more b [] m = refl
on_one_more b (k ∷ ms) m = on_one_more (settled (entered (Undo k) (settled b))) ms m

-- no call failed
on_failures : (b : OnShelf) (ms : List ℕ) → (undone_on b ms).shelf.failures ≡ b.shelf.failures
on_failures b [] = refl
on_failures b (m ∷ ms) =
    let next = settled (entered (Undo m) (settled b)) in
    on_failures next ms ∙ faults_counted b next (Undo m) (Ok (told_of b.state.events (Undo m))) refl

-- no move is due
on_due : (b : OnShelf) (m : ℕ) (ms : List ℕ) → (undone_on b (m ∷ ms)).due ≡ []
on_due b m [] = refl
on_due b m (k ∷ ms) = on_due (settled (entered (Undo m) (settled b))) k ms

-- ---- the record of a shelf

-- it grew
abbrev Grew : Shelved → Shelved → Type 0
Grew s t = (more : List Content) × (t.calls ≡ s.calls ++ more)

grew_by : (calls : List Call) (s : Shelved) → Grew s (played calls s)
grew_by calls s = (contents_along calls s.content, calls_added calls s)

grew_then : (s t u : Shelved) → Grew s t → Grew t u → Grew s u
grew_then s t u first later =
    (first.0 ++ later.0, later.1 ∙ ap (λ cs. cs ++ later.0) first.1 ∙ append_assoc s.calls first.0 later.0)

grew_at_moves : (b after : OnShelf) → FaultsAtMoves b after → Grew b.shelf after.shelf
grew_at_moves b after faults =
    subst (λ (a : OnShelf). Grew b.shelf a.shelf) (sym faults.2) (grew_by (map Make (take faults.0 b.due)) b.shelf)

grew_at_entry : (b after : OnShelf) (request : Request) → FaultsAtEntry b request after → Grew b.shelf after.shelf
grew_at_entry b after request faults =
    subst (λ (a : OnShelf). Grew b.shelf a.shelf) (sym faults.2) (grew_by (looks faults.0) b.shelf)

grew_settled : (b after : OnShelf) → after ≡ settled b → Grew b.shelf after.shelf
grew_settled b after same = subst (λ (a : OnShelf). Grew b.shelf a.shelf) (sym same) (grew_by (map Make b.due) b.shelf)

grew_entered : (b : OnShelf) (request : Request) → Grew b.shelf (entered request (settled b)).shelf
grew_entered b request =
    let mid = settled b in
    grew_then b.shelf mid.shelf (entered request mid).shelf (grew_settled b mid refl)
    (grew_by (looks (looks_for mid.state request) ++ Make (entry_put (length_of mid.state.events + 1) (event_of mid.state request)) ∷ []) mid.shelf)

-- so it does whatever is answered
grew_after : (b after : OnShelf) (request : Request) (reply : Result Told Refusal) → Ends b request reply after → Grew b.shelf after.shelf
grew_after b after request (Ok told) ends =
    let it = entered request (settled b) in
    grew_then b.shelf it.shelf after.shelf (grew_entered b request) (grew_settled it after ends)
grew_after b after request (Err Fault) (inl faults) = grew_at_moves b after faults
grew_after b after request (Err Fault) (inr faults) =
    grew_then b.shelf (settled b).shelf after.shelf (grew_settled b (settled b) refl) (grew_at_entry (settled b) after request faults)
grew_after b after request (Err (Unsettled n)) ends =
    let it = entered request (settled b) in
    grew_then b.shelf it.shelf after.shelf (grew_entered b request) (grew_at_moves it after ends.1)
grew_after b after request (Err refusal) ends = grew_settled b after ends

-- it grew by contents of which something holds
pub record Grown (P : Content → Type 0) (s t : Shelved) : Type 0 where
  pub more : List Content
  pub is : t.calls ≡ s.calls ++ more
  pub all : AllByRecursion P more

grown_all : (P : Content → Type 0) (s t : Shelved) → Grown P s t → AllByRecursion P (drop (length s.calls) t.calls)
grown_all P s t grown = subst (AllByRecursion P) (sym (ap (drop (length s.calls)) grown.is ∙ drop-append_seam s.calls grown.more)) grown.all

grown_then : (P Q : Content → Type 0) (s t u : Shelved) → ((content : Content) → Q content → P content) → Grown P s t → Grew t u
    → AllByRecursion Q (drop (length t.calls) u.calls) → Grown P s u
grown_then P Q s t u weaker grown grew all =
    let later : AllByRecursion Q grew.0 = subst (AllByRecursion Q) (ap (drop (length t.calls)) grew.1 ∙ drop-append_seam t.calls grew.0) all in
    record {
      more = grown.more ++ grew.0;
      is = grew.1 ∙ ap (λ cs. cs ++ grew.0) grown.is ∙ append_assoc s.calls grown.more grew.0;
      all = all_append P grown.more grew.0 grown.all (all_weaker Q P weaker grew.0 later);
    }

-- ---- a cascade on its way, and at its end

-- these are taken back to the end
pub record Going (b : OnShelf) (n : ℕ) (front : List ℕ) (now : OnShelf) : Type 0 where
  pub accepted : AreUndone b.state front
  pub shelf : now ≡ undone_on b front
  pub grown : Grown (SaysSome b.state n) b.shelf now.shelf

pub going_begins : (b : OnShelf) (n : ℕ) → Going b n [] b
going_begins b n = record { accepted = tt; shelf = refl; grown = record { more = []; is = sym (append-nil b.shelf.calls); all = tt } }

-- what the book says of the ledger, at an undo
pub record RespondsOn (now : OnShelf) (rules : List Rule) (m : ℕ) (reply : Result Told Refusal) (after : OnShelf) : Type 0 where
  pub replies : reply ≢ Err Fault → Replies now.state rules (Undo m) (heard now.state (Undo m) reply)
  pub ledger : after.state ≡ state_after now.state (Undo m) (heard now.state (Undo m) reply)
  pub ends : Ends now (Undo m) reply after
  pub faults : FaultsLast now rules (Undo m) reply after
  pub stops : EachCallReads now (Undo m) after

-- what is said of a cascade, hooks aside
pub record IsCascade (b : OnShelf) (n : ℕ) (numbers : List ℕ) (stopped : Option Refusal) (after : OnShelf) : Type 0 where
  pub along : TakesAlong b.state.events n numbers stopped
  pub accepted : AreUndone b.state numbers
  pub ledger : after.state ≡ with_undos b.state numbers
  pub others : after.state.live ≡ fold_of (kept_without b.state.events numbers) b.state.opening
  pub ends : EndsAlong b n numbers stopped after
  pub faults : FaultsNext b numbers stopped after
  pub failures : after.shelf.failures ≡ failures_at stopped b.shelf.failures
  pub stops : EachCallSays b n after

-- what is said of a cascade holds of a list and a reason that equal its own
pub as_told : (b : OnShelf) (n : ℕ) (numbers : List ℕ) (stopped : Option Refusal) (told : List ℕ) (said : Option Refusal) (after : OnShelf)
    → told ≡ numbers → said ≡ stopped → IsCascade b n numbers stopped after → IsCascade b n told said after
as_told b n numbers stopped told said after is_told is_said cascade =
    subst (λ ns. IsCascade b n ns said after) (sym is_told) (subst (λ s. IsCascade b n numbers s after) (sym is_said) cascade)

others_as : (b : OnShelf) (numbers : List ℕ) (after : OnShelf) → IsOpenState b.state → AreUndone b.state numbers → after.state ≡ with_undos b.state numbers
    → after.state.live ≡ fold_of (kept_without b.state.events numbers) b.state.opening
others_as b numbers after is accepted ledger = ap (λ (l : LedgerState). l.live) ledger ∙ others_left b.state numbers is accepted

-- ---- nothing is asked

-- what holds of each refusal that comes of change n alone, and of want of memory
at_once : (P : Refusal → Type 0) (j : Journal) (n : ℕ) → P Unknown → P Final → P NotInForce → P Memory → P (unwrap_or (taken_refusal j n) Memory)
at_once P j n unknown final undone memory = split (is_change j n) refl (nat_le n (final_number j)) refl (is_in_force j n) refl where
  split : (k : Bool) → is_change j n ≡ k → (f : Bool) → nat_le n (final_number j) ≡ f → (i : Bool) → is_in_force j n ≡ i → P (unwrap_or (taken_refusal j n) Memory)
  split false k f fe i ie = rw k unknown
  split true k true fe i ie = rw (k, fe) final
  split true k false fe false ie = rw (k, fe, ie) undone
  split true k false fe true ie = rw (k, fe, ie) memory

pub nothing_asked : (b : OnShelf) (n : ℕ) (numbers : List ℕ) (stopped : Option Refusal) → IsOpenState b.state
    → AsksNothing b.state.events n numbers stopped → IsCascade b n numbers stopped b
nothing_asked b n numbers stopped is asks =
    let accepted : AreUndone b.state numbers = subst (AreUndone b.state) (sym asks.0) tt in
    let ledger : b.state ≡ with_undos b.state numbers = ap (with_undos b.state) (sym asks.0) in
    record {
      along = inl asks;
      accepted = accepted;
      ledger = ledger;
      others = others_as b numbers b is accepted ledger;
      ends = inl (asks, refl);
      faults = λ fault. absurd
          (at_once (λ refusal. refusal ≢ Fault) b.state.events n (λ e. cc e) (λ e. cc e) (λ e. cc e) (λ e. cc e)
          (let same : Some (unwrap_or (taken_refusal b.state.events n) Memory) ≡ Some Fault = sym asks.1 ∙ fault in cc same));
      failures =
          subst (λ s. b.shelf.failures ≡ failures_at s b.shelf.failures) (sym asks.1)
          (at_once (λ refusal. b.shelf.failures ≡ failures_at (Some refusal) b.shelf.failures) b.state.events n refl refl refl refl);
      stops = grown_all (SaysSome b.state n) b.shelf b.shelf (going_begins b n).grown;
    }

-- ---- one undo more

refused_why : (full : Bool) (told : Told) (refusal : Refusal) → RefusesOrTells (if full then Some Full else None) told (Err refusal)
    → refusal ≡ (if full then Full else Memory)
refused_why true told refusal said = cc said
refused_why false told refusal (inl said) = cc said
refused_why false told refusal (inr said) = cc said

room_where_free : (full : Bool) → (if full then Some Full else None) ≡ None → full ≡ false
room_where_free true none = cc none
room_where_free false none = refl

-- a move that was due was due at the start: later none is
due_at_start : (b now after : OnShelf) (front : List ℕ) → now ≡ undone_on b front → FaultsAtMoves now after → FaultsAtMoves b after
due_at_start b now after [] same faults = subst (λ x. FaultsAtMoves x after) same faults
due_at_start b now after (k ∷ ks) same faults =
    let none : length now.due ≡ 0 = ap (λ (x : OnShelf). length x.due) same ∙ ap length (on_due b k ks) in
    absurd (omega (arith, faults.1, none))

module _ (b : OnShelf) (n : ℕ) (is : IsOpenState b.state) (free : taken_refusal b.state.events n ≡ None) where
  -- all are taken back
  pub all_taken : (all : List ℕ) (now : OnShelf) → AreTaken b.state.events n all → Going b n all now → IsCascade b n all None now
  all_taken all now taken going =
      let takes : TakesDown b.state.events n all None = record {
        free = free;
        left = [];
        taken = subst (AreTaken b.state.events n) (sym (append-nil all)) taken;
        stops = refl;
      } in
      let ledger : now.state ≡ with_undos b.state all = ap (λ (x : OnShelf). x.state) going.shelf ∙ state_on b all in
      record {
        along = inr takes;
        accepted = going.accepted;
        ledger = ledger;
        others = others_as b all now is going.accepted ledger;
        ends = inr (record { takes = takes; ends = going.shelf });
        faults = λ fault. cc fault;
        failures = ap (λ (x : OnShelf). x.shelf.failures) going.shelf ∙ on_failures b all;
        stops = grown_all (SaysSome b.state n) b.shelf now.shelf going.grown;
      }

  module _ (front : List ℕ) (m : ℕ) (rest : List ℕ) (taken : AreTaken b.state.events n (front ++ m ∷ rest))
      (now : OnShelf) (going : Going b n front now) (rules : List Rule) (after : OnShelf) where
    state_now : now.state ≡ with_undos b.state front
    state_now = ap (λ (x : OnShelf). x.state) going.shelf ∙ state_on b front

    failures_now : now.shelf.failures ≡ b.shelf.failures
    failures_now = ap (λ (x : OnShelf). x.shelf.failures) going.shelf ∙ on_failures b front

    -- the taken ones, with m among those in front
    taken_more : AreTaken b.state.events n ((front ++ m ∷ []) ++ rest)
    taken_more = subst (AreTaken b.state.events n) (sym (append_assoc front (m ∷ []) rest)) taken

    state_more : with_event now.state (Undo m) ≡ with_undos b.state (front ++ m ∷ [])
    state_more = ap (λ l. with_event l (Undo m)) state_now ∙ sym (with_one_more b.state front m)

    says : (content : Content) → IsBeforeOrAfter now.state (Undo m) content → SaysSome b.state n content
    says content (inl it) =
        record { front = front; left = m ∷ rest; taken = taken; says = subst (λ l. Says l content) state_now it }
    says content (inr it) =
        record { front = front ++ m ∷ []; left = rest; taken = taken_more; says = subst (λ l. Says l content) state_more it }

    grown_now : (reply : Result Told Refusal) → RespondsOn now rules m reply after → Grown (SaysSome b.state n) b.shelf after.shelf
    grown_now reply answers =
        grown_then (SaysSome b.state n) (IsBeforeOrAfter now.state (Undo m)) b.shelf now.shelf after.shelf says going.grown
        (grew_after now after (Undo m) reply answers.ends) answers.stops

    accepted_more : (t : Told) → Replies now.state rules (Undo m) (Ok t) → AreUndone b.state (front ++ m ∷ [])
    accepted_more t replies =
        undone_one_more b.state front m going.accepted
        (subst (λ (l : LedgerState). Replies l [] (Undo m) (Ok (told_of l.events (Undo m)))) state_now (accepted_told now.state rules m t replies))

    -- it is told: one more is taken back
    pub one_more : (t : Told) → RespondsOn now rules m (Ok t) after → Going b n (front ++ m ∷ []) after
    one_more t answers = record {
      accepted = accepted_more t (answers.replies (λ e. cc e));
      shelf = answers.ends ∙ ap (λ x. settled (entered (Undo m) (settled x))) going.shelf ∙ sym (on_one_more b front m);
      grown = grown_now (Ok t) answers;
    }

    -- it is unsettled: it is taken back, and the last
    pub last_unsettled : (k : ℕ) → RespondsOn now rules m (Err (Unsettled k)) after → IsCascade b n (front ++ m ∷ []) (Some (Unsettled k)) after
    last_unsettled k answers =
        let itself : m ≡ k = sym answers.ends.0 in
        let last : front ++ m ∷ [] ≡ front ++ k ∷ [] = ap (λ x. front ++ x ∷ []) itself in
        let takes : TakesDown b.state.events n (front ++ m ∷ []) (Some (Unsettled k)) = record {
          free = free;
          left = rest;
          taken = taken_more;
          stops = (front, last);
        } in
        let accepted = accepted_more (told_of now.state.events (Undo m)) (answers.replies (λ e. cc e)) in
        let ledger : after.state ≡ with_undos b.state (front ++ m ∷ []) = answers.ledger ∙ state_more in
        record {
          along = inr takes;
          accepted = accepted;
          ledger = ledger;
          others = others_as b (front ++ m ∷ []) after is accepted ledger;
          ends = inr (record {
            takes = takes;
            ends = (
              front,
              last,
              subst (λ x. Ends x (Undo k) (Err (Unsettled k)) after) going.shelf
                  (subst (λ x. Ends now (Undo x) (Err (Unsettled k)) after) itself answers.ends),
            );
          });
          faults = λ fault. cc fault;
          failures = faults_counted now after (Undo m) (Err (Unsettled k)) answers.ends ∙ ap risen failures_now;
          stops = grown_all (SaysSome b.state n) b.shelf after.shelf (grown_now (Err (Unsettled k)) answers);
        }

    -- nothing leans on it
    early : early_refusal now.state (Undo m) ≡ (if is_full (undone_in b.state.events front) then Some Full else None)
    early = ap (λ l. early_refusal l (Undo m)) state_now ∙ nothing_leans b.state n front m rest is free taken going.accepted

    why_plain : (refusal : Refusal) → Replies now.state rules (Undo m) (Err refusal)
        → refusal ≡ (if is_full (undone_in b.state.events front) then Full else Memory)
    why_plain refusal replies =
        refused_why (is_full (undone_in b.state.events front)) (told_of now.state.events (Undo m)) refusal
        (subst (λ r. RefusesOrTells r (told_of now.state.events (Undo m)) (Err refusal)) early (undo_answers now.state rules m (Err refusal) replies))

    faults_next : (refusal : Refusal) → RespondsOn now rules m (Err refusal) after → FaultsNext b front (Some refusal) after
    faults_next refusal answers fault =
        let same : ◌≡◌ {A = Result Told Refusal} (Err refusal) (Err Fault) = (let it : refusal ≡ Fault = cc fault in ap Err it) in
        by (answers.faults same)
      where
        by : FaultsAtMoves now after ⊎ Replies now.state rules (Undo m) (Ok (told_of now.state.events (Undo m)))
            → FaultsAtMoves b after ⊎ (is_full (undone_in b.state.events front) ≡ false)
        by (inl faults) = inl (due_at_start b now after front going.shelf faults)
        by (inr replies) =
            inr (room_where_free (is_full (undone_in b.state.events front))
            (sym early ∙ accepted_free now.state rules m (told_of now.state.events (Undo m)) replies))

    -- it isn't taken back
    not_taken : (refusal : Refusal) → RespondsOn now rules m (Err refusal) after → after.state ≡ now.state
        → StopsBefore b.state.events front (m ∷ rest) (Some refusal) → EndsBefore b front (m ∷ rest) (Some refusal) after
        → IsCascade b n front (Some refusal) after
    not_taken refusal answers same stops ends =
        let takes : TakesDown b.state.events n front (Some refusal) = record { free = free; left = m ∷ rest; taken = taken; stops = stops } in
        let ledger : after.state ≡ with_undos b.state front = same ∙ state_now in
        record {
          along = inr takes;
          accepted = going.accepted;
          ledger = ledger;
          others = others_as b front after is going.accepted ledger;
          ends = inr (record { takes = takes; ends = ends });
          faults = faults_next refusal answers;
          failures = faults_counted now after (Undo m) (Err refusal) answers.ends ∙ ap (failures_after (Err refusal)) failures_now;
          stops = grown_all (SaysSome b.state n) b.shelf after.shelf (grown_now (Err refusal) answers);
        }

    -- it is refused
    pub next_refused : (refusal : Refusal) → ((k : ℕ) → refusal ≢ Unsettled k) → RespondsOn now rules m (Err refusal) after
        → IsCascade b n front (Some refusal) after
    next_refused (Unsettled k) other answers = absurd (other k refl)
    next_refused Fault other answers =
        not_taken Fault answers answers.ledger (λ e. cc e, inl refl)
        (m, rest, refl, subst (λ x. Ends x (Undo m) (Err Fault) after) going.shelf answers.ends)
    next_refused refusal other answers =
        not_taken refusal answers answers.ledger (λ e. cc e, inr (why_plain refusal (answers.replies (λ e. cc e))))
        (m, rest, refl, subst (λ x. Ends x (Undo m) (Err refusal) after) going.shelf answers.ends)

  -- ---- the list, as far as it was gone through

  module _ (all : List ℕ) (taken : AreTaken b.state.events n all) (done m : ℕ) (within : done < length all) (is_m : m ≡ get_or all done m)
      (now : OnShelf) (going : Going b n (take done all) now) (rules : List Rule) (after : OnShelf) where
    cut : AreTaken b.state.events n (take done all ++ m ∷ drop (done + 1) all)
    cut =
        subst (AreTaken b.state.events n)
        (sym (take-append-drop done all) ∙ ap (λ xs. take done all ++ xs) (drop_more all done m within ∙ ap (λ x. x ∷ drop (done + 1) all) (sym is_m)))
        taken

    more : take (done + 1) all ≡ take done all ++ m ∷ []
    more = take_more all done m within ∙ ap (λ x. take done all ++ x ∷ []) (sym is_m)

    pub goes_on : (t : Told) → RespondsOn now rules m (Ok t) after → Going b n (take (done + 1) all) after
    goes_on t responds =
        subst (λ ns. Going b n ns after) (sym more) (one_more (take done all) m (drop (done + 1) all) cut now going rules after t responds)

    pub stops_there : (refusal : Refusal) → RespondsOn now rules m (Err refusal) after
        → IsCascade b n (take (count_at done refusal) all) (Some refusal) after
    stops_there (Unsettled k) responds =
        subst (λ ns. IsCascade b n ns (Some (Unsettled k)) after) (sym more)
        (last_unsettled (take done all) m (drop (done + 1) all) cut now going rules after k responds)
    stops_there refusal responds =
        next_refused (take done all) m (drop (done + 1) all) cut now going rules after refusal (λ k e. cc e) responds

  -- nothing leans on the next one
  pub next_is_free : (all : List ℕ) (taken : AreTaken b.state.events n all) (done m : ℕ) (within : done < length all) (is_m : m ≡ get_or all done m)
      (now : OnShelf) (going : Going b n (take done all) now) → IsFree now.state (Undo m)
  next_is_free all taken done m within is_m now going =
      let front = take done all in
      let rest = drop (done + 1) all in
      let events : now.state.events ≡ undone_in b.state.events front =
      ap (λ (x : OnShelf). x.state.events) going.shelf ∙ ap (λ (l : LedgerState). l.events) (state_on b front)
      ∙ events_undone b.state front in
      record {
        formed = tt;
        refusal =
            early front m rest (cut all taken done m within is_m now going [] now) now going [] now
            ∙ ap (λ j. if is_full j then Some Full else None) (sym events);
      }

-- ---- what `taken` answers

pub gives : {A : Type 0} (o : Option Refusal) (good : A → Type 0) (given : A) → RefusesOrGives o good (Ok given) → (o ≡ None) × good given
gives None good given is = (refl, is)
gives (Some refusal) good given is = cc is

pub refuses : {A : Type 0} (o : Option Refusal) (good : A → Type 0) (refusal : Refusal) → RefusesOrGives o good (Err refusal) → refusal ≡ unwrap_or o Memory
refuses None good refusal is = is
refuses (Some other) good refusal is = cc is
