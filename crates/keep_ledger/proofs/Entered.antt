-- What is left once the event of a request is in: the ledger over it, and a shelf that is behind by the event's moves.
use Rattle.std.proofs.Common.{◌≡◌, ℕ, ◌+◌, List, [], arith, refl, sym, ap, ◌∙◌, subst}
use Rattle.std.specs.FinMap as finite
use Rattle.std.specs.Option.{option_map_or}
use Rattle.keep_repo.specs.Repository.{Repository}
use Rattle.keep_change.specs.Halves.{turned}
use Rattle.keep_change.specs.Marks.{marks_of}
use Rattle.keep_change.specs.Result.{result_of}
use Rattle.keep_change.specs.declared.turn.Turn.TheVariants as turn
use Rattle.keep_journal.specs.Event.{redoing, undoing}
use Rattle.keep_journal.specs.History.{ComesNext, last_change, length_of}
use Rattle.keep_journal.specs.Journal.{Journal, posted}
use Rattle.keep_journal.specs.Opening.{IsOpen, opening_under}
use Rattle.keep_journal.specs.declared.event.Entry.{Entry}
use Rattle.keep_journal.specs.declared.event.Event.{Event}
use Rattle.keep_shelf.specs.Shelved.{Shelved}
use Rattle.keep_shelf.specs.declared.key.Key.TheVariants as key
use Rattle.keep_entries.specs.Entry.{Fits as FitsEntry}
use Rattle.keep_entries.specs.Spelling.{entry_text}
use Rattle.keep_moves.specs.Behind.{IsBehind}
use Rattle.keep_moves.specs.Calls.{Make, looks, played}
use Rattle.keep_moves.specs.Course.{entry_put, looks_of, with_entry}
use Rattle.keep_moves.specs.Laws.{EntriesStand, IsBegun, IsSettled}
use Rattle.keep_moves.specs.Lists.{moves_of}
use Rattle.keep_moves.specs.Move.{Stand}
use Rattle.keep_moves.specs.declared.moves.Move.{Move}
use Rattle.keep_moves.proofs.Begun.{commit_begun, redo_begun, undo_begun}
use Rattle.keep_moves.proofs.Emptied.{empty_begun}
use Rattle.keep_moves.proofs.Played.{calls_more, put_stands, reads_leave}
use Rattle.keep_reading.specs.Due.{IsRead}
use Rattle.keep_reading.proofs.Begins.{event_begins}
use Rattle.keep_reading.proofs.Emptied.{emptying_begins}
use Rattle.keep_touch.specs.Mentions.{AreNoted}
use Rattle.keep_touch.specs.declared.touch.Touch.{Touch}
use Rattle.keep_ledger.specs.Entering.{CanTurnFor, live_after, written_on}
use Rattle.keep_ledger.specs.LedgerState.{LedgerState, ledger_of_live}
use Rattle.keep_ledger.specs.Made.{event_of, opening_after, with_event}
use Rattle.keep_ledger.specs.OnShelf.{IsKept, entered, ledger_on}
use Rattle.keep_ledger.specs.Request.{CanBeMade}
use Rattle.keep_journal.specs.declared.request.Request.{Request}
use Rattle.keep_journal.specs.declared.request.Request.TheVariants.{Commit, Undo, Redo, Empty}
use Rattle.keep_ledger.proofs.Asking.{fits}
use Rattle.keep_ledger.proofs.Doing.{IsMade, made-Commit, made-Empty, made-Redo, made-Undo, once, ready-Commit, ready-Redo, ready-Undo}
use Rattle.keep_ledger.proofs.Reading.{told_stand}
use Rattle.keep_ledger.proofs.Replying.{can_empty}
use Rattle.keep_ledger.proofs.Steps.{opening_told, written_back}

module _ (b : LedgerState) (is : IsOpen b.opening b.events b.live) where
  -- the live repository can be changed as the request's event says
  pub can_turn : (request : Request) → CanBeMade b request → CanTurnFor b.events (event_of b request) b.live
  can_turn (Commit p) can_be = record { once = can_be.begins.formed.once; ready = ready-Commit b is p can_be }
  can_turn (Undo n) can_be = λ c found. record { once = once b is n c found; ready = ready-Undo b is n c can_be found }
  can_turn (Redo n) can_be = λ c found. record { once = once b is n c found; ready = ready-Redo b is n c can_be found }
  can_turn (Empty n) can_be = tt

  -- and this makes the ledger with the event
  pub made : (request : Request) → CanBeMade b request → IsMade b request (live_after b.events (event_of b request) b.live)
  made (Commit p) can_be = made-Commit b is p can_be
  made (Undo n) can_be =
      let m = made-Undo b is n can_be in
      subst (λ o. IsMade b (Undo n) (option_map_or (λ c. result_of (turned turn.TakeBack c) b.live) o b.live)) (sym m.1) m.2
  made (Redo n) can_be =
      let m = made-Redo b is n can_be in
      subst (λ o. IsMade b (Redo n) (option_map_or (λ c. result_of (turned turn.Make c) b.live) o b.live)) (sym m.1) m.2
  made (Empty n) can_be = made-Empty b is n can_be

  comes_next : (request : Request) → CanBeMade b request → ComesNext b.events (record { at = length_of b.events + 1; event = event_of b request })
  comes_next request can_be = record { above = omega arith; fits = fits b request can_be.begins }

  -- once its entry is put where no move was due, its moves can be made, and lead to what the event says
  pub begun : (request : Request) (stand : Stand) → CanBeMade b request → IsSettled b.events b.live stand → EntriesStand b.events stand
      → IsBegun b.events (length_of b.events + 1) (event_of b request) (live_after b.events (event_of b request) b.live) stand
  begun (Commit p) stand can_be settled there =
      commit_begun b.events (length_of b.events + 1) (last_change b.events + 1) p.change b.live stand is.numbered (comes_next (Commit p) can_be)
      can_be.begins.formed.once (ready-Commit b is p can_be) settled
  begun (Undo n) stand can_be settled there =
      let m = made-Undo b is n can_be in
      subst (λ o. IsBegun b.events (length_of b.events + 1) (undoing n) (option_map_or (λ c. result_of (turned turn.TakeBack c) b.live) o b.live) stand) (sym m.1)
      (undo_begun b.events (length_of b.events + 1) n m.0 b.live stand is.numbered (comes_next (Undo n) can_be) m.1
      (once b is n m.0 m.1) (ready-Undo b is n m.0 can_be m.1) settled)
  begun (Redo n) stand can_be settled there =
      let m = made-Redo b is n can_be in
      subst (λ o. IsBegun b.events (length_of b.events + 1) (redoing n) (option_map_or (λ c. result_of (turned turn.Make c) b.live) o b.live) stand) (sym m.1)
      (redo_begun b.events (length_of b.events + 1) n m.0 b.live stand is.numbered (comes_next (Redo n) can_be) m.1
      (once b is n m.0 m.1) (ready-Redo b is n m.0 can_be m.1) settled)
  begun (Empty n) stand can_be settled there =
      empty_begun b.events (length_of b.events + 1) n (marks_of (opening_after b (Empty n))) b.live stand is.legal (comes_next (Empty n) can_be)
      (can_empty b.events n can_be.begins.free).above (λ k d within. (is.formed k d within).once) there settled

  -- and what stands there then says so, where it said what was so before
  pub read_begun : (request : Request) (stand : Stand) → CanBeMade b request → IsSettled b.events b.live stand → FitsEntry (event_of b request) → IsRead b.opening b.events [] stand
      → IsRead (opening_after b request) (posted b.events (length_of b.events + 1) (event_of b request)) (moves_of b.events (event_of b request)) (with_entry (length_of b.events + 1) (event_of b request) stand)
  read_begun (Commit p) stand can_be settled fit read =
      event_begins b.opening (live_after b.events (event_of b (Commit p)) b.live) b.events (length_of b.events + 1) (event_of b (Commit p)) stand refl is.legal (comes_next (Commit p) can_be) fit
      (made (Commit p) can_be) (begun (Commit p) stand can_be settled (told_stand stand b.opening b.events read.reads)) read
  read_begun (Undo n) stand can_be settled fit read =
      event_begins b.opening (live_after b.events (event_of b (Undo n)) b.live) b.events (length_of b.events + 1) (event_of b (Undo n)) stand refl is.legal (comes_next (Undo n) can_be) fit
      (made (Undo n) can_be) (begun (Undo n) stand can_be settled (told_stand stand b.opening b.events read.reads)) read
  read_begun (Redo n) stand can_be settled fit read =
      event_begins b.opening (live_after b.events (event_of b (Redo n)) b.live) b.events (length_of b.events + 1) (event_of b (Redo n)) stand refl is.legal (comes_next (Redo n) can_be) fit
      (made (Redo n) can_be) (begun (Redo n) stand can_be settled (told_stand stand b.opening b.events read.reads)) read
  read_begun (Empty n) stand can_be settled fit read =
      emptying_begins b.opening (opening_after b (Empty n)) b.live b.events (length_of b.events + 1) n (marks_of (opening_after b (Empty n))) stand is.legal (comes_next (Empty n) can_be)
      (can_empty b.events n can_be.begins.free).above fit (made (Empty n) can_be) settled read

-- what stands on a shelf with the entry
written_stands : (i at : ℕ) (e : Event) (s : Shelved) → finite.get (written_on i at e s).content ≡ with_entry at e (finite.get s.content)
written_stands i at e s =
    let front = played (looks i) s in
    ap (λ (t : Shelved). finite.get t.content) (calls_more (looks i) (Make (entry_put at e)) s)
    ∙ put_stands (key.Entry at) (entry_text e) front.content ∙ ap (λ c. with_entry at e (finite.get c)) (reads_leave i s)

-- ---- what is written back

-- the parts of a ledger after the event of a request are kept, and show the event
pub record IsEntered (j : Journal) (live : Repository) (request : Request) (s : Shelved)
    (events : Journal) (after : Repository) (touch : Touch) (moves : List Move) (shelf : Shelved) : Type 0 where
  pub kept : IsKept events after touch moves 0 shelf
  pub shows : ledger_on events after moves shelf ≡ entered request (ledger_on j live [] s)

module _ (j : Journal) (live : Repository) (s : Shelved) (is : IsOpen (opening_under j live) j live) (behind : IsBehind j live [] (finite.get s.content))
    (request : Request) (can_be : CanBeMade (ledger_of_live j live) request) (entry : Entry)
    (at : entry.at ≡ length_of j + 1) (event : entry.event ≡ event_of (ledger_of_live j live) request)
    (fit : FitsEntry entry.event) (read : IsRead (opening_under j live) j [] (finite.get s.content)) where
  abbrev b : LedgerState
  b = ledger_of_live j live

  abbrev k : ℕ
  k = length_of j + 1

  abbrev e : Event
  e = event_of (ledger_of_live j live) request

  pub is_entered : (events : Journal) (after : Repository) (touch : Touch) (moves : List Move) (shelf : Shelved)
      → events ≡ posted j entry.at entry.event → after ≡ live_after j entry.event live → AreNoted touch (posted j entry.at entry.event)
      → moves ≡ moves_of j entry.event → shelf ≡ written_on (looks_of j entry.event) entry.at entry.event s
      → IsEntered j live request s events after touch moves shelf
  is_entered events after touch moves shelf posts makes notes moves_are writes =
      let events_is : events ≡ posted j k e = posts ∙ ap (λ i. posted j i entry.event) at ∙ ap (posted j k) event in
      let live_is : after ≡ live_after j e live = makes ∙ ap (λ d. live_after j d live) event in
      let moves_is : moves ≡ moves_of j e = moves_are ∙ ap (moves_of j) event in
      let shelf_is : shelf ≡ written_on (looks_of j e) k e s =
      writes ∙ ap (λ i. written_on (looks_of j entry.event) i entry.event s) at ∙ ap (λ d. written_on (looks_of j d) k d s) event in
      let noted : AreNoted touch events = subst (AreNoted touch) (sym posts) notes in
      let back = written_back (opening_after b request) (posted j k e) events (live_after j e live) (made b is request can_be) events_is in
      record {
        kept = record {
          consistent = record { is_open = subst (λ r. IsOpen (opening_under events r) events r) (sym live_is) back.is_open; noted = noted };
          within = omega arith;
          behind =
              subst (λ ms. IsBehind events after ms (finite.get shelf.content)) (sym moves_is)
              (subst (λ ev. IsBehind ev after (moves_of j e) (finite.get shelf.content)) (sym events_is)
              (subst (λ r. IsBehind (posted j k e) r (moves_of j e) (finite.get shelf.content)) (sym live_is)
              (subst (IsBehind (posted j k e) (live_after j e live) (moves_of j e)) (sym (ap (λ (t : Shelved). finite.get t.content) shelf_is ∙ written_stands (looks_of j e) k e s))
              (begun b is request (finite.get s.content) can_be behind.rest (told_stand (finite.get s.content) (opening_under j live) j read.reads)))));
          reads =
              subst (λ ms. IsRead (opening_under events after) events ms (finite.get shelf.content)) (sym moves_is)
              (subst (λ ev. IsRead (opening_under ev after) ev (moves_of j e) (finite.get shelf.content)) (sym events_is)
              (subst (λ r. IsRead (opening_under (posted j k e) r) (posted j k e) (moves_of j e) (finite.get shelf.content)) (sym live_is)
              (subst (λ o. IsRead o (posted j k e) (moves_of j e) (finite.get shelf.content)) (sym (opening_told (opening_after b request) (posted j k e) (live_after j e live) (made b is request can_be)))
              (subst (IsRead (opening_after b request) (posted j k e) (moves_of j e)) (sym (ap (λ (t : Shelved). finite.get t.content) shelf_is ∙ written_stands (looks_of j e) k e s))
              (read_begun b is request (finite.get s.content) can_be behind.rest (subst FitsEntry event fit) read)))));
        };
        shows =
            ap (λ r. ledger_on events r moves shelf) live_is
            ∙ ap (λ st. record { state = st; due = moves; shelf = shelf }) back.shows
            ∙ ap (λ ms. record { state = with_event b request; due = ms; shelf = shelf }) moves_is
            ∙ ap (λ t. record { state = with_event b request; due = moves_of j e; shelf = t }) shelf_is;
      }
