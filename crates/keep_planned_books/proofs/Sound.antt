-- Books begin sound, and stay so.
use Rattle.std.proofs.Common.{◌≡◌, ◌+◌, ◌≤◌, ◌++◌, length, None, Ok, Err, refl, sym, subst}
use Rattle.std.proofs.lemmas.List.Elements.{All-nil}
use Rattle.keep_repo.specs.Repository.{Repository}
use Rattle.keep_change.specs.Fold.{Numbered, first_break, fold_of}
use Rattle.keep_change.specs.Form.{IsWellFormed}
use Rattle.keep_change.specs.Limits.{facet_limit}
use Rattle.keep_change.specs.Touch.{facets}
use Rattle.keep_journal.specs.History.{is_in_force, last_change, length_of}
use Rattle.keep_journal.specs.Kept.{above, kept, later, unfinal, up_to}
use Rattle.keep_journal.proofs.Kept.{kept_split}
use Rattle.keep_journal.proofs.Legal.{none_numbered}
use Rattle.keep_ledger.specs.LedgerState.{LedgerState, new_ledger}
use Rattle.keep_ledger.specs.Made.{with_event}
use Rattle.keep_ledger.specs.Request.{CanBeMade}
use Rattle.keep_journal.specs.declared.request.Request.{Request}
use Rattle.keep_journal.specs.declared.request.Request.TheVariants.{Commit, Undo, Redo, Empty}
use Rattle.keep_ledger.proofs.Replying.{can_empty}
use Rattle.keep_sound.specs.Selection.{CommitsStaySound, EmptyingsStaySound, FiltersAreSelections, IsSelection, IsSoundHistory, IsSoundState, SelectionsAreSound}
use Rattle.keep_pages.specs.Histories.{IsOpenLedger}
use Rattle.keep_pages.specs.Laws.{AcceptedStayOpen}
use Rattle.keep_pages.proofs.Accepting.{accepts}
use Rattle.keep_planned_books.specs.SoundBooks.{BooksAreSound, BooksBeginSound, BooksStaySound, IsSoundBook, KeepsSound, SelectionsOfBooksAreSound}
use Rattle.keep_planned_books.proofs.Growing.{becoming_final, break_front, kept_selected, unfinal-Commit, unfinal-Empty, unfinal-Redo, unfinal-Undo, unfinal_split, up_to_selected}

-- ---- how a book begins

opens_new : (opening : Repository) → IsOpenLedger (new_ledger opening)
opens_new opening = record {
  numbered = none_numbered 0;
  legal = tt;
  formed = All-nil (λ (n : Numbered). IsWellFormed n.change);
  within = All-nil (λ (n : Numbered). length (facets n.change) ≤ facet_limit);
  unbroken = refl;
  state = refl;
  marks = tt;
}

pub books_begin_sound : BooksBeginSound
books_begin_sound all opening part sound = record {
  is_open = opens_new opening;
  history = record { part = part; sound = sound; safe = tt };
}

-- ---- one more event

module _ (commits : CommitsStaySound) (empties : EmptyingsStaySound) (filters : FiltersAreSelections) (all : Repository) (b : LedgerState) (is : IsSoundBook all b) where
  -- the changes that aren't final are safe after it
  history_after : (request : Request) → KeepsSound all b request → CanBeMade b request
      → IsSoundHistory all (with_event b request).opening (unfinal (with_event b request).events)
  history_after (Commit p) keeps can_be =
      subst (IsSoundHistory all b.opening) (sym (unfinal-Commit b.events (length_of b.events + 1) (last_change b.events + 1) p.change is.is_open.numbered refl))
      (commits all b.opening (unfinal b.events) (record { number = last_change b.events + 1; change = p.change }) is.history can_be.begins.formed.once keeps.adds keeps.safe)
  history_after (Undo n) keeps can_be =
      subst (IsSoundHistory all b.opening) (sym (unfinal-Undo b.events (length_of b.events + 1) n)) is.history
  history_after (Redo n) keeps can_be =
      subst (IsSoundHistory all b.opening) (sym (unfinal-Redo b.events (length_of b.events + 1) n)) is.history
  history_after (Empty n) keeps can_be =
      let can = can_empty b.events n can_be.begins.free in
      let parts = unfinal_split b.events n is.is_open.numbered can.above in
      let chosen : IsSelection (up_to b.events n) (becoming_final b.events n) =
      subst (λ ns. IsSelection ns (becoming_final b.events n)) (sym (up_to_selected b.events n)) (filters (λ m. is_in_force b.events m.number) (becoming_final b.events n)) in
      let whole : first_break (up_to b.events n ++ later b.events n) b.opening ≡ None =
      subst (λ ns. first_break ns b.opening ≡ None) (kept_split b.events n is.is_open.numbered) is.is_open.unbroken in
      subst (IsSoundHistory all (fold_of (up_to b.events n) b.opening)) (sym (unfinal-Empty b.events (length_of b.events + 1) n _))
      (empties all b.opening (becoming_final b.events n) (above b.events n) (up_to b.events n) (subst (IsSoundHistory all b.opening) parts is.history) chosen
      (break_front (up_to b.events n) (later b.events n) b.opening whole))

pub books_stay_sound : AcceptedStayOpen → CommitsStaySound → EmptyingsStaySound → FiltersAreSelections → BooksStaySound
books_stay_sound opens commits empties filters all b rules request (Ok told) is keeps replies = record {
  is_open = opens b rules request told is.is_open replies;
  history = history_after commits empties filters all b is request keeps (accepts rules b request told replies);
}
books_stay_sound opens commits empties filters all b rules request (Err refusal) is keeps replies = is

-- ---- what is there

pub selections_of_books_are_sound : SelectionsAreSound → SelectionsOfBooksAreSound
selections_of_books_are_sound selections all b chosen is selected unbroken =
    selections all b.opening (unfinal b.events) chosen is.history selected unbroken

pub books_are_sound : FiltersAreSelections → SelectionsOfBooksAreSound → BooksAreSound
books_are_sound filters selections all b is =
    let selected : IsSelection (kept b.events) (unfinal b.events) =
    subst (λ ns. IsSelection ns (unfinal b.events)) (sym (kept_selected b.events)) (filters (λ n. is_in_force b.events n.number) (unfinal b.events)) in
    subst (IsSoundState all) (sym is.is_open.state) (selections all b (kept b.events) is selected is.is_open.unbroken)
