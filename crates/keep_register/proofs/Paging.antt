-- What a page shows, and the page after a step.
use Rattle.std.proofs.Common.{◌≡◌, ◌∙◌, ◌+◌, List, [], ◌∷◌, ◌++◌, length, ap, arith, subst, sym}
use mathlib.Core.List.{IsPrefix}
use Rattle.logbook.specs.Pages.{Book}
use Rattle.keep_journal.specs.History.{length_of}
use Rattle.keep_journal.specs.Opening.{IsOpen}
use Rattle.keep_journal.specs.declared.event.Event.{Event}
use Rattle.keep_hooks.specs.Guards.{Rule}
use Rattle.keep_view.specs.Shown.{shown_of}
use Rattle.keep_ledger.specs.LedgerState.{LedgerState}
use Rattle.keep_chronicle.specs.Chronicle.{events_of}
use Rattle.keep_chronicle.proofs.Prefixes.{prefix_whole}
use Rattle.keep_pages.specs.Following.{Follows}
use Rattle.keep_pages.specs.Histories.{length_at, shown_at, state_of, IsHistory, IsLegal}
use Rattle.keep_pages.specs.Sheet.{SheetState, followed, sheet_of}
use Rattle.keep_pages.proofs.Following.{follows, open_at}
use Rattle.keep_pages.proofs.Histories.{legal-last, length_at-all, state_of-push}
use Rattle.keep_register.specs.Pages.{IsPage, IsStep, PageState, StepState, events_on, page_after}

module _ (book : Book) (rules : List Rule) (opening : LedgerState) (p : PageState) (is : IsPage book rules opening p) where
  abbrev pub state : LedgerState
  state = state_of opening (events_on p)

  -- the events of the list make the live repository of the opening then
  pub page_open : IsOpen state.opening state.events state.live
  page_open = open_at rules opening (events_on p) is.history.begins is.history.legal

  -- and so the page's
  pub page_laid : IsOpen state.opening p.sheet.events p.sheet.live
  page_laid = subst (λ (s : SheetState). IsOpen state.opening s.events s.live) (sym is.shows) page_open

  -- what is shown of it
  pub page_shown : shown_of state.opening p.sheet.events p.sheet.live ≡ shown_at opening (events_on p)
  page_shown = ap (λ (s : SheetState). shown_of state.opening s.events s.live) is.shows

  -- the number of its last event
  pub page_length : length_of p.sheet.events ≡ length_of opening.events + length (events_on p)
  page_length = ap (λ (s : SheetState). length_of s.events) is.shows ∙ length_at-all opening (events_on p)

  -- its list is this one, which it begins and is as long as
  pub page_whole : (on : List Event) → IsPrefix (events_on p) on → length_of p.sheet.events ≡ length_at opening on → events_on p ≡ on
  page_whole on begins long =
      prefix_whole (events_on p) on begins (omega (arith, page_length, length_at-all opening on, long))

  -- the page after the step to a list with one more event
  pub page_next : (s : StepState) (es : List Event) (e : Event) → events_on p ++ e ∷ [] ≡ es → IsStep book es e s
      → IsHistory rules opening es → IsPage book rules opening (page_after p s)
  page_next s es e goes_on step history =
      let whole : IsLegal rules opening (events_on p ++ e ∷ []) = subst (IsLegal rules opening) (sym goes_on) history.legal in
      let last = legal-last rules opening (events_on p) e whole in
      let f : Follows state e = follows rules state e page_open last.1 in
      let list : events_of s.log ≡ events_on p ++ e ∷ [] = step.whole ∙ sym goes_on in
      record {
        same = step.same;
        history = subst (IsHistory rules opening) (sym step.whole) history;
        shows =
            ap (λ (x : SheetState). followed x s.event) is.shows
            ∙ (ap (followed (sheet_of state)) step.last
            ∙ (f.same ∙ ap sheet_of (sym (state_of-push opening (events_on p) e) ∙ ap (state_of opening) (sym list))));
      }
