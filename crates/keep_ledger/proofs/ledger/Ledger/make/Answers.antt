-- What was entered is written back; and what stopped before leaves all as it was.
use Rattle.std.proofs.Common.{◌∙◌, Err, ap, drop, subst, sym}
use Rattle.std.specs.FinMap as finite
use Rattle.std.proofs.lemmas.Result.{err_from_is_err_and}
use Rattle.keep_journal.specs.Opening.{opening_under}
use Rattle.keep_moves.specs.Behind.{IsBehind}
use Rattle.keep_moves.specs.Course.{looks_of}
use Rattle.keep_reading.specs.Due.{IsRead}
use Rattle.keep_ledger.specs.Entering.{CanTurnFor, Enters}
use Rattle.keep_ledger.specs.LedgerState.{ledger_of_live}
use Rattle.keep_ledger.specs.Made.{event_of}
use Rattle.keep_ledger.specs.OnShelf.{entered, ledger_on}
use Rattle.keep_ledger.specs.Request.{CanBeMade}
use Rattle.keep_ledger.proofs.Entered.{IsEntered, can_turn, is_entered}
use Rattle.keep_ledger.proofs.Standing.{not_entered, stands, stays_kept, tells}
use Rattle.keep_ledger.proofs.ledger.Ledger.make.Goals as goal

pub prepare-requires-clause-free : goal.prepare-requires-clause-free
prepare-requires-clause-free g c =
    let b = c.self.inside in
    let j = c.reserve.new.self.journal in
    let is = stands c.args.self.now c.args.request b.history.journal j b.live b.touch b.moves.items b.made (g.S.Shelf.shelved b.shelf)
    c.self.invariant c.self.view_is c.requires.settled c.requires.free c.in_ok-reserve.ensures.same in
    subst (λ r. CanBeMade (ledger_of_live j r) c.args.request) (sym c.repo.ensures) is.can

pub enter-requires-clause-can : goal.enter-requires-clause-can
enter-requires-clause-can g c =
    let b = c.self.inside in
    let j = c.reserve.new.self.journal in
    let is = stands c.args.self.now c.args.request b.history.journal j b.live b.touch b.moves.items b.made (g.S.Shelf.shelved b.shelf)
    c.self.invariant c.self.view_is c.requires.settled c.requires.free c.in_ok-reserve.ensures.same in
    let event = c.in_ok-prepared.ensures.event ∙ ap (λ r. event_of (ledger_of_live j r) c.args.request) c.repo.ensures in
    subst (λ e. CanTurnFor j e b.live) (sym event) (can_turn (ledger_of_live j b.live) is.kept.consistent.is_open c.args.request is.can)

pub invariant_of-self-in_err-enter : goal.invariant_of-self-in_err-enter
invariant_of-self-in_err-enter g c =
    let b = c.self.inside in
    let j = c.reserve.new.self.journal in
    let is = stands c.args.self.now c.args.request b.history.journal j b.live b.touch b.moves.items b.made (g.S.Shelf.shelved b.shelf)
    c.self.invariant c.self.view_is c.requires.settled c.requires.free c.in_ok-reserve.ensures.same in
    stays_kept c.args.self.now c.args.request j b.live b.touch b.moves.items b.made (g.S.Shelf.shelved b.shelf) is
    c.enter.new.live c.enter.new.touch c.in_err-enter.field-0.0 _ (g.S.Shelf.shelved c.enter.new.shelf)
    c.in_err-enter.ensures.same c.in_err-enter.ensures.stopped c.in_err-enter.ensures.same_notes

pub returns-in_err-enter-clause-enters : goal.returns-in_err-enter-clause-enters
returns-in_err-enter-clause-enters g c =
    let b = c.self.inside in
    let j = c.reserve.new.self.journal in
    let due = err_from_is_err_and c.from_residual-in_err-enter.result c.from_residual-in_err-enter.ensures.1 in
    let is = stands c.args.self.now c.args.request b.history.journal j b.live b.touch b.moves.items b.made (g.S.Shelf.shelved b.shelf)
    c.self.invariant c.self.view_is c.requires.settled c.requires.free c.in_ok-reserve.ensures.same in
    let event = c.in_ok-prepared.ensures.event ∙ ap (λ r. event_of (ledger_of_live j r) c.args.request) c.repo.ensures in
    let after = ledger_on j c.enter.new.live (drop b.made b.moves.items) (g.S.Shelf.shelved c.enter.new.shelf) in
    subst (λ r. Enters c.args.self.now c.args.request r after) (sym (due.1 ∙ ap Err due.2))
    (not_entered c.args.self.now c.args.request j b.live b.touch b.moves.items b.made (g.S.Shelf.shelved b.shelf) is
    c.enter.new.live c.enter.new.touch c.in_err-enter.field-0.0 (looks_of j c.in_ok-prepared.prepared.entry.event) (g.S.Shelf.shelved c.enter.new.shelf)
    c.in_err-enter.ensures.same c.in_err-enter.ensures.stopped (ap (looks_of j) event))

in_now : (g : _) (c : goal.After-drop-prepared-2 g)
    → IsEntered c.reserve.new.self.journal c.self.inside.live c.args.request (g.S.Shelf.shelved c.self.inside.shelf)
    c.post.new.history.journal c.enter.new.live c.enter.new.touch c.in_ok-prepared.prepared.moves.items (g.S.Shelf.shelved c.enter.new.shelf)
in_now g c =
    let b = c.self.inside in
    let j = c.reserve.new.self.journal in
    let s = g.S.Shelf.shelved b.shelf in
    let made = c.in_ok-prepared.prepared in
    let is = stands c.args.self.now c.args.request b.history.journal j b.live b.touch b.moves.items b.made s
    c.self.invariant c.self.view_is c.requires.settled c.requires.free c.in_ok-reserve.ensures.same in
    let event = c.in_ok-prepared.ensures.event ∙ ap (λ r. event_of (ledger_of_live j r) c.args.request) c.repo.ensures in
    let behind = subst (λ due. IsBehind j b.live due (finite.get s.content)) is.none is.kept.behind in
    let read = subst (λ due. IsRead (opening_under j b.live) j due (finite.get s.content)) is.none is.kept.reads in
    is_entered j b.live s is.kept.consistent.is_open behind c.args.request is.can made.entry c.in_ok-prepared.ensures.at event c.in_ok-prepared.ensures.written read
    c.post.new.history.journal c.enter.new.live c.enter.new.touch made.moves.items (g.S.Shelf.shelved c.enter.new.shelf)
    c.post.ensures.events c.in_ok-enter.ensures.live c.in_ok-enter.ensures.noted c.in_ok-prepared.ensures.moves c.in_ok-enter.ensures.written

pub invariant_of-self-2 : goal.invariant_of-self-2
invariant_of-self-2 g c = (in_now g c).kept

pub returns-clause-enters : goal.returns-clause-enters
returns-clause-enters g c =
    let b = c.self.inside in
    let j = c.reserve.new.self.journal in
    let is = stands c.args.self.now c.args.request b.history.journal j b.live b.touch b.moves.items b.made (g.S.Shelf.shelved b.shelf)
    c.self.invariant c.self.view_is c.requires.settled c.requires.free c.in_ok-reserve.ensures.same in
    let event = c.in_ok-prepared.ensures.event ∙ ap (λ r. event_of (ledger_of_live j r) c.args.request) c.repo.ensures in (
      tells c.args.self.now c.args.request j b.live b.touch b.moves.items b.made (g.S.Shelf.shelved b.shelf) is
          c.in_ok-prepared.prepared.entry c.post.result c.in_ok-prepared.ensures.at event c.post.ensures.told,
      (in_now g c).shows ∙ ap (entered c.args.request) is.shows,
    )
