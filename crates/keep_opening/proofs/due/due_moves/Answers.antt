-- The last event is the one that is told last.
use Rattle.std.proofs.Common.{◌≡◌, ◌∙◌, List, sym, ap, subst}
use Rattle.std.specs.Prelude.{IfOk, filter}
use Rattle.std.specs.FinMap as finite
use Rattle.keep_journal.specs.Journal.{Journal}
use Rattle.keep_journal.specs.declared.event.Notice.{Notice}
use Rattle.keep_moves.specs.Move.{remains}
use Rattle.keep_moves.specs.declared.moves.Move.{Move}
use Rattle.keep_opening.proofs.Lasting.{LastTold, last_is}
use Rattle.keep_opening.proofs.Resting.{due_empty, due_plain}
use Rattle.keep_opening.proofs.due.due_moves.Goals as goal

pub returns-in-Empty : goal.returns-in-Empty
returns-in-Empty c =
    let j : Journal = c.args.history.now.journal in
    let x : Notice = c.in-Some.last.now in
    let is : LastTold j x = last_is j c.notices.result.now x c.notices.ensures.exact c.in-Some.ensures.value in
    subst (λ (ms : List Move). IfOk c.over_moves.result (λ due. due.items ≡ ms)) (sym (due_empty j x c.args.stock.now is c.in-Empty.is)) c.over_moves.ensures

pub returns-in_ok-moves-in_default-what : goal.returns-in_ok-moves-in_default-what
returns-in_ok-moves-in_default-what c =
    let j : Journal = c.args.history.now.journal in
    let x : Notice = c.in-Some.last.now in
    let is : LastTold j x = last_is j c.notices.result.now x c.notices.ensures.exact c.in-Some.ensures.value in
    let plain = due_plain j x c.args.stock.now c.notices.ensures.legal is c.in_default-what.not-Empty in
    let list = ap (filter (remains (finite.get c.args.stock.now))) (c.in_ok-moves-in_default-what.ensures plain.0) ∙ sym plain.1 in
    subst (λ (ms : List Move). IfOk c.left_of.result (λ due. due.items ≡ ms)) list c.left_of.ensures
