-- The last event is the one that is told last.
use Rattle.std.proofs.Common.{◌≡◌, ◌∙◌, sym, ap, subst}
use Rattle.std.specs.Prelude.{OnOk}
use Rattle.std.specs.FinMap as finite
use Rattle.keep_journal.specs.History.{change_of}
use Rattle.keep_journal.specs.Journal.{Journal}
use Rattle.keep_journal.specs.declared.event.Notice.{Notice}
use Rattle.keep_moves.specs.Move.{Stand, finished_all}
use Rattle.keep_moves.specs.declared.moves.Move.{Move}
use Rattle.std.proofs.Common.{List}
use Rattle.keep_opening.specs.Settling.{moves_for}
use Rattle.keep_opening.proofs.Lasting.{LastTold, last_is, settled_empty, settled_moves}
use Rattle.keep_opening.proofs.settling.settle.Goals as goal

pub returns-in-Empty : goal.returns-in-Empty
returns-in-Empty c =
    let j : Journal = c.args.history.now.journal in
    let x : Notice = c.in-Some.last.now in
    let is : LastTold j x = last_is j c.notices.result.now x c.notices.ensures.exact c.in-Some.ensures.value in
    subst (λ (g : Stand). OnOk c.clear.result (finite.get c.clear.new.stock ≡ g)) (sym (settled_empty j x (finite.get c.args.stock.now) c.notices.ensures.legal is c.in-Empty.is)) c.clear.ensures

pub returns-in_ok-moves-in_default-what : goal.returns-in_ok-moves-in_default-what
returns-in_ok-moves-in_default-what c =
    let j : Journal = c.args.history.now.journal in
    let x : Notice = c.in-Some.last.now in
    let is : LastTold j x = last_is j c.notices.result.now x c.notices.ensures.exact c.in-Some.ensures.value in
    let moves = settled_moves j x c.notices.ensures.legal is c.in_default-what.not-Empty in
    let list : c.as_slice.result.now ≡ moves_for x.what x.change (change_of j x.change) =
    c.as_slice.ensures.value ∙ c.in_ok-moves-in_default-what.ensures moves.0 in
    subst (λ (g : Stand). OnOk c.finish.result (finite.get c.finish.new.stock ≡ g))
    (ap (λ (ms : List Move). finished_all ms (finite.get c.args.stock.now)) list ∙ sym (moves.1 (finite.get c.args.stock.now))) c.finish.ensures
