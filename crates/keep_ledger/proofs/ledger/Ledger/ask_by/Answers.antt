-- The event was in when one of its moves failed; and what failed before would have been told.
use Rattle.std.proofs.Common.{◌∙◌, Ok, Err, ap, inr, subst, sym}
use Rattle.std.proofs.lemmas.Result.{err_from_is_err_and}
use Rattle.keep_ledger.specs.OnShelf.{OnShelf}
use Rattle.keep_ledger.specs.Reply.{Replies, told_of}
use Rattle.keep_ledger.proofs.Answered.{unsettled_ends}
use Rattle.keep_ledger.proofs.Stopping.{after_stops, amid_stops, before_stops, due_stops}
use Rattle.keep_ledger.proofs.ledger.Ledger.ask_by.Goals as goal

pub returns-in_err-told-clause-faults : goal.returns-in_err-told-clause-faults
returns-in_err-told-clause-faults g c fault =
    let due = err_from_is_err_and c.from_residual-in_err-told.result c.from_residual-in_err-told.ensures.1 in
    let request = c.args.request in
    inr (
    subst (λ (m : OnShelf). Replies m.state (g.V.Guard.armed c.args.guard.now).vetoes request (Ok (told_of m.state.events request))) c.in_ok-finish.ensures.ok
    (c.in_err-told.ensures.free (ap Err (sym due.2) ∙ sym due.1 ∙ fault)))

pub returns-in-Err-clause-ends : goal.returns-in-Err-clause-ends
returns-in-Err-clause-ends g c =
    unsettled_ends c.args.self.now c.finish.new.self c.try_ask.new.self c.finish-2.new.self c.args.request c.in_ok-told.told
    c.in_ok-finish.ensures.ok c.in_ok-told.ensures.enters c.in-Err.ensures.err

-- what each call left
pub returns-in_err-finish-clause-stops : goal.returns-in_err-finish-clause-stops
returns-in_err-finish-clause-stops g c =
    due_stops c.args.self.now c.args.request c.in_err-finish.ensures.shown c.finish.new.self c.in_err-finish.ensures.err

pub returns-in_err-told-clause-stops : goal.returns-in_err-told-clause-stops
returns-in_err-told-clause-stops g c =
    before_stops c.args.self.now c.args.request c.in_ok-finish.ensures.shown c.finish.new.self c.in_ok-finish.ensures.ok
    c.in_err-told.field-0.0 c.try_ask.new.self c.in_err-told.ensures.enters

pub returns-in-Ok-clause-stops : goal.returns-in-Ok-clause-stops
returns-in-Ok-clause-stops g c =
    after_stops c.args.self.now c.args.request c.in_ok-finish.ensures.shown c.finish.new.self c.in_ok-finish.ensures.ok
    c.in_ok-told.told c.try_ask.new.self c.in_ok-told.ensures.enters c.in-Ok.ensures.shown c.finish-2.new.self c.in-Ok.ensures.ok

pub returns-in-Err-clause-stops : goal.returns-in-Err-clause-stops
returns-in-Err-clause-stops g c =
    amid_stops c.args.self.now c.args.request c.in_ok-finish.ensures.shown c.finish.new.self c.in_ok-finish.ensures.ok
    c.in_ok-told.told c.try_ask.new.self c.in_ok-told.ensures.enters c.in-Err.ensures.shown c.finish-2.new.self c.in-Err.ensures.err
