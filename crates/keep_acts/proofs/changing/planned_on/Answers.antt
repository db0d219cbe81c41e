-- What the view shows is what the ledger shows.
use Rattle.std.proofs.Common.{rules}
use Rattle.keep_acts.proofs.changing.planned_on.Goals as goal

pub returns-in_err-planned-clause-change : goal.returns-in_err-planned-clause-change
returns-in_err-planned-clause-change g c =
    let told = rw (c.view.ensures, c.ledger.ensures) at c.in_err-planned.ensures.change in
    search (rules, told)

pub returns-clause-change : goal.returns-clause-change
returns-clause-change g c = rw (c.view.ensures, c.ledger.ensures) at c.in_ok-planned.ensures.change

pub returns-clause-planned : goal.returns-clause-planned
returns-clause-planned g c = rw (c.view.ensures, c.ledger.ensures) at c.in_ok-planned.ensures.planned
