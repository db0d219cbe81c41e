-- What was planned on the present state is committed.
use Rattle.std.proofs.Common.{ℕ, Ok, Err, subst}
use Rattle.keep_journal.specs.declared.request.Request.TheVariants as request
use Rattle.keep_acts.specs.Coming.{Comes}
use Rattle.keep_acts.proofs.changing.commit.Goals as goal

pub returns-in-Ok-clause-commits : goal.returns-in-Ok-clause-commits
returns-in-Ok-clause-commits g c =
    let book = c.args.book.now in
    let planned = c.in_ok-planned.planned in
    let asks = subst (λ (seen : ℕ). Comes book (request.Commit (record { change = planned.change; seen = seen })) (Ok c.in-Ok.made) c.ask.new.book)
    c.in_ok-planned.ensures.planned.seen c.in-Ok.ensures.comes in
    (planned.change, c.in_ok-planned.ensures.change, asks)

pub returns-in-Err-clause-commits : goal.returns-in-Err-clause-commits
returns-in-Err-clause-commits g c =
    let book = c.args.book.now in
    let planned = c.in_ok-planned.planned in
    let asks = subst (λ (seen : ℕ). Comes book (request.Commit (record { change = planned.change; seen = seen })) (Err c.in-Err.refusal) c.ask.new.book)
    c.in_ok-planned.ensures.planned.seen c.in-Err.ensures.comes in
    (planned.change, c.in_ok-planned.ensures.change, asks)
