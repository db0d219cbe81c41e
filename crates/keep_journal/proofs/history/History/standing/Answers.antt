-- Standings are counted from the first change that isn't final.
use Rattle.std.proofs.Common.{◌-◌, ◌<◌, ap, arith}
use Rattle.keep_journal.specs.History.{final_number}
use Rattle.keep_journal.proofs.Standings.{item_copied, standing_at}
use Rattle.keep_journal.proofs.history.History.standing.Goals as goal

pub returns-then-n-self : goal.returns-then-n-self
returns-then-n-self c =
    let last = c.self.invariant.last_final in
    let view = ap (λ r. final_number r.journal) c.self.view_is in
    λ above. absurd (omega (arith, c.if-n-self.true, last, view, above))

pub returns : goal.returns
returns c =
    let is = c.self.invariant in
    let last = is.last_final in
    let above = c.if-n-self.false in
    let place = c.self.inside in
    rw (← c.self.view_is)
    (standing_at _ place.standings.items c.args.n (c.args.n - place.final_number - 1) _ is.numbered is.standings (omega (arith, last, above)) (omega (arith, last))
    (item_copied place.standings.items (c.args.n - place.final_number - 1) c.get.result (rw c.deref.ensures.value at c.get.ensures.lookup)))
