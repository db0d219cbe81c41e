-- A change that isn't final is in the journal.
use Rattle.std.proofs.Common.{◌<◌, ◌≡◌, None, sym, arith}
use Rattle.keep_journal.specs.History.{final_number, change_of}
use Rattle.keep_journal.specs.Journal.{Journal}
use Rattle.keep_journal.proofs.Standings.{is_final, not_missing}
use Rattle.keep_journal.proofs.history.History.status.Goals as goal

pub returns-then-n-self : goal.returns-then-n-self
returns-then-n-self c =
    let b = c.self.inside in
    let j : Journal = record { base = b.base; entries = b.entries.items } in
    rw (← c.self.view_is) (sym (is_final j c.args.n b.final_number b.last_change c.self.invariant.last_final c.self.invariant.counted c.if-n-eq0.false c.if-self-n.false c.if-n-self.true))

pub returns-in_default-2 : goal.returns-in_default-2
returns-in_default-2 c =
    let is = c.self.invariant in
    let last = is.last_final in
    let counted = is.counted in
    let none : final_number c.args.self.now.journal < c.args.n → change_of c.args.self.now.journal c.args.n ≡ None = rw c.in_default.is at c.standing.ensures in
    absurd (not_missing _ c.args.n is.numbered (omega (arith, last, c.if-n-self.false)) (omega (arith, counted, c.if-self-n.false)) (rw (← c.self.view_is) at none))
