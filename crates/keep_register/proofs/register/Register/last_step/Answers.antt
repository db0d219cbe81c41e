use Rattle.std.proofs.Common.{sym, ◌∙◌}
use Rattle.keep_journal.specs.Opening.{IsOpen}
use Rattle.keep_register.proofs.Lasting.{formed_last}
use Rattle.keep_register.proofs.register.Register.last_step.Goals as goal

pub new-requires : goal.new-requires
new-requires g c =
    let b = g.K.Keeper.ledger c.self.inside.keeper in
    let is : IsOpen b.opening c.history.result.now.journal c.live.result.now =
    rw (c.history.ensures.events, c.live.ensures) c.history.ensures.open in
    formed_last b.opening c.history.result.now.journal c.live.result.now c.in-Some.event is
    (sym (c.in_ok-last.ensures b.opening is) ∙ c.in-Some.is)
