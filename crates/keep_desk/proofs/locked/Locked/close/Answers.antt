use Rattle.std.proofs.Common.{subst, sym}
use Rattle.std.specs.List.{All}
use mathlib.Core.List.{IsPrefix}
use Rattle.keep_register.specs.Known.{Known}
use Rattle.keep_register.specs.Registered.{Registered}
use Rattle.keep_desk.proofs.Closing.{closed}
use Rattle.keep_desk.proofs.locked.Locked.close.Goals as goal

pub returns-clause-closed : goal.returns-clause-closed
returns-clause-closed g c =
    closed g.B.Naming.allows g.B.Naming.hooks.vetoes g.B.Naming.opening g.B.Ledger.parts c.args.passes.items c.gather.new.register.events
    (g.K.Keeper.ledger c.close.result) c.gather.new.rest.parts c.gather.new.rest.amount c.close.ensures.ledger c.close.ensures.history
    c.close.ensures.allowed
    (subst (λ (r : Registered). All (λ (p : Known). IsPrefix p.seen r.events) c.args.passes.items) (sym c.gather.ensures.same) c.gather.ensures.begins)
    c.gather.ensures.amount c.gather.ensures.parts c.close.ensures.least c.close.ensures.whole
