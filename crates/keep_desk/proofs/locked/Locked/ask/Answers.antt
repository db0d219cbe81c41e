use Rattle.std.proofs.Common.{◌≡◌, ◌∙◌, ap, sym}
use Rattle.keep_register.specs.Pages.{events_on}
use Rattle.keep_desk.specs.Held.{Held}
use Rattle.keep_desk.proofs.Answering.{up_to}
use Rattle.keep_desk.proofs.Settling.{nothing_waits}
use Rattle.keep_desk.proofs.locked.Locked.ask.Goals as goal

pub invariant_of-self : goal.invariant_of-self
invariant_of-self g c =
    let book = g.B.Chronicled.book in
    let on = c.self.inside.register.events in
    let p = c.self.inside.press.page in
    let pending = c.self.inside.press.pending in
    let all : events_on p ≡ on =
    ap (λ (h : Held). h.published) c.self.view_is ∙ (c.requires.published ∙ sym (ap (λ (h : Held). h.journal) c.self.view_is)) in (
      up_to g.B.Naming.hooks.vetoes g.B.Naming.opening c.args.request on c.ask.new.register.events book p pending all
          (nothing_waits book on p pending c.self.invariant.0 all) c.ask.result c.ask.ensures.asked,
      c.self.invariant.1,
      c.self.invariant.2,
    )
