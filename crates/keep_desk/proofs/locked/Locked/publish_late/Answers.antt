use Rattle.std.proofs.Common.{◌∙◌, ap, sym}
use Rattle.keep_journal.specs.History.{length_of}
use Rattle.keep_register.specs.Pages.{PageState}
use Rattle.keep_register.proofs.Paging.{page_next}
use Rattle.keep_desk.proofs.Settling.{at_err, behind, one_late}
use Rattle.keep_desk.proofs.locked.Locked.publish_late.Goals as goal

pub publish-requires : goal.publish-requires
publish-requires g c =
    let book = g.B.Chronicled.book in
    let rules = g.B.Naming.hooks.vetoes in
    let opening = g.B.Naming.opening in
    let p = c.self.inside.press.page in
    let es = c.self.inside.register.events in
    let late = one_late book rules opening es p c.self.inside.press.pending c.page.ensures.list c.self.invariant.0
    (λ same. c.if-length.false (c.length.ensures ∙ (ap (λ (q : PageState). length_of q.sheet.events) c.page.ensures.page ∙ (same ∙ sym c.length-2.ensures.length)))) in
    let step = c.in_ok-hand_in.ensures.ready late.event late.goes_on late.waits in
    rw (c.in_ok-hand_in.ensures.page, step.1)
    (page_next book rules opening p c.page.ensures.list step.0 es late.event late.goes_on step.2 c.length-2.ensures.history)

pub returns-in_err-hand_in-clause-late : goal.returns-in_err-hand_in-clause-late
returns-in_err-hand_in-clause-late g c =
    at_err c.from_residual.result (behind g.B.Chronicled.book g.B.Naming.hooks.vetoes g.B.Naming.opening c.self.inside.register.events c.self.inside.press.page
    c.self.inside.press.pending c.page.ensures.list c.args.self.now c.self.inside.register.failures c.self.view_is c.self.invariant.0
    (λ same. c.if-length.false (c.length.ensures ∙ (ap (λ (q : PageState). length_of q.sheet.events) c.page.ensures.page ∙ (same ∙ sym c.length-2.ensures.length))))
    c.length-2.ensures.history)

pub returns-in_err-publish-clause-late : goal.returns-in_err-publish-clause-late
returns-in_err-publish-clause-late g c =
    at_err c.from_residual-in_err-publish.result (behind g.B.Chronicled.book g.B.Naming.hooks.vetoes g.B.Naming.opening c.self.inside.register.events c.self.inside.press.page
    c.self.inside.press.pending c.page.ensures.list c.args.self.now c.self.inside.register.failures c.self.view_is c.self.invariant.0
    (λ same. c.if-length.false (c.length.ensures ∙ (ap (λ (q : PageState). length_of q.sheet.events) c.page.ensures.page ∙ (same ∙ sym c.length-2.ensures.length))))
    c.length-2.ensures.history)
