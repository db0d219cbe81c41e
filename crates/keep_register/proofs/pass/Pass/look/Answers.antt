use Rattle.std.proofs.Common.{◌≡◌, ◌∙◌, List, ap, subst, sym}
use mathlib.Core.List.{IsPrefix}
use Rattle.keep_chronicle.specs.Chronicle.{events_of}
use Rattle.keep_journal.specs.History.{length_of}
use Rattle.keep_journal.specs.declared.event.Event.{Event}
use Rattle.keep_pages.specs.Histories.{length_at}
use Rattle.keep_register.specs.Pages.{PageState, events_on}
use Rattle.keep_register.specs.Registered.{Registered}
use Rattle.keep_register.proofs.Paging.{page_whole}
use Rattle.keep_register.proofs.pass.Pass.look.Goals as goal

-- the page's list is the whole one
whole : (g : _) (c : goal.After-drop-self-inside-4 g) → events_of c.sight-all.result.log ≡ c.args.register.now.events
whole g c =
    let page = c.args.reading.part.value in
    let on = c.args.register.now.events in
    let list : events_of c.sight-all.result.log ≡ events_on page = ap events_of c.sight-all.ensures.log ∙ ap (λ (p : PageState). events_on p) c.get-page.ensures in
    let begins : IsPrefix (events_on page) on =
    subst (λ (es : List Event). IsPrefix es on) list
    (subst (λ (r : Registered). IsPrefix (events_of c.sight-all.result.log) r.events) (c.covers.ensures.same ∙ c.precedes.ensures.same) c.covers.ensures.begins) in
    let long : length_of page.sheet.events ≡ length_at g.B.Naming.opening on =
    sym (c.length.ensures ∙ ap (λ (p : PageState). length_of p.sheet.events) c.get-page.ensures) ∙ (c.if-length.false ∙ c.length-2.ensures.length) in
    list ∙ page_whole g.B.Chronicled.book g.B.Naming.hooks.vetoes g.B.Naming.opening page c.requires.page on begins long

pub returns-clause-all : goal.returns-clause-all
returns-clause-all g c = λ _. (whole g c, ap (λ s. events_of s.log) c.again.ensures ∙ whole g c)

pub returns-clause-begins : goal.returns-clause-begins
returns-clause-begins g c = subst (λ (es : List Event). IsPrefix c.args.self.now.seen es) (sym (whole g c)) c.precedes.ensures.begins
