use Rattle.std.proofs.Common.{◌∙◌, ap}
use Rattle.keep_pages.specs.Histories.{shown_at}
use Rattle.keep_register.specs.Pages.{PageState, events_on}
use Rattle.keep_desk.specs.Held.{Held}
use Rattle.keep_desk.proofs.locked.Locked.view.Goals as goal

pub shown_on-requires : goal.shown_on-requires
shown_on-requires g c = rw c.page.ensures.page c.page.ensures.list

pub returns : goal.returns
returns g c =
    c.shown_on.ensures
    ∙ ap (shown_at g.B.Naming.opening)
    (ap (λ (p : PageState). events_on p) c.page.ensures.page ∙ ap (λ (h : Held). h.published) c.self.view_is)
