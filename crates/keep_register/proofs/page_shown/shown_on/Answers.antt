use Rattle.std.proofs.Common.{◌∙◌}
use Rattle.keep_pages.specs.Histories.{state_of}
use Rattle.keep_register.specs.Pages.{events_on}
use Rattle.keep_register.proofs.Paging.{page_laid, page_shown}
use Rattle.keep_register.proofs.page_shown.shown_on.Goals as goal

pub view-requires : goal.view-requires
view-requires g c =
    let opening = g.B.Naming.opening in
    let page = c.args.page.now in
    record {
      opening = (state_of opening (events_on page)).opening;
      is_open = page_laid g.B.Chronicled.book g.B.Naming.hooks.vetoes opening page c.requires;
    }

pub returns : goal.returns
returns g c =
    let opening = g.B.Naming.opening in
    let page = c.args.page.now in
    c.view.ensures (state_of opening (events_on page)).opening
    (page_laid g.B.Chronicled.book g.B.Naming.hooks.vetoes opening page c.requires)
    ∙ page_shown g.B.Chronicled.book g.B.Naming.hooks.vetoes opening page c.requires
