-- The opening that a sheet is laid over is the one that is told by its events and its repository.
use Rattle.std.proofs.Common.{◌∙◌, ap, subst, sym}
use Rattle.keep_repo.specs.Repository.{Repository}
use Rattle.keep_journal.specs.Opening.{IsOpen, opening_under}
use Rattle.keep_view.specs.Shown.{shown_of}
use Rattle.keep_ledger.proofs.Steps.{open_under, opening_told}
use Rattle.keep_pages.specs.Sheet.{SheetState}
use Rattle.keep_pages.proofs.sheet.Sheet.view.Goals as goal

pub of-requires : goal.of-requires
of-requires c =
    subst (λ (s : SheetState). IsOpen (opening_under s.events s.live) s.events s.live) (sym c.self.view_is)
    (open_under c.requires.opening c.args.self.now.events c.args.self.now.live c.requires.is_open)

pub returns : goal.returns
returns c opening is =
    c.of.ensures
    ∙ ap (λ (s : SheetState). shown_of (opening_under s.events s.live) s.events s.live) c.self.view_is
    ∙ ap (λ (r : Repository). shown_of r c.args.self.now.events c.args.self.now.live) (opening_told opening c.args.self.now.events c.args.self.now.live is)
