use Rattle.std.proofs.Common.{rules, sym, ap, subst, ◌∙◌}
use Rattle.keep_journal.specs.Opening.{IsOpen}
use Rattle.keep_ledger.specs.LedgerState.{LedgerState}
use Rattle.keep_pages.specs.Histories.{IsHistory, state_of}
use Rattle.keep_pages.specs.Sheet.{sheet_of}
use Rattle.keep_desk.proofs.first_passes.press_of.Goals as goal

pub new-requires-clause-page : goal.new-requires-clause-page
new-requires-clause-page g c = rw c.in_ok-first.ensures.page (record {
  same = c.requires.book;
  history = subst (IsHistory g.B.Naming.hooks.vetoes g.B.Naming.opening) (sym c.requires.none) (record {
    begins = subst (λ (b : LedgerState). IsOpen b.opening b.events b.live) c.requires.opening c.in_ok-first.ensures.open;
    legal = search rules;
  });
  shows = ap sheet_of c.requires.opening ∙ ap (λ es. sheet_of (state_of g.B.Naming.opening es)) (sym c.requires.none);
})
