use Rattle.std.proofs.Common.{◌∙◌}
use Rattle.keep_journal.specs.History.{length_of}
use Rattle.keep_chronicle.specs.Chronicle.{events_of}
use Rattle.keep_pages.proofs.Histories.{length_at-all}
use Rattle.keep_register.proofs.Paging.{page_length}
use Rattle.keep_register.proofs.pass.Pass.read.Goals as goal

pub goes_on-requires-clause-counted : goal.goes_on-requires-clause-counted
goes_on-requires-clause-counted g c =
    let opening = g.B.Naming.opening in (
      length_of opening.events,
      rw c.get-page.ensures (page_length g.B.Chronicled.book g.B.Naming.hooks.vetoes opening c.args.reading.part.value c.requires.page),
      c.self.invariant.2 ∙ length_at-all opening (events_of c.self.inside.sight.log),
    )
