use Rattle.std.proofs.Common.{◌++◌, sym, ◌∙◌, ap}
use Rattle.logbook.specs.Pages.{step}
use Rattle.keep_chronicle.specs.Chronicle.{events_of, last_events}
use Rattle.keep_chronicle.proofs.Events.{events_of-push}
use Rattle.keep_chronicle.proofs.Stepping.{write_moves}
use Rattle.keep_chronicle.proofs.Turns.{ends_push}
use Rattle.keep_chronicle.proofs.chronicle.Chronicle.write.Goals as goal

pub compare_exchange-requires : goal.compare_exchange-requires
compare_exchange-requires g c =
    let is = c.self.invariant in
    let book = sym (ap (λ w. w.book) is.0) in (
      ap (λ w. w.tracked) is.0,
      is.1 ∙ book,
      is.2 ∙ book,
      c.plain-offer.ensures.0,
      rw (ap (λ w. w.key) is.0, c.plain-offer.ensures.3)
          (write_moves c.self.inside.sight.log c.self.inside.pen.nib (step 0 1 1 c.plain-offer.result.ask) is.3 is.4),
    )

pub invariant_of-self : goal.invariant_of-self
invariant_of-self g c =
    let is = c.self.invariant in (
      is.0,
      c.compare_exchange.ensures.0 ∙ is.1,
      c.cut-next.ensures.book ∙ is.1,
      c.cut-next.ensures.right,
      rw (c.compare_exchange.ensures.7, c.plain-offer.ensures.1) (ends_push c.self.inside.sight.log _),
    )

pub returns : goal.returns
returns g c =
    let log = c.self.inside.sight.log in
    let written = ap (λ n. n.events) c.plain-offer.ensures.1 in
    ap events_of c.compare_exchange.ensures.7
    ∙ (events_of-push log c.plain-offer.result.ask
    ∙ (ap (λ es. events_of log ++ es) written ∙ ap (λ es. es ++ last_events c.args.history.now.journal) c.self.view_is))
