use Rattle.std.proofs.Common.{[], sym, ◌∙◌, ap}
use Rattle.logbook.specs.Pages.{step}
use Rattle.keep_chronicle.proofs.Stepping.{cut_moves}
use Rattle.keep_chronicle.proofs.chronicle.cut.Goals as goal

pub compare_exchange-requires : goal.compare_exchange-requires
compare_exchange-requires c =
    let head = c.requires in
    let book = ap (λ s. s.book) c.again-seen.ensures ∙ sym (ap (λ w. w.book) head) in (
      ap (λ w. w.tracked) head,
      book,
      c.no_pen-pen.ensures.0 ∙ book,
      c.plain-offer.ensures.0,
      rw (ap (λ w. w.key) head, c.no_pen-pen.ensures.1, c.plain-offer.ensures.3)
          (cut_moves c.again-seen.result.log (step 0 1 1 (record { events = []; turn = 0 }))),
    )
