use Rattle.std.proofs.Common.{[], sym, ◌∙◌, ap}
use Rattle.logbook.specs.Pages.{step}
use Rattle.keep_chronicle.proofs.Stepping.{begin_moves}
use Rattle.keep_chronicle.proofs.chronicle.Opened.new.Goals as goal

pub compare_exchange-found-requires : goal.compare_exchange-found-requires
compare_exchange-found-requires c =
    let head = c.tracked-head.ensures.0 in
    let opened = c.open-sight.ensures in
    let book = sym (ap (λ w. w.book) head ∙ opened.2) in (
      ap (λ w. w.tracked) head,
      book,
      c.no_pen-pen.ensures.0 ∙ book,
      c.plain-offer.ensures.0,
      rw (ap (λ w. w.key) head ∙ ap (λ n. n.key) opened.4, c.no_pen-pen.ensures.1, c.plain-offer.ensures.3, opened.1)
          (begin_moves (step 0 0 1 (record { events = []; turn = 0 }))),
    )
