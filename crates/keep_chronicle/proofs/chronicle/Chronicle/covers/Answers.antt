use Rattle.std.proofs.Common.{List, sym, ◌∙◌, ap, subst}
use mathlib.Core.List.{IsPrefix}
use Rattle.logbook.specs.Pages.{step}
use Rattle.keep_journal.specs.declared.event.Event.{Event}
use Rattle.keep_chronicle.specs.Chronicle.{events_of}
use Rattle.keep_chronicle.specs.declared.note.Note.{Note}
use Rattle.keep_chronicle.proofs.Events.{events_begin}
use Rattle.keep_chronicle.proofs.Prefixes.{prefix_trans}
use Rattle.keep_chronicle.proofs.Stepping.{look_moves}
use Rattle.keep_chronicle.proofs.chronicle.Chronicle.covers.Goals as goal

pub compare_exchange-requires : goal.compare_exchange-requires
compare_exchange-requires g c =
    let is = c.self.invariant in
    let book = sym (ap (λ w. w.book) is.0) in
    let both = c.learn.new.self.log in
    let begins : IsPrefix c.self.inside.sight.log both =
    subst (λ (l : List Note). IsPrefix l both) (ap (λ s. s.log) c.again-both.ensures) c.learn.ensures.2 in
    let asked = ap (λ n. n.events) c.plain-offer.ensures.1 in (
      ap (λ w. w.tracked) is.0,
      c.learn.ensures.0 ∙ (ap (λ s. s.book) c.again-both.ensures ∙ (is.1 ∙ book)),
      is.2 ∙ book,
      c.plain-offer.ensures.0,
      rw (ap (λ w. w.key) is.0, c.plain-offer.ensures.3)
          (look_moves both c.self.inside.sight.log c.self.inside.pen.nib (step 0 1 1 c.plain-offer.result.ask) is.3 is.4 begins asked),
    )

pub returns-clause-begins : goal.returns-clause-begins
returns-clause-begins g c =
    let now = c.compare_exchange.new.seen.log in
    let all = c.compare_exchange.ensures.7.1 ∙ ap (λ n. n.events) c.plain-offer.ensures.1 in
    let begins = prefix_trans c.args.seen.now.log c.learn.new.self.log now c.learn.ensures.3 c.compare_exchange.ensures.6 in
    subst (λ (es : List Event). IsPrefix (events_of c.args.seen.now.log) es) all (events_begin c.args.seen.now.log now begins)
