use Rattle.std.proofs.Common.{None, map, option_map, sym, ap, ◌∙◌}
use Rattle.std.proofs.lemmas.List.{drop_all}
use Rattle.keep_snap.specs.Facts.{facts_view}
use Rattle.keep_labels.specs.Rising.{names_rise}
use Rattle.keep_labels.specs.Walk.{seen_view}
use Rattle.keep_labels.proofs.Once.{rising_once}
use Rattle.keep_labels.proofs.rising.names_rise.Goals as goal

pub returns-clause-once : goal.returns-clause-once
returns-clause-once c =
    rising_once None (map facts_view c.args.taken.now)
    (sym c.loop-facts.invariant
    ∙ ap (λ xs. names_rise (option_map seen_view c.loop-facts.last) (map facts_view xs)) (drop_all c.loop-facts.facts-index c.args.taken.now c.loop-facts-test.false))
