use Rattle.std.proofs.Common.{◌≡◌, None, drop, map, option_map}
use Rattle.keep_snap.specs.Facts.{facts_view}
use Rattle.keep_labels.specs.Rising.{names_rise}
use Rattle.keep_labels.specs.Walk.{seen_view}
use Rattle.keep_labels.proofs.rising.names_rise.Given as goal

abbrev pub invariant-loop-facts : goal.invariant-loop-facts
invariant-loop-facts l =
    names_rise (option_map seen_view l.last) (map facts_view (drop l.facts-index l.taken))
    ≡ names_rise None (map facts_view l.taken)
