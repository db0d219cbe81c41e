use Rattle.std.proofs.Common.{◌≡◌, ◌++◌, drop, map, take}
use Rattle.keep_hooks.specs.Guards.{tallies_after}
use Rattle.keep_hooks.specs.Rules.{armed_of, tallies_of}
use Rattle.keep_book.proofs.hooks.tell_all.Given as goal

-- the front is told, and behind it nothing is; what is armed stays
abbrev pub invariant-loop-watch : goal.invariant-loop-watch
invariant-loop-watch g l =
    (map armed_of l.watches ≡ map armed_of l.initial.watches)
    × (tallies_of l.watches
    ≡ tallies_after l.outline (take l.watch-index (tallies_of l.initial.watches))
    ++ drop l.watch-index (tallies_of l.initial.watches))
