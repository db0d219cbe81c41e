use Rattle.std.proofs.Common.{◌≡◌, ◌++◌, map}
use Rattle.keep_snap.specs.Facts.{facts_view}
use Rattle.keep_plan.specs.Taking.{named_view, taken_of}
use Rattle.keep_plan.proofs.filter.Filter.taken_of.Given as goal

abbrev pub invariant-loop-name : goal.invariant-loop-name
invariant-loop-name g l =
    map facts_view l.taken.items ++ taken_of l.self.rule (map named_view l.name-iterator)
    ≡ taken_of l.self.rule (map named_view l.snaps.entries)
