use Rattle.std.proofs.Common.{◌++◌, List, map, take}
use Rattle.keep_index.specs.Index.{PackData, pack_view}
use Rattle.keep_index.specs.Listed.{Gathers}
use Rattle.keep_index.proofs.joining.Listed.add_all.Given as goal

abbrev pub invariant-loop-pack : goal.invariant-loop-pack
invariant-loop-pack l =
    (before : List PackData) → Gathers before l.initial.self
    → Gathers (before ++ map pack_view (take l.pack-index l.packs)) l.self
