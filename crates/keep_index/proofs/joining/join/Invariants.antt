use Rattle.std.proofs.Common.{map, take}
use Rattle.keep_index.specs.Index.{index_view}
use Rattle.keep_index.specs.Joining.{packs_in}
use Rattle.keep_index.specs.Listed.{Gathers}
use Rattle.keep_index.proofs.joining.join.Given as goal

abbrev pub invariant-loop-index : goal.invariant-loop-index
invariant-loop-index l = Gathers (packs_in (map index_view (take l.index-index l.indexes))) l.listed
