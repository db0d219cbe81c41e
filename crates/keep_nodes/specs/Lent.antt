-- What lent entries say, in maps and in differences.
use Rattle.std.specs.Prelude.{ℕ, List, map, string_bytes, String}
use Rattle.std.specs.BTreeMap.{BTreeMap}
use Rattle.std.specs.Borrow.{Bor}
use Rattle.std.specs.FinMap as finite
use Rattle.std.specs.declared.alloc.Global.{Global}
use Rattle.keep_read.specs.Restored.{path_cmp}
use Rattle.keep_nodes.specs.Choosing.{lent_view}
use Rattle.keep_nodes.specs.Entries.{EntryData}
use Rattle.keep_nodes.specs.declared.path_node.PathNode.{PathNode}
use Rattle.keep_nodes.specs.Differences.{DifferenceData, added, changed, removed}
use Rattle.keep_nodes.specs.declared.difference.Difference.{Difference}
use Rattle.keep_nodes.specs.declared.difference.Difference.TheVariants as the_difference

-- what a `Difference` says
abbrev pub difference_view : Difference → DifferenceData
difference_view (the_difference.Added new) = added (lent_view new)
difference_view (the_difference.Removed old) = removed (lent_view old)
difference_view (the_difference.Changed old new) = changed (lent_view old) (lent_view new)

-- lent entries by path
abbrev pub Lent : Type 0
Lent = BTreeMap (String Global) (Bor PathNode)

-- a key of the map and what stands at it
abbrev pub key_view : String Global × Bor PathNode → List ℕ × EntryData
key_view e = (string_bytes e.0, lent_view e.1)

-- what such a map says
abbrev pub paths_of : Lent → finite.FinMap path_cmp EntryData
paths_of lent = finite.from_entries (map key_view lent.entries)
