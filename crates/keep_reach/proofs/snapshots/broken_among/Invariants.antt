use Rattle.std.proofs.Common.{◌≡◌, ◌++◌}
use Rattle.std.specs.List.{filter_map}
use Rattle.keep_catalog.specs.Naming.{named_by}
use Rattle.keep_catalog.specs.Places.{chosen_listing}
use Rattle.keep_reach.specs.Walk.{IsWalked}
use Rattle.keep_reach.proofs.Reached.{broken_at}
use Rattle.keep_reach.proofs.snapshots.broken_among.Given as goal

abbrev pub invariant-loop-name : goal.invariant-loop-name
invariant-loop-name l = record {
  walked : IsWalked (named_by l.catalog) (chosen_listing l.catalog) l.walked;
  broken : l.broken.items ++ filter_map (broken_at l.catalog) l.name-iterator ≡ filter_map (broken_at l.catalog) l.snaps.entries;
}
