use Rattle.std.proofs.Common.{◌≡◌, ◌+◌, ◌<◌, ◌^◌, drop, map}
use Rattle.keep_nodes.specs.Entries.{entry_view}
use Rattle.keep_nodes.specs.Lengths.{AreLengths}
use Rattle.keep_nodes.specs.Tallies.{at_most, bytes_of}
use Rattle.keep_nodes.proofs.tally.bytes_among.Given as goal

abbrev pub invariant-loop-entry : goal.invariant-loop-entry
invariant-loop-entry l = record {
  known : AreLengths l.catalog l.known;
  summed : at_most (l.bytes + bytes_of l.catalog (map entry_view (drop l.entry-index l.entries))) ≡ at_most (bytes_of l.catalog (map entry_view l.entries));
  small : l.bytes < 2 ^ 64;
}
