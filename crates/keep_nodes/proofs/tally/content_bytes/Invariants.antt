use Rattle.std.proofs.Common.{◌≡◌, ◌+◌, ◌<◌, ◌^◌, drop}
use Rattle.keep_nodes.specs.Lengths.{AreLengths}
use Rattle.keep_nodes.specs.Tallies.{at_most, content_length}
use Rattle.keep_nodes.proofs.tally.content_bytes.Given as goal

abbrev pub invariant-loop-id : goal.invariant-loop-id
invariant-loop-id l = record {
  known : AreLengths l.catalog l.known;
  summed : at_most (l.bytes + content_length l.catalog (drop l.id-index l.content)) ≡ at_most (content_length l.catalog l.content);
  small : l.bytes < 2 ^ 64;
}
