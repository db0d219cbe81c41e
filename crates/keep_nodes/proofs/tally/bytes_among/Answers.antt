use Rattle.std.proofs.Common.{drop, map}
use Rattle.std.proofs.lemmas.List.{at_drop_all}
use Rattle.keep_nodes.specs.Entries.{entry_view}
use Rattle.keep_nodes.specs.Tallies.{bytes_of}
use Rattle.keep_nodes.proofs.Sums.{at_end}
use Rattle.keep_nodes.proofs.tally.bytes_among.Goals as goal

pub returns-clause-bytes : goal.returns-clause-bytes
returns-clause-bytes c =
    let r = c.args.catalog.now in
    at_end c.loop-entry.bytes (bytes_of r (map entry_view (drop c.loop-entry.entry-index c.args.entries.now))) _ (at_drop_all (λ es. bytes_of r (map entry_view es)) c.args.entries.now c.loop-entry.entry-index c.loop-entry-test.false) c.loop-entry.invariant.summed c.loop-entry.invariant.small
