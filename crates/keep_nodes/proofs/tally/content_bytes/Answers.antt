use Rattle.std.proofs.Common.{drop}
use Rattle.std.proofs.lemmas.List.{at_drop_all}
use Rattle.keep_nodes.specs.Tallies.{content_length}
use Rattle.keep_nodes.proofs.Sums.{at_end}
use Rattle.keep_nodes.proofs.tally.content_bytes.Goals as goal

pub returns-clause-bytes : goal.returns-clause-bytes
returns-clause-bytes c =
    let r = c.args.catalog.now in
    at_end c.loop-id.bytes (content_length r (drop c.loop-id.id-index c.args.content.now)) _ (at_drop_all (content_length r) c.args.content.now c.loop-id.id-index c.loop-id-test.false) c.loop-id.invariant.summed c.loop-id.invariant.small
