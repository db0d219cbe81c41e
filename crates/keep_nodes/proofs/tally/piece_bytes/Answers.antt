use Rattle.keep_nodes.proofs.Sums.{one_known}
use Rattle.keep_nodes.proofs.tally.piece_bytes.Goals as goal

pub returns-clause-known : goal.returns-clause-known
returns-clause-known c =
    one_known c.args.catalog.now c.args.known.now c.insert.new.self c.args.id c.length_there-length.result c.in_ok-insert.ensures.updates.0 c.length_there-length.ensures c.requires
