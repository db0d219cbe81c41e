use Rattle.keep_snap.proofs.Inverse.{answer_is_snap}
use Rattle.keep_snap.proofs.snap.read_snap.Goals as goal

pub returns-clause-whole : goal.returns-clause-whole
returns-clause-whole c = answer_is_snap c.timed_snap.result c.args.bytes.now c.timed_snap.ensures
