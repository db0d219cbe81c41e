use Rattle.std.proofs.Common.{rules}
use Rattle.keep_ledger.proofs.entering.enter_again.Goals as goal

pub turn_live-requires-clause-once : goal.turn_live-requires-clause-once
turn_live-requires-clause-once g c q = (c.requires.can c.in-Some.change.now (search rules)).once q
