use Rattle.std.proofs.Common.{rules}
use Rattle.keep_change.specs.Halves.{turned}
use Rattle.keep_change.proofs.Parts.{ready_parts}
use Rattle.keep_change.proofs.change.Change.is_ready.Goals as goal

pub returns-then-are_empty-2 : goal.returns-then-are_empty-2
returns-then-are_empty-2 g c = rw (ready_parts (g.H.Holder.holding c.args.holder.now) (turned c.args.turn c.args.self.now)) (search rules)

pub returns-else-are_empty-2 : goal.returns-else-are_empty-2
returns-else-are_empty-2 g c = rw (ready_parts (g.H.Holder.holding c.args.holder.now) (turned c.args.turn c.args.self.now)) (search rules)
