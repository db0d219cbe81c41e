-- The first that writes is the last that is put.
use Rattle.std.proofs.Common.{arith}
use Rattle.std.proofs.lemmas.Grind.{common_steps}
use Rattle.keep_graph.proofs.leaning.put_finders.Goals as goal

pub returns-then-mention : goal.returns-then-mention
returns-then-mention c = λ m. grind (arith, common_steps, c.loop-mention.invariant m)
