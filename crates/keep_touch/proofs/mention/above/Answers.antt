-- Numbers don't fall, so the search finds where the greater ones begin.
use Rattle.std.proofs.Common.{rules}
use Rattle.keep_touch.proofs.Cutting.{above_cut}
use Rattle.keep_touch.proofs.mention.above.Goals as goal

pub returns : goal.returns
returns c = above_cut c.args.number c.args.mentions.now c.partition_point-start.result c.partition_point-start.ensures.partitioned c.requires (λ x r f k. search rules)
