-- Numbers don't fall, so the search finds where the lesser ones end.
use Rattle.std.proofs.Common.{rules}
use Rattle.keep_touch.proofs.Cutting.{below_cut}
use Rattle.keep_touch.proofs.mention.below.Goals as goal

pub returns : goal.returns
returns c = below_cut c.args.number c.args.mentions.now c.partition_point-end.result c.partition_point-end.ensures.partitioned c.requires (λ x r f k. search rules)
