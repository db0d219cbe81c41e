use Rattle.std.proofs.Common.{refl}
use Rattle.keep_reach.specs.Reach.{most_levels}
use Rattle.keep_reach.proofs.reach_walk.levels.Goals as goal

pub returns-clause-value : goal.returns-clause-value
unfolding most_levels
returns-clause-value c = refl
