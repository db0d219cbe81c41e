use Rattle.std.proofs.Common.{map, ◌∙◌}
use Rattle.keep_patterns.specs.Parsing.{pattern_view}
use Rattle.keep_patterns.proofs.Left.{opened-left_at}
use Rattle.keep_patterns.proofs.rests.Rests.opening.Goals as goal

pub returns : goal.returns
returns c = c.in_ok-left.ensures ∙ opened-left_at (map pattern_view c.args.patterns.now)
