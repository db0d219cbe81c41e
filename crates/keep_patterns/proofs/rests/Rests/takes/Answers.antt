use Rattle.std.proofs.Common.{◌≡◌, map, ap, ◌∙◌}
use Rattle.keep_patterns.specs.Parsing.{pattern_view}
use Rattle.keep_patterns.specs.Steps.{takes_from}
use Rattle.keep_patterns.proofs.Left.{takes-left_at}
use Rattle.keep_patterns.proofs.rests.Rests.takes.Goals as goal

pub returns : goal.returns
returns c = λ path left.
    let patterns = map pattern_view c.args.patterns.now in
    let shown : c.as_slice.result.now ≡ c.args.self.now = cc in
    c.is_used_up.ensures ∙ ap (takes_from c.args.name.now 0 patterns) (shown ∙ left) ∙ takes-left_at patterns path c.args.name.now
