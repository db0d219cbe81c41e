use Rattle.std.proofs.Common.{◌≡◌, map, ap, ◌∙◌}
use Rattle.keep_patterns.specs.Parsing.{pattern_view}
use Rattle.keep_patterns.specs.Steps.{found_from}
use Rattle.keep_patterns.proofs.Left.{found-left_at}
use Rattle.keep_patterns.proofs.rests.Rests.below.Goals as goal

pub returns : goal.returns
returns c = λ path left.
    let patterns = map pattern_view c.args.patterns.now in
    let shown : c.as_slice.result.now ≡ c.args.self.now = cc in
    c.in_ok-left.ensures ∙ ap (found_from c.args.name.now 0 patterns) (shown ∙ left) ∙ found-left_at patterns path c.args.name.now
