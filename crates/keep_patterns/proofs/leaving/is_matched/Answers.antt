use Rattle.std.proofs.Common.{rules, tests, sym, ◌∙◌}
use Rattle.std.proofs.lemmas.Iterator.{YieldsList-from_slice}
use Rattle.std.proofs.lemmas.Iterator.Search.{any_from_yields_List}
use Rattle.keep_docs.proofs.Members.{list_any-map}
use Rattle.keep_patterns.specs.Matching.{matches}
use Rattle.keep_patterns.specs.Parsing.{pattern_view}
use Rattle.keep_patterns.proofs.leaving.is_matched.Goals as goal

pub returns : goal.returns
returns c =
    any_from_yields_List (λ pattern. matches pattern.anchored pattern.components.items c.args.path.now) _ _ _ c.any.ensures.ran (YieldsList-from_slice c.args.patterns.now c.iter.ensures.rest) (λ x b q k. search (rules, tests))
    ∙ sym (list_any-map _ pattern_view c.args.patterns.now)
