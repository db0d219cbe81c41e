use Rattle.std.proofs.Common.{rules}
use borrow.Author.Tests.{tests}
use Rattle.keep_patterns.specs.Matching.{is_deep, matches_name}
use Rattle.keep_patterns.proofs.Tails.{stops_at, goes_on}
use Rattle.keep_patterns.proofs.matching.walk.Goals as goal

pub returns-then-is_deep : goal.returns-then-is_deep
returns-then-is_deep c = stops_at is_deep matches_name c.args.components.now c.args.path.now _ _ _ _ c.in-Some.ensures.cases.0 (search (rules, tests, c.is_deep.ensures, c.if-is_deep.true)) c.loop-piece.invariant

pub loop-piece-preserved : goal.loop-piece-preserved
loop-piece-preserved c = goes_on is_deep matches_name c.args.components.now c.args.path.now _ _ _ _ _ _ c.in-Some.ensures.cases.0 c.in-Some-split_first.ensures.cases.0 (search (rules, tests, c.is_deep.ensures, c.if-is_deep.false)) (search (rules, tests, c.matches_name.ensures, c.if-not-matches_name.false)) c.loop-piece.invariant
