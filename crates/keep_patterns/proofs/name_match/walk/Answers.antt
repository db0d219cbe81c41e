use Rattle.std.proofs.Common.{rules}
use borrow.Author.Tests.{tests}
use Rattle.keep_patterns.specs.Matching.{is_star, takes}
use Rattle.keep_patterns.proofs.Tails.{stops_at, goes_on}
use Rattle.keep_patterns.proofs.name_match.walk.Goals as goal

pub returns-then-piece-eq42 : goal.returns-then-piece-eq42
returns-then-piece-eq42 c = stops_at is_star takes c.args.pattern.now c.args.text.now _ _ _ _ c.in-Some.ensures.cases.0 (search (rules, tests, c.if-piece-eq42.true)) c.loop-piece.invariant

pub loop-piece-preserved : goal.loop-piece-preserved
loop-piece-preserved c = goes_on is_star takes c.args.pattern.now c.args.text.now _ _ _ _ _ _ c.in-Some.ensures.cases.0 c.in-Some-split_first.ensures.cases.0 (search (rules, tests, c.if-piece-eq42.false)) (search (rules, tests, c.takes.ensures, c.if-not-takes.false)) c.loop-piece.invariant
