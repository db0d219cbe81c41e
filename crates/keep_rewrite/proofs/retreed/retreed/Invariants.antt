use Rattle.std.proofs.Common.{◌≡◌, ◌++◌, drop, map}
use Rattle.keep_patterns.specs.Parsing.{pattern_view}
use Rattle.keep_snap.specs.Facts.{facts_view}
use Rattle.keep_rewrite.specs.Rewriting.{retreed_of}
use Rattle.keep_rewrite.specs.Walking.{AreReached, IsRight, trees_of}
use Rattle.keep_rewrite.proofs.Several.{Completes}
use Rattle.keep_rewrite.proofs.retreed.retreed.Given as goal

abbrev pub invariant-loop-facts : goal.invariant-loop-facts
invariant-loop-facts l = record {
  reached : AreReached l.walk.catalog.now (map facts_view (drop l.facts-index l.taken));
  right : IsRight l.walk.catalog.now (map pattern_view l.walk.patterns.now) l.walked;
  retreed : l.retreed.items ++ retreed_of l.walk.catalog.now (map pattern_view l.walk.patterns.now) (map facts_view (drop l.facts-index l.taken))
      ≡ retreed_of l.walk.catalog.now (map pattern_view l.walk.patterns.now) (map facts_view l.taken);
  trees : Completes l.walk.catalog.now (map pattern_view l.walk.patterns.now) (map facts_view (drop l.facts-index l.taken)) (map facts_view l.taken) (trees_of l.walked);
}
