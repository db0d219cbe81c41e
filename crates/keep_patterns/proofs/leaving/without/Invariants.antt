use Rattle.std.proofs.Common.{◌≡◌, map, take, string_bytes}
use Rattle.std.specs.Str.{chars}
use Rattle.keep_tree.specs.Tree.{node_view}
use Rattle.keep_patterns.specs.Parsing.{pattern_view}
use Rattle.keep_patterns.specs.Without as spec
use Rattle.keep_patterns.proofs.leaving.without.Given as goal

abbrev pub invariant-loop-node : goal.invariant-loop-node
invariant-loop-node l = record {
  walked : l.path.items ≡ map chars (map string_bytes l.at);
  kept : map node_view l.kept.items ≡ spec.without (map pattern_view l.patterns) (map string_bytes l.at) (map node_view (take l.node-index l.nodes));
}
