use Rattle.std.proofs.Common.{◌≡◌}
use Rattle.keep_keyed_folder.specs.Walked.{IsOnTheWay}
use Rattle.keep_keyed_folder.proofs.key_walk.read_keys.Given as goal

-- what is still to be looked at leads to all that isn't noted
abbrev pub invariant-loop : goal.invariant-loop
invariant-loop g l = record {
  same : g.T.FileTree.seen l.tree ≡ g.T.FileTree.seen l.initial.tree;
  way : IsOnTheWay (g.T.FileTree.seen l.initial.tree).stands l.found l.paths.items;
}
