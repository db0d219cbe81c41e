use Rattle.std.proofs.Common.{◌≡◌, ℕ, true, List, vec_len}
use Rattle.keep_files.specs.Path.{IsListed}
use Rattle.keep_files.specs.Stands.{IsClosed, is_file}
use Rattle.keep_keyed_folder.specs.Tmp.{IsCleared, IsTmp}
use Rattle.keep_keyed_folder.proofs.leftovers.clear.Given as goal

-- what is still under way is on the list
abbrev pub invariant-loop-path : goal.invariant-loop-path
invariant-loop-path g l = record {
  closed : IsClosed (g.T.FileTree.seen l.tree).stands;
  rest : IsCleared (g.T.FileTree.seen l.initial.tree).stands (g.T.FileTree.seen l.tree).stands;
  none_failed : (g.T.FileTree.seen l.tree).failures ≡ (g.T.FileTree.seen l.initial.tree).failures;
  listed : (path : List ℕ) → IsTmp path → is_file ((g.T.FileTree.seen l.tree).stands path) ≡ true → IsListed l.paths.items path;
}

abbrev pub decreases-loop-path : goal.decreases-loop-path
decreases-loop-path g l = vec_len l.paths
