use Rattle.std.proofs.Common.{◌≡◌, ◌++◌, drop}
use Rattle.keep_rewrite.specs.Rewriting.{old_files}
use Rattle.keep_rewrite.proofs.rewritten_files.old_files.Given as goal

abbrev pub invariant-loop-new : goal.invariant-loop-new
invariant-loop-new l = l.files.items ++ old_files l.repo (drop l.new-index l.retreed) ≡ old_files l.repo l.retreed
