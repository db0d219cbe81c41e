use Rattle.std.proofs.Common.{◌≡◌, ◌++◌, drop}
use Rattle.keep_rewrite.specs.Rewriting.{old_names}
use Rattle.keep_rewrite.proofs.rewritten_files.Rewritten.present_names.Given as goal

abbrev pub invariant-loop-new : goal.invariant-loop-new
invariant-loop-new l = l.names.items ++ old_names (drop l.new-index l.self.retreed.items) ≡ l.initial.names.items ++ old_names l.self.retreed.items
