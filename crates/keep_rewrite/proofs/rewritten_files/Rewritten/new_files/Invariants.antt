use Rattle.std.proofs.Common.{◌≡◌, ◌++◌, drop}
use Rattle.keep_rewrite.specs.Rewriting.{new_files}
use Rattle.keep_rewrite.proofs.rewritten_files.Rewritten.new_files.Given as goal

abbrev pub invariant-loop-new : goal.invariant-loop-new
invariant-loop-new l =
    l.files.items ++ new_files l.catalog l.self.forget (drop l.new-index l.self.retreed.items)
    ≡ new_files l.catalog l.self.forget l.self.retreed.items
