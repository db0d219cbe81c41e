use Rattle.keep_files.specs.Stands.{IsClosed}
use Rattle.keep_memory_files.specs.Memory.{seen_in}
use Rattle.keep_host_cases.proofs.trees.tree_case.Case.tree.Given as goal

abbrev pub invariant-loop-entry : goal.invariant-loop-entry
invariant-loop-entry l = IsClosed (seen_in l.tree).stands
