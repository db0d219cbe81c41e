use Rattle.std.proofs.Common.{sym, subst}
use Rattle.keep_files.specs.Stands.{IsClosed}
use Rattle.keep_memory_files.specs.Failing.{inner_of, outside}
use Rattle.keep_memory_files.specs.Memory.{seen_in}
use Rattle.keep_memory_files.specs.declared.failing.FailingTree.{FailingTree}
use Rattle.keep_memory_files.specs.declared.memory.MemoryTree.{MemoryTree}
use Rattle.keep_host_cases.proofs.Closed.{closed_read}
use Rattle.keep_host_cases.proofs.trees.running.run_walk.Goals as goal

pub end-requires : goal.end-requires
end-requires c =
    let first = subst (λ (m : MemoryTree). IsClosed (seen_in m).stands) (sym c.over.ensures) c.in_ok-tree.ensures in
    let behind = subst (λ (t : FailingTree MemoryTree). IsClosed (seen_in (inner_of t)).stands) (sym c.new-tree.ensures) first in
    closed_read (outside seen_in c.new-tree.result.inner) (outside seen_in c.read_keys.new.tree.inner) c.read_keys.result
    c.read_keys.ensures.ok c.read_keys.ensures.err behind
