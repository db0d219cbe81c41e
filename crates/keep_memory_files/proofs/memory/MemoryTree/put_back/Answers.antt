use Rattle.std.proofs.Common.{◌∙◌, Option, Some, refl, sym, ap}
use Rattle.keep_files.specs.Stands.{put_at}
use Rattle.keep_files.specs.declared.node.Node.{Node}
use Rattle.keep_memory_files.proofs.Putting.{put_one}
use Rattle.keep_memory_files.specs.Memory.{changed, seen_in, standing}
use Rattle.keep_memory_files.proofs.memory.MemoryTree.put_back.Goals as goal

pub returns-in-Some-get_mut : goal.returns-in-Some-get_mut
returns-in-Some-get_mut c =
    let nodes = c.args.self.now.nodes in
    let path = c.args.path.now in
    let node = c.in-Some.node in
    let updates = (c.get_mut.follows.holds node).3 (rw (sym c.in-Some-get_mut.ensures.value) refl) in
    ap (changed (seen_in c.args.self.now)) (
    put_one nodes (c.get_mut.follows.lender node) path (Some node) updates
    ∙ ap (λ (o : Option Node). put_at (standing nodes) path o) (sym c.in-Some.is))
