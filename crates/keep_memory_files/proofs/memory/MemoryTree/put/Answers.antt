use Rattle.std.proofs.Common.{◌∙◌, Some, List, ℕ, ap}
use Rattle.std.specs.String.{string_bytes}
use Rattle.keep_files.specs.Stands.{put_at}
use Rattle.keep_memory_files.proofs.Putting.{put_one}
use Rattle.keep_memory_files.specs.Memory.{changed, seen_in, standing}
use Rattle.keep_memory_files.proofs.memory.MemoryTree.put.Goals as goal

pub returns-clause-ok : goal.returns-clause-ok
returns-clause-ok c =
    let nodes = c.args.self.now.nodes in
    let name = c.in_ok-name.name in
    ap (changed (seen_in c.args.self.now)) (
    put_one nodes c.insert.new.self (string_bytes name) (Some c.args.node) c.in_ok-insert.ensures.updates
    ∙ ap (λ (path : List ℕ). put_at (standing nodes) path (Some c.args.node)) c.in_ok-name.ensures.ok)
