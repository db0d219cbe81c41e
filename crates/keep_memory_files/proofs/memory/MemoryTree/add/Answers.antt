use Rattle.std.proofs.Common.{◌≡◌, ◌∙◌, None, Some, false, is_some, sym}
use Rattle.keep_memory_files.proofs.Putting.{none_there, taken_back}
use Rattle.keep_memory_files.specs.Memory.{seen_in}
use Rattle.keep_memory_files.proofs.memory.MemoryTree.add.Goals as goal

pub returns-in-Err-clause-err : goal.returns-in-Err-clause-err
returns-in-Err-clause-err g c =
    let old = seen_in c.args.self.now in
    let path = c.args.path.now in
    let free : is_some (old.stands path) ≡ false = sym c.contains_key.ensures ∙ c.if-contains_key.false in
    taken_back old (seen_in c.put.new.self) (seen_in c.clear.new.self) path (Some c.args.node) None c.in_ok-put.ensures.ok c.clear.ensures (none_there (old.stands path) free)
