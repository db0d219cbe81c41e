use Rattle.std.proofs.Common.{None, ap}
use Rattle.keep_memory_files.proofs.Putting.{put_one}
use Rattle.keep_memory_files.specs.Memory.{changed, seen_in}
use Rattle.keep_memory_files.proofs.memory.MemoryTree.clear.Goals as goal

pub returns : goal.returns
returns c = ap (changed (seen_in c.args.self.now)) (put_one c.args.self.now.nodes c.remove.new.self c.args.path.now None c.remove.ensures.updates)
