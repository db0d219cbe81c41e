use Rattle.std.proofs.Common.{Some}
use Rattle.keep_memory_files.proofs.Putting.{put_stands, taken_back}
use Rattle.keep_memory_files.specs.Memory.{seen_in}
use Rattle.keep_memory_files.proofs.memory.MemoryTree.try_rename.Goals as goal

pub put_back-requires : goal.put_back-requires
put_back-requires g c = put_stands (seen_in c.args.self.now) (seen_in c.put.new.self) c.args.to.now c.in-Some.node c.in_ok-stood.ensures.ok

pub returns-in-Err-clause-err : goal.returns-in-Err-clause-err
returns-in-Err-clause-err g c =
    taken_back (seen_in c.args.self.now) (seen_in c.put.new.self) (seen_in c.put_back.new.self) c.args.to.now (Some c.in-Some.node) c.in_ok-stood.stood
    c.in_ok-stood.ensures.ok c.put_back.ensures c.in_ok-stood.ensures.stood
