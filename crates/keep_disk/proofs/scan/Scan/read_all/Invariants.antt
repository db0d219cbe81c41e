use Rattle.keep_files.specs.Stands.{IsClosed}
use Rattle.keep_memory_files.specs.Memory.{seen_in}
use Rattle.keep_disk.proofs.scan.Scan.read_all.Given as goal

-- what was read so far lies in folders
abbrev pub invariant-loop : goal.invariant-loop
invariant-loop g l = IsClosed (seen_in l.initial.self.image).stands → IsClosed (seen_in l.self.image).stands
