use Rattle.keep_files.specs.Stands.{IsClosed}
use Rattle.keep_memory_files.specs.Memory.{seen_in}
use Rattle.keep_disk.proofs.scan.Scan.note_folder.Given as goal

-- what was read so far lies in folders
abbrev pub invariant-loop-name : goal.invariant-loop-name
invariant-loop-name g l = IsClosed (seen_in l.initial.self.image).stands → IsClosed (seen_in l.self.image).stands
