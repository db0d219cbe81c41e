use Rattle.keep_memory_files.specs.Memory.{seen_in}
use Rattle.keep_disk.proofs.Empty.{empty_closed}
use Rattle.keep_disk.proofs.disk_opening.read_disk.Goals as goal

pub returns-clause-closed : goal.returns-clause-closed
returns-clause-closed g c =
    c.in_ok-lock-2.ensures.closed (c.read_all.ensures (empty_closed (seen_in c.new-scan.result.image).stands c.new-scan.ensures))
