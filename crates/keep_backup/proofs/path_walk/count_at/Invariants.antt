use Rattle.std.proofs.Common.{take}
use Rattle.keep_backup.specs.Files.{paths_seen}
use Rattle.keep_backup.specs.Paths.{HaveOneName}
use Rattle.keep_backup.proofs.path_walk.count_at.Given as goal

abbrev pub invariant-loop-i : goal.invariant-loop-i
invariant-loop-i l = HaveOneName (paths_seen l.depth (take l.i l.files))
