-- Which events a limit refuses.
use Rattle.std.specs.Prelude.{Bool, ◌&&◌, nat_lt}
use Rattle.keep_change.specs.declared.outline.Outline.{Outline}
use Rattle.keep_hooks.specs.Written.{files_written, is_emptying, makes_change, snapshots_dropped}
use Rattle.keep_hooks.specs.declared.limit.Limit.{Limit}
use Rattle.keep_hooks.specs.declared.limit.Limit.TheVariants.{FilesWrittenAtMost, NoEmpty, SnapshotDropsAtMost}

-- a commit or a redo that drops more snapshots; one that writes more files; each emptying
abbrev pub refuses : Limit → Outline → Bool
refuses (SnapshotDropsAtMost most) o = nat_lt most (snapshots_dropped o)
refuses (FilesWrittenAtMost most) o = makes_change o.what && nat_lt most (files_written o)
refuses NoEmpty o = is_emptying o.what
