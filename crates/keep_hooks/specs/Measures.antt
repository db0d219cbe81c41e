-- How much a measure counts for an event.
use Rattle.std.specs.Prelude.{◌≡◌, ℕ, ◌+◌, ◌≤◌}
use Rattle.keep_change.specs.Outline.{empty_outline}
use Rattle.keep_change.specs.declared.outline.Outline.{Outline}
use Rattle.keep_hooks.specs.Written.{files_written, name_count, snapshots_dropped}
use Rattle.keep_hooks.specs.declared.measure.Measure.{Measure}
use Rattle.keep_hooks.specs.declared.measure.Measure.TheVariants.{Events, FilesWritten, SnapshotsDropped}

-- one; the files that its change adds and drops; the snapshots that it drops, if it is a commit or a redo
abbrev pub measure_of : Measure → Outline → ℕ
measure_of Events o = 1
measure_of FilesWritten o = files_written o
measure_of SnapshotsDropped o = snapshots_dropped o

-- an event never counts for more than its names and one
abbrev pub MeasuresAreSmall : Type 0
MeasuresAreSmall = (rule : Measure) (o : Outline) → measure_of rule o ≤ name_count o + 1

-- an emptying writes no files
abbrev pub EmptyingsWriteNone : Type 0
EmptyingsWriteNone = (number : ℕ) → measure_of FilesWritten (empty_outline number) ≡ 0
