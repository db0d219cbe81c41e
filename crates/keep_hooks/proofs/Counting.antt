-- How much an event can count for.
use Rattle.std.proofs.Common.{ℕ, ◌≤◌, Bool, true, false, arith, cond, length}
use Rattle.std.proofs.lemmas.List.Sums.{count_by-le-length}
use Rattle.keep_names.specs.declared.file_name.Kind.TheVariants.{Snapshot}
use Rattle.keep_repo.specs.Kinds.{kind_eq}
use Rattle.keep_hooks.specs.Measures.{MeasuresAreSmall}
use Rattle.keep_hooks.specs.Written.{makes_change, snapshot_count}
use Rattle.keep_hooks.specs.declared.measure.Measure.TheVariants.{Events, FilesWritten, SnapshotsDropped}

-- some or none are no more than some
some_or_none : (some : Bool) (n : ℕ) → cond some n 0 ≤ n
some_or_none true n = omega arith
some_or_none false n = omega arith

pub measures_are_small_lem : MeasuresAreSmall
measures_are_small_lem Events o = omega arith
measures_are_small_lem FilesWritten o = omega arith
measures_are_small_lem SnapshotsDropped o =
    let among : snapshot_count o.drops ≤ length o.drops = count_by-le-length (λ name. kind_eq name.kind Snapshot) o.drops in
    let chosen : cond (makes_change o.what) (snapshot_count o.drops) 0 ≤ snapshot_count o.drops = some_or_none (makes_change o.what) (snapshot_count o.drops) in
    omega (arith, among, chosen)
