-- What an event writes, by its outline.
use Rattle.std.specs.Prelude.{ℕ, ◌+◌, Bool, true, false, List, cond, length}
use Rattle.std.specs.List.{count_by}
use Rattle.keep_names.specs.declared.file_name.FileName.{FileName}
use Rattle.keep_names.specs.declared.file_name.Kind.TheVariants.{Snapshot}
use Rattle.keep_repo.specs.Kinds.{kind_eq}
use Rattle.keep_change.specs.declared.outline.Outline.{Outline}
use Rattle.keep_change.specs.declared.outline.What.{What}
use Rattle.keep_change.specs.declared.outline.What.TheVariants.{Commit, Undo, Redo, Empty}

-- whether events of the kind make a change: commits and redos do
abbrev pub makes_change : What → Bool
makes_change Commit = true
makes_change Undo = false
makes_change Redo = true
makes_change Empty = false

-- whether events of the kind empty the trash
abbrev pub is_emptying : What → Bool
is_emptying Commit = false
is_emptying Undo = false
is_emptying Redo = false
is_emptying Empty = true

-- how many names the outline has
abbrev pub name_count : Outline → ℕ
name_count o = length o.adds + length o.drops + length o.sets + length o.clears

-- how many files the event's change adds and drops; the outline of an emptying names none
abbrev pub files_written : Outline → ℕ
files_written o = length o.adds + length o.drops

-- how many of the names are snapshots'
abbrev pub snapshot_count : List FileName → ℕ
snapshot_count names = count_by (λ name. kind_eq name.kind Snapshot) names

-- how many snapshots the event drops by making its change
abbrev pub snapshots_dropped : Outline → ℕ
snapshots_dropped o = cond (makes_change o.what) (snapshot_count o.drops) 0
