-- What one change tells of the snapshots that are known: words of this crate's private functions.
use Rattle.std.specs.Prelude.{ℕ, Bool, false, ◌||◌, List}
use Rattle.std.specs.List.{list_any}
use Rattle.std.specs.Option.{option_map_or}
use Rattle.keep_names.specs.FileName.{named}
use Rattle.keep_names.specs.declared.file_name.Kind.TheVariants.{Snapshot}
use Rattle.keep_names.specs.declared.id.Id.{Id}
use Rattle.keep_repo.specs.Facet.{facet_eq}
use Rattle.keep_repo.specs.declared.facet.Facet.{Facet}
use Rattle.keep_repo.specs.declared.facet.Facet.TheVariants.{File}
use Rattle.keep_change.specs.NamedBytes.{NamedBytes}
use Rattle.keep_journal.specs.History.{change_of}
use Rattle.keep_journal.specs.Journal.{Journal}
use Rattle.keep_journal.specs.Kept.{kept_change}

-- the file of a snapshot
abbrev pub snapshot_file : Id → Facet
snapshot_file id = File (named Snapshot id)

-- whether the snapshot is one of these files
abbrev pub has_snapshot : List NamedBytes → Id → Bool
has_snapshot files id = list_any (λ f. facet_eq (snapshot_file id) (File f.name)) files

-- whether change n tells of the snapshot: it adds it, or drops it and is kept
abbrev pub is_told_by : Journal → ℕ → Id → Bool
is_told_by j n id =
    option_map_or (λ c. has_snapshot c.adds id) (change_of j n) false
    || option_map_or (λ c. has_snapshot c.drops id) (kept_change j n) false
