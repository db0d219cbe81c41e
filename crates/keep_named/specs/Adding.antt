-- The change that added a snapshot.
use Rattle.std.specs.Prelude.{ℕ, zero, suc, Bool, false, List, Option, None, Some, if◌then◌else◌}
use Rattle.std.specs.List.{list_any}
use Rattle.std.specs.Option.{option_map_or}
use Rattle.keep_names.specs.FileName.{named}
use Rattle.keep_names.specs.declared.file_name.Kind.TheVariants.{Snapshot}
use Rattle.keep_names.specs.declared.id.Id.{Id}
use Rattle.keep_change.specs.NamedBytes.{NamedBytes}
use Rattle.keep_journal.specs.History.{last_change}
use Rattle.keep_journal.specs.Journal.{Journal}
use Rattle.keep_journal.specs.Kept.{kept_change}
use Rattle.keep_catalog.specs.Orders.{same_name}

-- whether the snapshot is one of these files
abbrev pub has_snapshot : Id → List NamedBytes → Bool
has_snapshot snapshot files = list_any (λ (f : NamedBytes). same_name f.name (named Snapshot snapshot)) files

-- whether change n is kept and adds the snapshot
abbrev pub adds : Journal → ℕ → Id → Bool
adds j n snapshot = option_map_or (λ c. has_snapshot snapshot c.adds) (kept_change j n) false

-- the last change up to the n-th that is kept and adds the snapshot
abbrev pub adding_up_to : Journal → Id → ℕ → Option ℕ
adding_up_to j snapshot zero = None
adding_up_to j snapshot (suc n) = if adds j (suc n) snapshot then Some (suc n) else adding_up_to j snapshot n

-- the last kept change that adds the snapshot
abbrev pub adding : Journal → Id → Option ℕ
adding j snapshot = adding_up_to j snapshot (last_change j)
