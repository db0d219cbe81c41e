-- What the program tells of a backup.
use Rattle.std.specs.Prelude.{ℕ, List, [], ◌∷◌, ◌-◌, codes, length, Result, Ok, Err, slice_get}
use Rattle.std.specs.Option.{option_map_or}
use Rattle.keep_repo.specs.Repository.{empty_repository}
use Rattle.keep_change.specs.declared.change.Change.{Change}
use Rattle.keep_backup.specs.Backup.{FactsData, backup_change}
use Rattle.keep_plan.specs.declared.plan_error.PlanError.{PlanError}
use Rattle.keep_bench.specs.declared.backup.BackedUp.{BackedUp}

-- who backs up, and when
abbrev pub bench_facts : FactsData
bench_facts = record {
  host = codes "web";
  user = codes "keep";
  paths = codes "/" ∷ [];
  time = codes "2024-01-01T10:00:00Z";
}

-- the one file: its path and its bytes
abbrev pub bench_file : List ℕ → List ℕ × List ℕ
bench_file bytes = (codes "/a", bytes)

-- the change that backs it up in an empty repository, cut every 1,048,576 bytes, or why there is none
abbrev pub bench_change : List ℕ → Result Change PlanError
bench_change bytes = backup_change empty_repository bench_facts 1_048_576 (bench_file bytes ∷ [])

-- the id of the last file that the change adds, its snapshot, and how many it adds
abbrev pub change_summary : Change → BackedUp
change_summary c = record {
  snapshot = option_map_or (λ file. file.name.id) (slice_get c.adds (length c.adds - 1)) (record { 0 = [] });
  adds = length c.adds;
}

-- what is told of a planned change, else its refusal
abbrev pub backed_up_with : Result Change PlanError → Result BackedUp PlanError
backed_up_with (Ok change) = Ok (change_summary change)
backed_up_with (Err refusal) = Err refusal

-- what is told of the backup of these bytes, or why there is none
abbrev pub backed_up_of : List ℕ → Result BackedUp PlanError
backed_up_of bytes = backed_up_with (bench_change bytes)
