-- A backup adds files.
use Rattle.std.proofs.Common.{◌≡◌, ℕ, ◌<◌, Bool, true, false, cond, List, ◌∷◌, ◌++◌, [], length, Option, None, Some, Result, Ok, Err, subst, arith, length-append}
use Rattle.keep_names.specs.declared.id.Id.{Id}
use Rattle.keep_repo.specs.Repository.{Repository}
use Rattle.keep_change.specs.NamedBytes.{NamedBytes}
use Rattle.keep_change.specs.declared.change.Change.{Change}
use Rattle.keep_plan.specs.Refusal.{unless}
use Rattle.keep_plan.specs.declared.plan_error.PlanError.{PlanError}
use Rattle.keep_plan.specs.declared.plan_error.PlanError.TheVariants.{SnapshotThere}
use Rattle.keep_plan.specs.declared.stored.Stored.{Stored}
use Rattle.keep_backup.specs.Backup.{FactsData, backup_change, backup_of, bad_time, change_of, planned_of, stored_files_of}
use Rattle.keep_backup.specs.Paths.{FileData, files_in_order}

some_added : (stored : Stored) (snapshot : NamedBytes) → 0 < length (stored.adds ++ snapshot ∷ [])
some_added stored snapshot = omega (arith, length-append stored.adds (snapshot ∷ []))

planned_adds : (b : Bool) (stored : Stored) (snapshot : NamedBytes) (c : Change) → cond b (Err SnapshotThere) (Ok (change_of stored snapshot)) ≡ Ok c → 0 < length c.adds
planned_adds true stored snapshot c h = absurd (cc)
planned_adds false stored snapshot c h =
    let same : change_of stored snapshot ≡ c = cc in
    let P : Change → Type 0 = λ x. 0 < length x.adds in
    subst P same (some_added stored snapshot)

made_adds : (r : Repository) (facts : FactsData) (made : Result (Id × Stored) PlanError) (c : Change) → planned_of r facts made ≡ Ok c → 0 < length c.adds
made_adds r facts (Err e) c h = absurd (cc)
made_adds r facts (Ok made) c h = planned_adds _ made.1 _ c h

not_refused : (o : Option PlanError) (due : Result Change PlanError) (c : Change) → unless o due ≡ Ok c → due ≡ Ok c
not_refused None due c h = h
not_refused (Some e) due c h = absurd (cc)

files_added : (r : Repository) (facts : FactsData) (cut : ℕ) (files : Result (List FileData) PlanError) (c : Change) → backup_of r facts cut files ≡ Ok c → 0 < length c.adds
files_added r facts cut (Err e) c h = absurd (cc)
files_added r facts cut (Ok files) c h = made_adds r facts (stored_files_of r cut files) c (not_refused (bad_time facts) _ c h)

pub backup_adds : (r : Repository) (facts : FactsData) (cut : ℕ) (given : List (List ℕ × List ℕ)) (c : Change) → backup_change r facts cut given ≡ Ok c → 0 < length c.adds
unfolding backup_change
backup_adds r facts cut given c h = files_added r facts cut (files_in_order given) c h
