-- What a plan answers, by what was refused and what was stored.
use Rattle.std.proofs.Common.{◌≡◌, ℕ, true, false, cond, List, [], ◌∷◌, String, length, map, Option, None, Some, Result, Ok, Err, is_none, option_map, slice_get, refl, sym, ap, subst, lit<, ◌∙◌}
use Rattle.std.specs.Global.{Global, Vec}
use Rattle.std.specs.List.{list_any}
use Rattle.serde_json.specs.Written.{compact_text}
use Rattle.keep_names.specs.declared.file_name.Kind.TheVariants.{Snapshot}
use Rattle.keep_names.specs.declared.id.Id.{Id}
use Rattle.keep_repo.specs.Repository.{Repository}
use Rattle.keep_change.specs.declared.change.Change.{Change}
use Rattle.keep_change.specs.NamedBytes.{NamedBytes, file_of}
use Rattle.keep_snap.specs.Snap.{SnapData}
use Rattle.keep_snap.specs.Time.{time_in}
use Rattle.keep_snap.specs.Written.{IsCarried, snap_data}
use Rattle.keep_catalog.specs.Files.{unread_in}
use Rattle.keep_catalog.specs.declared.catalog_error.CatalogError.{CatalogError}
use Rattle.keep_catalog.specs.declared.catalog_error.CatalogError.TheVariants as the_catalog_error
use Rattle.keep_catalog.specs.declared.unread.Unread.{Unread}
use Rattle.keep_backup.specs.Backup.{FactsData, backup_change, backup_of, change_of, planned, planned_of, snapshot_file, stored_files_of, tagged_file, tagged_snapshot}
use Rattle.keep_build.specs.Blobs.{id_of, is_full}
use Rattle.keep_backup.specs.Files.{given_view}
use Rattle.keep_backup.specs.Folders.{root_folder}
use Rattle.keep_backup.specs.Paths.{FileData, by_path, files_in_order, is_too_deep, path_of}
use Rattle.keep_plan.specs.Refusal.{of_catalog}
use Rattle.keep_plan.specs.Refusal.{unless, unread_first}
use Rattle.keep_plan.specs.Storing.{is_there}
use Rattle.keep_build.specs.Stored.{stored_of}
use Rattle.keep_backup.specs.Walk.{blobs_of, walk_refusal, root_tree}
use Rattle.keep_plan.specs.declared.plan_error.PlanError.{PlanError}
use Rattle.keep_plan.specs.declared.plan_error.PlanError.TheVariants as the_error
use Rattle.keep_plan.specs.declared.stored.Stored.{Stored}

-- ---- what is stored of the files

abbrev Due : Type 0
Due = Result (Id × Stored) PlanError

module _ (r : Repository) (cut : ℕ) (files : List FileData) where
  abbrev due : Due
  due = Ok (id_of (root_tree cut (root_folder files)), stored_of r (blobs_of cut (root_folder files)))

  read : unread_in r ≡ [] → unread_first r ≡ None
  read none = ap (λ (us : List Unread). option_map the_error.Unread (slice_get us 0)) none

  -- after the catalog is made
  past : unread_in r ≡ [] → (o : Option PlanError) → walk_refusal cut files ≡ o → stored_files_of r cut files ≡ unless o due
  unfolding stored_files_of
  past none o is = (λ i. unless (read none i) (unless (is i) due))

  pub files_refused : (error : PlanError) → unread_in r ≡ [] → walk_refusal cut files ≡ Some error → stored_files_of r cut files ≡ Err error
  files_refused error none is = past none (Some error) is

  pub files_unread : (error : CatalogError) → option_map the_catalog_error.Unread (slice_get (unread_in r) 0) ≡ Some error → stored_files_of r cut files ≡ Err (of_catalog error)
  unfolding stored_files_of
  files_unread error is = first (slice_get (unread_in r) 0) refl is where
    first : (o : Option Unread) → slice_get (unread_in r) 0 ≡ o → option_map the_catalog_error.Unread o ≡ Some error
        → unless (unread_first r) (unless (walk_refusal cut files) due) ≡ Err (of_catalog error)
    first None same is = cc is
    first (Some u) same is =
        let e : the_catalog_error.Unread u ≡ error = cc is in
        ap (λ (x : Option Unread). unless (option_map the_error.Unread x) (unless (walk_refusal cut files) due)) same
        ∙ ap (λ (x : CatalogError). Err (of_catalog x)) e

  pub files_stored : (tree : Id) (stored : Stored) → unread_in r ≡ [] → list_any is_too_deep (map path_of files) ≡ false
      → list_any is_full (blobs_of cut (root_folder files)) ≡ false → tree ≡ id_of (root_tree cut (root_folder files))
      → stored ≡ stored_of r (blobs_of cut (root_folder files)) → stored_files_of r cut files ≡ Ok (tree, stored)
  files_stored tree stored none low short tree_is stored_is =
      past none None (λ i. cond (low i) (Some the_error.TooDeep) (cond (short i) (Some the_error.Full) None))
      ∙ (λ i. Ok ((sym tree_is) i, (sym stored_is) i))

-- ---- the plan

module _ (r : Repository) (facts : FactsData) (cut : ℕ) (given : List (List ℕ × List ℕ)) where
  pub with_files : (o : Result (List FileData) PlanError) → files_in_order given ≡ o → backup_change r facts cut given ≡ backup_of r facts cut o
  unfolding backup_change
  with_files o is = ap (backup_of r facts cut) is

  pub bad_files : (error : PlanError) → files_in_order given ≡ Err error → backup_change r facts cut given ≡ Err error
  bad_files error is = with_files (Err error) is

  module _ (files : List FileData) (files_are : files_in_order given ≡ Ok files) where
    pub late : is_none (time_in facts.time) ≡ true → backup_change r facts cut given ≡ Err the_error.BadTime
    late none =
        with_files (Ok files) files_are
        ∙ ap (λ t. unless (cond t (Some the_error.BadTime) None) (planned_of r facts (stored_files_of r cut files))) none

    timed : is_none (time_in facts.time) ≡ false → (made : Due) → stored_files_of r cut files ≡ made → backup_change r facts cut given ≡ planned_of r facts made
    timed some made is =
        with_files (Ok files) files_are
        ∙ (λ i. unless (cond (some i) (Some the_error.BadTime) None) (planned_of r facts (is i)))

    pub none_stored : (error : PlanError) → is_none (time_in facts.time) ≡ false → stored_files_of r cut files ≡ Err error → backup_change r facts cut given ≡ Err error
    none_stored error some is = timed some (Err error) is

    module _ (tree : Id) (stored : Stored) (snapshot : NamedBytes) (some : is_none (time_in facts.time) ≡ false)
        (is : stored_files_of r cut files ≡ Ok (tree, stored)) (snapshot_is : snapshot ≡ snapshot_file facts tree) where
      with_snapshot : backup_change r facts cut given ≡ planned r stored snapshot
      with_snapshot = timed some (Ok (tree, stored)) is ∙ ap (planned r stored) (sym snapshot_is)

      pub snapshot_there : is_there r snapshot.name ≡ true → backup_change r facts cut given ≡ Err the_error.SnapshotThere
      snapshot_there there = with_snapshot ∙ ap (λ t. cond t (Err the_error.SnapshotThere) (Ok (change_of stored snapshot))) there

      pub change_made : (change : Change) → is_there r snapshot.name ≡ false → change ≡ change_of stored snapshot → backup_change r facts cut given ≡ Ok change
      change_made change absent change_is =
          with_snapshot ∙ ap (λ t. cond t (Err the_error.SnapshotThere) (Ok (change_of stored snapshot))) absent
          ∙ ap Ok (sym change_is)

-- without files no path is refused before the time
pub late_alone : (r : Repository) (facts : FactsData) (cut : ℕ) (files : List (String Global × Vec ℕ)) → length files ≡ 0 → is_none (time_in facts.time) ≡ true
    → backup_change r facts cut (map given_view files) ≡ Err the_error.BadTime
unfolding files_in_order
late_alone r facts cut [] none bad = late r facts cut [] (by_path []) refl bad
late_alone r facts cut (f ∷ fs) none bad = cc none

-- ---- the snapshot

pub snapshot_carried : (facts : FactsData) (tags : List (List ℕ)) (tree : Id) → IsCarried (tagged_snapshot facts tags tree)
snapshot_carried facts tags tree = record { apart = refl; dir_stands = tt; others_stand = (refl, lit< tt) }

pub file_made : (facts : FactsData) (tags : List (List ℕ)) (tree : Id) (s : SnapData) (text : List ℕ) (file : NamedBytes) → s ≡ tagged_snapshot facts tags tree
    → (IsCarried s → text ≡ compact_text (snap_data s)) → file ≡ file_of Snapshot text → file ≡ tagged_file facts tags tree
unfolding tagged_file
file_made facts tags tree s text file s_is text_is file_is =
    let same : text ≡ compact_text (snap_data (tagged_snapshot facts tags tree)) = text_is (subst IsCarried (sym s_is) (snapshot_carried facts tags tree)) ∙ ap (λ (x : SnapData). compact_text (snap_data x)) s_is in
    file_is ∙ ap (file_of Snapshot) same

-- a snapshot without tags
pub untagged : (facts : FactsData) (tree : Id) → tagged_file facts [] tree ≡ snapshot_file facts tree
unfolding tagged_file snapshot_file
untagged facts tree = refl
