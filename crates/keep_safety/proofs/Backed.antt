-- The change of a backup is safe.
use Rattle.std.proofs.Common.{◌≡◌, ℕ, Bool, true, false, cond, List, [], ◌∷◌, ◌++◌, map, All, IsSome, IsUtf8, Option, None, Some, is_none, is_some, Result, Ok, Err, String, lit<, refl, sym, ap, subst, ◌∙◌}
use Rattle.std.proofs.lemmas.Bool.{or_left}
use Rattle.std.proofs.lemmas.List.{map-append}
use Rattle.std.proofs.lemmas.List.Elements.{All-from_recursion, All-push, recursion_from_All}
use Rattle.std.proofs.lemmas.List.Folds.{list_any-append}
use Rattle.std.proofs.lemmas.Str.{IsUtf8-string_bytes}
use Rattle.std.specs.Global.{Global, Vec}
use Rattle.std.specs.List.{AllByRecursion, list_any}
use Rattle.serde_json.specs.Written.{compact_text}
use Rattle.keep_names.specs.Laws.{DigestsAreIds}
use Rattle.keep_names.specs.declared.blob.BlobId.{BlobId}
use Rattle.keep_names.specs.declared.file_name.FileName.{FileName}
use Rattle.keep_names.specs.declared.file_name.Kind.TheVariants.{Index, Pack, Snapshot}
use Rattle.keep_names.specs.declared.id.Id.{Id}
use Rattle.keep_repo.specs.Repository.{Repository}
use Rattle.keep_change.specs.Filling.{has_name}
use Rattle.keep_change.specs.Lists.{file_names}
use Rattle.keep_change.specs.NamedBytes.{NamedBytes}
use Rattle.keep_change.specs.declared.change.Change.{Change}
use Rattle.keep_snap.specs.Shape.{IsSnap}
use Rattle.keep_snap.specs.Snap as snap_reading
use Rattle.keep_snap.specs.Snap.{SnapData}
use Rattle.keep_snap.specs.Time.{time_in}
use Rattle.keep_snap.specs.Written.{snap_data}
use Rattle.keep_snap.specs.declared.time.Time.{Time}
use Rattle.keep_catalog.specs.Files.{snap_of}
use Rattle.keep_plan.specs.Refusal.{unless, unread_first}
use Rattle.keep_plan.specs.Storing.{is_there}
use Rattle.keep_plan.specs.declared.plan_error.PlanError.{PlanError}
use Rattle.keep_plan.specs.declared.plan_error.PlanError.TheVariants.{BadTime, Full, SnapshotThere, TooDeep}
use Rattle.keep_plan.specs.declared.stored.Stored.{Stored}
use Rattle.keep_sound.specs.Careful.{GivesPlace, IsSafe}
use Rattle.keep_sound.specs.Met.{AddsPart, IsIn, IsPartOf}
use Rattle.keep_sound.specs.Plans.{BacksUp}
use Rattle.keep_backup.specs.Backup.{FactsData, backup_change, backup_of, change_of, planned, planned_of, snapshot_file, snapshot_of, stored_files_of}
use Rattle.keep_build.specs.Blobs.{BlobData, id_of, is_full}
use Rattle.keep_backup.specs.Files.{given_view}
use Rattle.keep_backup.specs.Folders.{root_folder}
use Rattle.keep_backup.specs.Paths.{FileData, files_in_order, is_too_deep, path_of}
use Rattle.keep_safety.specs.SafeBackup.{AreTexts, BackupIsSafe, BackupsAreTexts, HaveTextPaths, MeetsBackup, Takes, texts_of}
use Rattle.keep_build.specs.Stored.{built, index_file, pack_file, packs_built, stored_of}
use Rattle.keep_backup.specs.Walk.{blobs_of, root_tree, walk_refusal}
use Rattle.keep_safety.proofs.Texts.{all_strings}
use Rattle.keep_safety.proofs.Closed.{root_there, texts_some, walk_closed}
use Rattle.keep_build.proofs.Built.{adds_so, built_so}
use Rattle.keep_safety.proofs.Entries.{index_name, pack_name}
use Rattle.keep_safety.proofs.GoodNames.{ordered_good}
use Rattle.keep_safety.proofs.KeptBlobs.{named_any}
use Rattle.keep_safety.proofs.Known.{KnownOfBackups}
use Rattle.keep_backup.proofs.Planning.{with_files}
use Rattle.keep_safety.proofs.WalkTrees.{root_trees}

-- ---- what is planned

abbrev root_of : ℕ → List FileData → Id
root_of cut files = id_of (root_tree cut (root_folder files))

abbrev walked : ℕ → List FileData → List BlobData
walked cut files = blobs_of cut (root_folder files)

-- the change that stores the walk and adds the snapshot
abbrev whole : Repository → FactsData → ℕ → List FileData → Change
whole r facts cut files = change_of (stored_of r (walked cut files)) (snapshot_file facts (root_of cut files))

-- the time is one, no blob is too long, and this is the change
record IsPlanned (r : Repository) (facts : FactsData) (cut : ℕ) (files : List FileData) (c : Change) : Type 0 where
  timed : IsSome (time_in facts.time)
  short : list_any is_full (walked cut files) ≡ false
  change : c ≡ whole r facts cut files

module _ (r : Repository) (facts : FactsData) (cut : ℕ) (files : List FileData) (c : Change) where
  abbrev due : Result (Id × Stored) PlanError
  due = Ok (root_of cut files, stored_of r (walked cut files))

  -- each refusal in turn isn't the reason
  when_planned : IsSome (time_in facts.time) → list_any is_full (walked cut files) ≡ false
      → planned r (stored_of r (walked cut files)) (snapshot_file facts (root_of cut files)) ≡ Ok c → IsPlanned r facts cut files c
  when_planned timed short is = cases (is_there r (snapshot_file facts (root_of cut files)).name) is where
    cases : (b : Bool) → cond b (Err SnapshotThere) (Ok (whole r facts cut files)) ≡ Ok c → IsPlanned r facts cut files c
    cases true h = cc h
    cases false h = record { timed = timed; short = short; change = cc h }

  when_walked : IsSome (time_in facts.time) → (deep full : Bool) → list_any is_full (walked cut files) ≡ full
      → planned_of r facts (unless (cond deep (Some TooDeep) (cond full (Some Full) None)) due) ≡ Ok c → IsPlanned r facts cut files c
  when_walked timed true full full_is h = cc h
  when_walked timed false true full_is h = cc h
  when_walked timed false false short h = when_planned timed short h

  when_read : IsSome (time_in facts.time) → (unread : Option PlanError) → planned_of r facts (unless unread (unless (walk_refusal cut files) due)) ≡ Ok c → IsPlanned r facts cut files c
  when_read timed (Some why) h = cc h
  when_read timed None h = when_walked timed (list_any is_too_deep (map path_of files)) (list_any is_full (walked cut files)) refl h

  when_stored : IsSome (time_in facts.time) → planned_of r facts (stored_files_of r cut files) ≡ Ok c → IsPlanned r facts cut files c
  unfolding stored_files_of
  when_stored timed h = when_read timed (unread_first r) h

  when_timed : backup_of r facts cut (Ok files) ≡ Ok c → IsPlanned r facts cut files c
  when_timed h = cases (time_in facts.time) refl h where
    cases : (o : Option Time) → time_in facts.time ≡ o → unless (cond (is_none o) (Some BadTime) None) (planned_of r facts (stored_files_of r cut files)) ≡ Ok c → IsPlanned r facts cut files c
    cases None none g = cc g
    cases (Some time) some g = when_stored (ap is_some some) g

  is_planned : (given : List (List ℕ × List ℕ)) → files_in_order given ≡ Ok files → backup_change r facts cut given ≡ Ok c → IsPlanned r facts cut files c
  is_planned given files_are is = when_timed (sym (with_files r facts cut given (Ok files) files_are) ∙ is)

-- ---- the snapshot

-- a document can hold the snapshot
snapshot_stands : DigestsAreIds → (facts : FactsData) → AreTexts facts → (tree : BlobData) → IsSome (time_in facts.time) → IsSnap (snapshot_of facts (id_of tree))
snapshot_stands digests facts texts tree timed = record {
  timed = timed;
  time = texts.time;
  tree = digests tree.1;
  paths = texts.paths;
  hostname = texts.host;
  username = texts.user;
  tags = All-from_recursion IsUtf8 [] tt;
  original = tt;
  dir = tt;
  carried = tt;
  nests = lit< tt;
  apart = refl;
}

snapshot_bytes : (facts : FactsData) (tree : Id) → (snapshot_file facts tree).bytes ≡ compact_text (snap_data (snapshot_of facts tree))
unfolding snapshot_file
snapshot_bytes facts tree = refl

reads_snapshot : (bytes : List ℕ) (s : SnapData) → snap_reading.snap_of bytes ≡ Ok s → snap_of bytes ≡ Ok s
unfolding snap_of
reads_snapshot bytes s is = is

-- the file, if it is a snapshot, says this root
abbrev HasRoot : Id → NamedBytes → Type 0
HasRoot root f = f.name.kind ≡ Snapshot → (snap : SnapData) → snap_of f.bytes ≡ Ok snap → snap.tree ≡ root

-- what is built is no snapshot
pack_apart : (root : Id) (pack : List BlobData) → HasRoot root (pack_file pack)
pack_apart root pack kind snap read =
    let is : Pack ≡ Snapshot = sym (ap (λ (n : FileName). n.kind) (pack_name pack)) ∙ kind in
    cc is

index_apart : (root : Id) (packs : List (List BlobData)) → HasRoot root (index_file packs)
index_apart root packs kind snap read =
    let is : Index ≡ Snapshot = sym (ap (λ (n : FileName). n.kind) (index_name packs)) ∙ kind in
    cc is

module _ (known : KnownOfBackups) (facts : FactsData) (texts : AreTexts facts) (tree : BlobData) (timed : IsSome (time_in facts.time)) where
  -- and the backup's snapshot is read back with its root
  snapshot_root : HasRoot (id_of tree) (snapshot_file facts (id_of tree))
  snapshot_root kind snap read =
      let said : SnapData = snapshot_of facts (id_of tree) in
      let back : snap_of (snapshot_file facts (id_of tree)).bytes ≡ Ok said =
      ap snap_of (snapshot_bytes facts (id_of tree))
      ∙ reads_snapshot (compact_text (snap_data said)) said (known.snapshots said (snapshot_stands known.digests facts texts tree timed)) in
      let both : Ok snap ≡ Ok said = sym read ∙ back in
      let same : snap ≡ said = cc both in
      ap (λ (s : SnapData). s.tree) same

-- ---- the change

-- it has what is stored
takes_all : (stored : Stored) (snapshot : NamedBytes) → Takes (change_of stored snapshot) stored
takes_all stored snapshot = record {
  adds = λ name has.
      ap (λ (names : List FileName). has_name names name) (map-append (λ (f : NamedBytes). f.name) stored.adds (snapshot ∷ []))
      ∙ list_any-append _ (file_names stored.adds) (snapshot.name ∷ [])
      ∙ or_left (has_name (file_names stored.adds) name) (has_name (snapshot.name ∷ []) name) has;
  present = λ name has. has;
  clears = λ pack has. has;
  unmarked = λ pack has. has;
}

module _ (r all : Repository) (facts : FactsData) (cut : ℕ) (files : List FileData) where
  -- what it adds is met
  adds_met : MeetsBackup all r facts cut files → AddsPart all (whole r facts cut files)
  adds_met met =
      All-push (IsIn all) (stored_of r (walked cut files)).adds (snapshot_file facts (root_of cut files))
      (All-from_recursion (IsIn all) (stored_of r (walked cut files)).adds (adds_so r (IsIn all) (walked cut files) (recursion_from_All (IsIn all) (built r (walked cut files)) met.built)))
      met.snapshot

  module _ (known : KnownOfBackups) (texts : AreTexts facts) (timed : IsSome (time_in facts.time)) where
    -- its snapshot has the root of the walk
    adds_rooted : All (HasRoot (root_of cut files)) ((stored_of r (walked cut files)).adds ++ snapshot_file facts (root_of cut files) ∷ [])
    adds_rooted =
        let root : Id = root_of cut files in
        All-push (HasRoot root) (stored_of r (walked cut files)).adds (snapshot_file facts root)
        (All-from_recursion (HasRoot root) (stored_of r (walked cut files)).adds
        (adds_so r (HasRoot root) (walked cut files) (built_so (HasRoot root) (pack_apart root) (index_apart root) (packs_built r (walked cut files)))))
        (snapshot_root known facts texts (root_tree cut (root_folder files)) timed)

    module _ (given : List (List ℕ × List ℕ)) (paths : HaveTextPaths given) (files_are : files_in_order given ≡ Ok files)
        (short : list_any is_full (walked cut files) ≡ false) (part : IsPartOf r all) (met : MeetsBackup all r facts cut files) where
      -- each blob of the walk is given
      blob_given : (name : BlobId) → IsSome (texts_of (walked cut files) name) → GivesPlace all (whole r facts cut files) name
      blob_given name has =
          known.storing r all (walked cut files) (whole r facts cut files) part short met.built
          (takes_all (stored_of r (walked cut files)) (snapshot_file facts (root_of cut files)))
          name (named_any name (walked cut files) ∙ sym (texts_some name (walked cut files)) ∙ has)

      backs_up : BacksUp all (whole r facts cut files) (texts_of (walked cut files)) (root_of cut files)
      backs_up = record {
        no_marks = refl;
        no_drops = refl;
        snapshots = adds_rooted;
        top = root_there known.blobs known.trees cut (root_folder files);
        closed = walk_closed known.blobs known.trees cut (root_folder files) (root_trees known.digests cut files (ordered_good given files paths files_are));
        given = blob_given;
      }

pub backup_safe : KnownOfBackups → BackupIsSafe
backup_safe known r all snapshots facts cut given files c files_are is texts paths met meets =
    let plan : IsPlanned r facts cut files c = is_planned r facts cut files c given files_are is in
    let change : Change = whole r facts cut files in
    let made : backup_change r facts cut given ≡ Ok change = is ∙ ap Ok plan.change in
    let safe : IsSafe all snapshots change =
    known.backing_up all snapshots change (texts_of (walked cut files)) (root_of cut files) met.one_text
    (known.well_formed r facts cut given change made).once
    (adds_met r all facts cut files meets) meets.texts
    (backs_up r all facts cut files known texts plan.timed given paths files_are plan.short met.part meets) in
    subst (IsSafe all snapshots) (sym plan.change) safe

-- what is asked for in texts

all_paths : (given : List (String Global × Vec ℕ)) → AllByRecursion (λ (g : List ℕ × List ℕ). IsUtf8 g.0) (map given_view given)
all_paths [] = tt
all_paths (g ∷ gs) = (IsUtf8-string_bytes g.0, all_paths gs)

pub backups_are_texts : BackupsAreTexts
backups_are_texts facts given = (
  record {
    host = IsUtf8-string_bytes facts.host;
    user = IsUtf8-string_bytes facts.user;
    paths = all_strings facts.paths.items;
    time = IsUtf8-string_bytes facts.time;
  },
  All-from_recursion (λ (g : List ℕ × List ℕ). IsUtf8 g.0) (map given_view given) (all_paths given),
)
