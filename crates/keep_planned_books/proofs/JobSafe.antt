-- The change of a job is safe: whatever snapshots are known, or, if it is strict, where those are known that were shown.
use Rattle.std.proofs.Common.{◌≡◌, inl, inr, ℕ, Bool, true, false, cond, List, [], ◌∷◌, Option, None, Some, option_map, unwrap_or, Result, Ok, Err, refl, sym, ap, subst, ◌∙◌}
use Rattle.std.proofs.lemmas.List.Elements.{recursion_from_All}
use Rattle.std.specs.FinSet as set
use Rattle.std.specs.List.{AllByRecursion, find}
use Rattle.std.specs.Result.{result_unwrap_or}
use Rattle.keep_names.specs.Laws.{TellsApart}
use Rattle.keep_names.specs.Orders.{blob_cmp}
use Rattle.keep_names.specs.declared.blob.BlobId.{BlobId}
use Rattle.keep_names.specs.declared.id.Id.{Id}
use Rattle.keep_repo.specs.Repository.{Repository}
use Rattle.keep_patterns.specs.Parsing.{PatternData}
use Rattle.keep_change.specs.declared.change.Change.{Change}
use Rattle.keep_plan.specs.declared.pick.Pick.{Pick}
use Rattle.keep_catalog.specs.Orders.{blob_eq}
use Rattle.keep_catalog.specs.Places.{bytes_at, is_honest}
use Rattle.keep_catalog.specs.declared.spot.Spot.{Spot}
use Rattle.keep_plan.specs.declared.plan_error.PlanError.{PlanError}
use Rattle.keep_reach.specs.Sound.{IsSound}
use Rattle.keep_sound.specs.Careful.{IsSafe}
use Rattle.keep_sound.specs.Met.{AddsPart, IsIn}
use Rattle.keep_sound.specs.Plans.{AreMet}
use Rattle.keep_view.specs.Shown.{Shown}
use Rattle.keep_backup.proofs.Planning.{with_files}
use Rattle.keep_backup.specs.Backup.{FactsData, backup_change}
use Rattle.keep_build.specs.Blobs.{BlobData, blob_id_of}
use Rattle.keep_backup.specs.Paths.{FileData, files_in_order}
use Rattle.keep_rewrite.specs.Rewriting.{rewrite_change}
use Rattle.keep_jobs.specs.Job.{Backup, Filtered, Forget, JobData, Mark, Repair, Rewrite, SettingsData, Sweep, Tag, TaskData, job_change, rewriting, task_change}
use Rattle.keep_jobs.specs.Patterns.{patterns_in}
use Rattle.keep_safety.specs.Met.{AreFiles, IsMet}
use Rattle.keep_safety.specs.SafeBackup.{BackupIsSafe, MeetsBackup, texts_of}
use Rattle.keep_safety.specs.SafeLabels.{ForgetIsSafe, TaggingIsSafe}
use Rattle.keep_safety.specs.SafeMark.{MarkIsSafe, MarkIsStrict}
use Rattle.keep_safety.specs.SafeReindexing.{RepairIsSafe, SweepIsSafe}
use Rattle.keep_safety.specs.SafeRewrite.{IsOneText, MeetsRewrite, RewriteIsSafe}
use Rattle.keep_sound.specs.Restic.{SafeKeepsWhole, restic}
use Rattle.keep_sound.specs.Whole.{IsWhole}
use Rattle.keep_planned_books.specs.Jobs.{KeepsFor, PlannedChangesKeep, IsText, Meets, TaskIsText, blobs_built, others_built}

-- the laws on which that rests
pub record PlansAreSafe : Type 0 where
  pub blobs : TellsApart blob_cmp
  pub backup : BackupIsSafe
  pub tagging : TaggingIsSafe
  pub forget : ForgetIsSafe
  pub rewrite : RewriteIsSafe
  pub repair : RepairIsSafe
  pub mark : MarkIsSafe
  pub strict : MarkIsStrict
  pub sweep : SweepIsSafe

-- by patterns that are spelt
by_patterns : (P : Type 0) (r : Repository) (rule : Pick) (forget : Bool) (found : Option (List PatternData)) (c : Change)
    → ((patterns : List PatternData) → found ≡ Some patterns → rewrite_change r rule patterns forget ≡ Ok c → P) → rewriting r rule forget found ≡ Ok c → P
by_patterns P r rule forget None c so is = cc is
by_patterns P r rule forget (Some patterns) c so is = so patterns refl is

-- blobs that stand for one text each are met by their names
met_texts : TellsApart blob_cmp → (all : Repository) (blobs : List BlobData) → AllByRecursion (IsOneText all) blobs → AreMet all (texts_of blobs)
met_texts apart all [] h name text is = cc is
met_texts apart all (b ∷ blobs) h name text is = cases (met_texts apart all blobs h.1 name text) (blob_eq name (blob_id_of b)) refl is where
  cases : (texts_of blobs name ≡ Some text → (spot : Spot) → is_honest all name spot ≡ true → bytes_at all spot ≡ Some text)
      → (t : Bool) → blob_eq name (blob_id_of b) ≡ t → option_map (λ (x : BlobData). x.1) (cond t (Some b) (find (λ (x : BlobData). blob_eq name (blob_id_of x)) blobs)) ≡ Some text
      → (spot : Spot) → is_honest all name spot ≡ true → bytes_at all spot ≡ Some text
  cases later true same found spot honest =
      let named_so : name ≡ blob_id_of b = (apart name (blob_id_of b)).0 same in
      let bytes : b.1 ≡ text = cc found in
      h.0 spot (subst (λ (x : BlobId). is_honest all x spot ≡ true) named_so honest) ∙ ap Some bytes
  cases later false other found spot honest = later found spot honest

module _ (laws : PlansAreSafe) (all : Repository) (shown : Shown) (met : IsMet all shown.repo) (files : AreFiles shown.repo) (settings : SettingsData) (c : Change) (adds : AddsPart all c) (known : Id → Bool) where
  -- what a backup builds is met, where these are its files in order
  abbrev BackupBuilt : FactsData → Result (List FileData) PlanError → Type 0
  BackupBuilt facts ordered = MeetsBackup all shown.repo facts settings.cut (result_unwrap_or ordered [])

  backup_built : (facts : FactsData) (given : List (List ℕ × List ℕ)) → Meets all shown settings (Backup facts given) → BackupBuilt facts (files_in_order given)
  backup_built facts given meets = record {
    built = meets.stored;
    snapshot = (recursion_from_All (IsIn all) (others_built shown settings (Backup facts given)) meets.others).0;
    texts = met_texts laws.blobs all (blobs_built shown settings (Backup facts given)) (recursion_from_All (IsOneText all) (blobs_built shown settings (Backup facts given)) meets.blobs);
  }

  backup_safe : (facts : FactsData) (given : List (List ℕ × List ℕ)) → IsText (Backup facts given) → Meets all shown settings (Backup facts given)
      → backup_change shown.repo facts settings.cut given ≡ Ok c → IsSafe all known c
  backup_safe facts given text meets is = cases (files_in_order given) refl where
    cases : (o : Result (List FileData) PlanError) → files_in_order given ≡ o → IsSafe all known c
    cases (Err why) refused =
        let bad : Err why ≡ Ok c = sym (with_files shown.repo facts settings.cut given (Err why) refused) ∙ is in
        cc bad
    cases (Ok ordered) taken =
        laws.backup shown.repo all known facts settings.cut given ordered c taken is text.0 text.1 met (subst (BackupBuilt facts) taken (backup_built facts given meets))

  -- what a rewrite builds is met, where these are its patterns
  abbrev RewriteBuilt : Pick → Option (List PatternData) → Type 0
  RewriteBuilt rule patterns = MeetsRewrite all shown.repo rule (unwrap_or patterns [])

  task_safe : (rule : Pick) (task : TaskData) → TaskIsText task → Meets all shown settings (Filtered rule task) → task_change shown.repo rule task ≡ Ok c → IsSafe all known c
  task_safe rule (Tag edit) text meets is = laws.tagging shown.repo all known rule edit c is text met files adds
  task_safe rule (Forget policy) text meets is = laws.forget shown.repo all known rule policy c is met.one_text
  task_safe rule (Rewrite forget texts) text meets is =
      let here : RewriteBuilt rule (patterns_in texts) = record { built = meets.stored; trees = meets.blobs } in
      by_patterns (IsSafe all known c) shown.repo rule forget (patterns_in texts) c
      (λ patterns same made. laws.rewrite shown.repo all known rule patterns forget c made met files adds (subst (RewriteBuilt rule) same here)) is

pub job_safe : (laws : PlansAreSafe) (all : Repository) (shown : Shown) → IsMet all shown.repo → AreFiles shown.repo → (settings : SettingsData) (job : JobData) (c : Change)
    → IsText job → Meets all shown settings job → AddsPart all c → job_change shown settings job ≡ Ok c → KeepsFor IsSound all shown c
job_safe laws all shown met files settings (Backup facts given) c text meets adds is =
    inl (λ known. backup_safe laws all shown met files settings c adds known facts given text meets is)
job_safe laws all shown met files settings (Filtered rule task) c text meets adds is =
    inl (λ known. task_safe laws all shown met files settings c adds known rule task text meets is)
job_safe laws all shown met files settings Repair c text meets adds is = inl (λ known. laws.repair shown.repo all known c is met files meets.others)
job_safe laws all shown met files settings Mark c text meets adds is =
    inr (laws.strict shown.repo shown.known settings.now c is, laws.mark shown.repo all shown.known settings.now c is met)
job_safe laws all shown met files settings (Sweep wait) c text meets adds is =
    inl (λ known. laws.sweep shown.repo all known settings.now wait c is met meets.others)

pub planned_safe : PlansAreSafe → PlannedChangesKeep IsSound
planned_safe laws all shown p files met of =
    job_safe laws all shown met (λ name text is. files name text (met.part name text is)) of.settings of.job p.change of.text of.meets of.adds of.change

-- and a whole repository whole
pub planned_whole : SafeKeepsWhole → PlannedChangesKeep IsSound → PlannedChangesKeep (IsWhole restic)
planned_whole keeps plans all shown p files met of = cases (plans all shown p files met of) where
  cases : KeepsFor IsSound all shown p.change → KeepsFor (IsWhole restic) all shown p.change
  cases (inl any) = inl (λ known. keeps all known p.change met.one_text of.adds (any known))
  cases (inr (strict, safe)) = inr (strict, keeps all (set.contains shown.known) p.change met.one_text of.adds safe)
