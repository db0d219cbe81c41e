-- Parts that are committed.
use Rattle.std.proofs.Common.{◌≡◌, ◌≢◌, ◌≤◌, inl, inr, ℕ, List, Option, None, Some, Result, Ok, Err, OnOk, IfErr, IfOk, IfSome, option_map, append-nil, refl, ap, ◌∙◌, sym, subst, rules}
use Rattle.std.specs.Option.{unwrap_or}
use Rattle.std.proofs.Math.Logic.{∥∥₁_elim, ∥∥₁_map, ∥∥₁_prop}
use Rattle.keep_acts.specs.Shown.{shown_by}
use Rattle.keep_acts.specs.declared.made.Made.{Made}
use Rattle.keep_archive.specs.Archive.{ArchiveData, archive_view}
use Rattle.keep_archive.specs.Plans.{last_change, last_differing, last_due, of_open, part_change, part_differing, part_due}
use Rattle.keep_archive.specs.Steps.{Leaves, LetsGo, never}
use Rattle.keep_archive.specs.declared.not_planned.NotPlanned.{NotPlanned}
use Rattle.keep_archive.specs.declared.not_planned.NotPlanned.TheVariants as refused
use Rattle.keep_archive.proofs.Differing.{named_so, none_so}
use Rattle.keep_backup.specs.Backup.{FactsData}
use Rattle.keep_change.specs.declared.change.Change.{Change}
use Rattle.keep_change.specs.declared.change.Planned.{Planned}
use Rattle.keep_journal.specs.History.{length_of}
use Rattle.keep_journal.specs.declared.request.Request.TheVariants.{Commit}
use Rattle.keep_plan.specs.declared.plan_error.PlanError.TheVariants.{Memory}
use Rattle.keep_ledger.specs.LedgerState.{LedgerState}
use Rattle.keep_ledger.specs.Made.{with_event}
use Rattle.keep_ledger.specs.declared.reply.Refusal.{Refusal}
use Rattle.keep_names.specs.declared.file_name.FileName.{FileName}
use Rattle.keep_sources.specs.Told.{Told}
use Rattle.keep_sources.specs.declared.scope.Scope.{Scope}
use Rattle.keep_view.specs.Planned.{IsPlannedOn}
use Rattle.keep_backups.specs.Holding.{held_of}
use Rattle.keep_backups.specs.Parts.{AddsSnapshot, BacksUp, IsCause, IsCauseIfAny, IsLastOn, IsPartOn, StoresParts, none, of_archive, one_more}
use Rattle.keep_backups.specs.Taken.{kept_in, taken_in, taken_of}
use Rattle.keep_backups.specs.Trees.{IsTreeOf}
use Rattle.keep_backups.specs.declared.backed_up.BackedUp.{BackedUp}
use Rattle.keep_backups.specs.declared.intake.Filled.{Filled}
use Rattle.keep_backups.specs.declared.not_backed_up.NotBackedUp.{NotBackedUp}
use Rattle.keep_backups.specs.declared.not_backed_up.NotBackedUp.TheVariants.{Unplanned}

-- nothing was committed yet
pub none_yet : (before now : LedgerState) → now ≡ before → StoresParts before now
none_yet before now is = subst (λ (s : LedgerState). StoresParts before s) (sym is) (none before)

-- what an open archive plans is a part of it
pub is_part : (archive : Option ArchiveData) (now : LedgerState) (planned : Planned)
    → of_open (part_due (shown_by now).repo) archive ≡ Ok (Some planned.change)
    → planned.seen ≡ length_of now.events → IsPartOn now planned
is_part None now planned is seen = cc is
is_part (Some a) now planned is seen = record { archive = a; part = is; seen = seen }

-- what is planned is a part, if it is something
pub is_part_if_any : (archive : Option ArchiveData) (now : LedgerState) (part : Option Planned)
    → of_open (part_due (shown_by now).repo) archive ≡ Ok (option_map (λ (planned : Planned). planned.change) part)
    → IfSome part (IsPlannedOn (shown_by now)) → IfSome part (λ planned. ∥ IsPartOn now planned ∥₁)
is_part_if_any archive now (Some planned) is on = ∣ is_part archive now planned is on.seen ∣₁
is_part_if_any archive now None is on = tt

-- ---- files that are there with other bytes

-- where a part is due, or none has to be, no file differs
pub none_differs : (archive : Option ArchiveData) (now : LedgerState) (part : Option Change) → of_open (part_due (shown_by now).repo) archive ≡ Ok part
    → IfSome archive (λ a. part_differing (shown_by now).repo a ≡ None)
none_differs None now part is = tt
none_differs (Some a) now part is = none_so (part_differing (shown_by now).repo a) (part_change (shown_by now).repo a) part is

not_memory : (file : FileName) → refused.Differs file ≢ refused.Unplanned Memory
not_memory file same = cc same

-- the file that is named differs for a part
pub part_cause : (archive : Option ArchiveData) (now : LedgerState) (why : NotPlanned)
    → (why ≢ refused.Unplanned Memory → of_open (part_due (shown_by now).repo) archive ≡ Err why) → ∥ IsCause now (of_archive why) ∥₁
part_cause archive now (refused.Unplanned error) is = ∣ tt ∣₁
part_cause None now (refused.Differs file) is = cc (is (not_memory file))
part_cause (Some a) now (refused.Differs file) is = ∣ record {
  archive = a;
  is = inl (named_so (part_differing (shown_by now).repo a) (part_change (shown_by now).repo a) file (is (not_memory file)));
} ∣₁

-- the file that is named differs for the last change
pub last_cause : (archive : Option ArchiveData) (now : LedgerState) (facts : FactsData) (tags : List (List ℕ)) (why : NotPlanned)
    → (why ≢ refused.Unplanned Memory → of_open (last_due (shown_by now).repo facts tags) archive ≡ Err why) → ∥ IsCause now (of_archive why) ∥₁
last_cause archive now facts tags (refused.Unplanned error) is = ∣ tt ∣₁
last_cause None now facts tags (refused.Differs file) is = cc (is (not_memory file))
last_cause (Some a) now facts tags (refused.Differs file) is = ∣ record {
  archive = a;
  is = inr (named_so (last_differing (shown_by now).repo a) (last_change (shown_by now).repo facts tags a) file (is (not_memory file)));
} ∣₁

-- the cause that was kept is told
pub cause_told : {X : Type 0} (now : LedgerState) (kept : Option NotBackedUp) (result : Result X NotBackedUp)
    → IfErr result (λ cause. cause ≡ unwrap_or kept (Unplanned Memory)) → ∥ IsCauseIfAny now kept ∥₁ → IfErr result (λ cause. ∥ IsCause now cause ∥₁)
cause_told now kept (Ok made) is why = tt
cause_told now None (Err cause) is why = subst (λ (c : NotBackedUp). ∥ IsCause now c ∥₁) (sym is) ∣ tt ∣₁
cause_told now (Some own) (Err cause) is why = subst (λ (c : NotBackedUp). ∥ IsCause now c ∥₁) (sym is) why

-- what holds of all that was taken holds of what is told
pub all_told : {X E F : Type 0} (P : X → Type 0) (filled : Result X E) (result : Result X F) → IfOk result (λ all. filled ≡ Ok all) → IfOk filled P → IfOk result P
all_told {X = X} {E = E} P filled (Ok all) is has = subst (λ (r : Result X E). IfOk r P) is has
all_told P filled (Err cause) is has = tt

-- ---- what is committed

-- a part is one more, and what is refused changes nothing
pub kept : (before old new : LedgerState) (planned : Planned) (result : Result Made Refusal)
    → OnOk result (new ≡ with_event old (Commit planned)) → IfErr result (λ _. new ≡ old)
    → ∥ StoresParts before old ∥₁ → ∥ IsPartOn old planned ∥₁ → ∥ StoresParts before new ∥₁
kept before old new planned (Ok made) is same parts part =
    ∥∥₁_elim parts ∥∥₁_prop (λ all. ∥∥₁_map part (λ one.
    subst (λ (s : LedgerState). StoresParts before s) (sym is) (one_more before old planned all one)))
kept before old new planned (Err refusal) is same parts part =
    subst (λ (s : LedgerState). ∥ StoresParts before s ∥₁) (sym same) parts

-- what an archive plans last is of it, and it is open
pub is_last : (archive : Option ArchiveData) (now : LedgerState) (facts : FactsData) (tags : List (List ℕ)) (planned : Planned)
    → of_open (last_due (shown_by now).repo facts tags) archive ≡ Ok planned.change → planned.seen ≡ length_of now.events
    → (a : ArchiveData) × (archive ≡ Some a) × IsLastOn now a facts tags planned
is_last None now facts tags planned is seen = cc is
is_last (Some a) now facts tags planned is seen = (a, refl, record { last = is; seen = seen })

-- the last change follows the parts, and its snapshot has the tree of what was taken
pub backs_up : (told : Told) (job : Scope) (cut : ℕ) (facts : FactsData) (tags : List (List ℕ)) (before stored after : LedgerState) (filled : Filled)
    (result : Result BackedUp NotBackedUp) → ∥ StoresParts before stored ∥₁
    → IfSome (archive_view filled.archive) (λ archive. IsTreeOf told job cut (kept_in archive.blobs) archive.place.nodes filled.skipped.items)
    → IfOk result (λ _. (archive : ArchiveData) × (archive_view filled.archive ≡ Some archive) × AddsSnapshot stored after archive facts tags)
    → IfOk result (λ done. done.skipped ≡ filled.skipped)
    → IfOk result (λ done. ∥ BacksUp told job cut facts tags before after done.skipped.items ∥₁)
backs_up told job cut facts tags before stored after filled (Ok done) parts tree (archive, is, adds) same =
    let here : IsTreeOf told job cut (kept_in archive.blobs) archive.place.nodes filled.skipped.items =
    subst (λ (view : Option ArchiveData). IfSome view (λ a. IsTreeOf told job cut (kept_in a.blobs) a.place.nodes filled.skipped.items)) is tree in
    ∥∥₁_map parts (λ all. record {
      stored = stored;
      parts = all;
      archive = archive;
      tree = subst (λ skipped. IsTreeOf told job cut (kept_in archive.blobs) archive.place.nodes skipped.items) (sym same) here;
      adds = adds;
    })
backs_up told job cut facts tags before stored after filled (Err cause) parts tree adds same = tt

-- nothing is held once it was let go
pub none_held : (old new : Option ArchiveData) (done : Unit {0}) → Leaves never LetsGo old new (Ok done) → held_of new ≤ 67108864
none_held None new done leaves = absurd leaves
none_held (Some old) new done leaves =
    search (rules, leaves)

-- what was given stays so when it is let go
pub still_taken : (old new : Option ArchiveData) (done : Unit {0}) → Leaves never LetsGo old new (Ok done) → taken_of new ≡ taken_of old
still_taken None new done leaves = absurd leaves
still_taken (Some old) new done (free, made, is, gone) =
    ap taken_of is ∙ ap taken_in gone ∙ (λ i. record { place = old.place; begun = old.begun; kept = (append-nil (kept_in old.blobs)) i })
