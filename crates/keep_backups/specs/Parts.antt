-- What a backup commits: parts of an archive, and then the last change.
use Rattle.std.specs.Prelude.{◌≡◌, ◌⊎◌, ℕ, List, Option, None, Some, Ok}
use Rattle.keep_acts.specs.Shown.{shown_by}
use Rattle.keep_archive.specs.Archive.{ArchiveData}
use Rattle.keep_archive.specs.Plans.{last_differing, last_due, part_differing, part_due}
use Rattle.keep_archive.specs.declared.not_planned.NotPlanned.{NotPlanned}
use Rattle.keep_archive.specs.declared.not_planned.NotPlanned.TheVariants as not_planned
use Rattle.keep_backup.specs.Backup.{FactsData}
use Rattle.keep_change.specs.declared.change.Planned.{Planned}
use Rattle.keep_journal.specs.History.{length_of}
use Rattle.keep_journal.specs.declared.request.Request.TheVariants.{Commit}
use Rattle.keep_ledger.specs.LedgerState.{LedgerState}
use Rattle.keep_ledger.specs.Made.{with_event}
use Rattle.keep_names.specs.declared.file_name.FileName.{FileName}
use Rattle.keep_sources.specs.Told.{Told}
use Rattle.keep_sources.specs.declared.scope.Scope.{Scope}
use Rattle.keep_sources.specs.declared.skipped.Skipped.{Skipped}
use Rattle.keep_backups.specs.Taken.{kept_in}
use Rattle.keep_backups.specs.Trees.{IsTreeOf}
use Rattle.keep_backups.specs.declared.not_backed_up.NotBackedUp.{NotBackedUp}
use Rattle.keep_backups.specs.declared.not_backed_up.NotBackedUp.TheVariants.{Differs, Refused, Unplanned}

-- it is planned on what the book shows, and stores just what an archive holds: none of the files that were built for it
-- is there with other bytes
pub record IsPartOn (now : LedgerState) (planned : Planned) : Type 0 where
  pub archive : ArchiveData
  pub part : part_due (shown_by now).repo archive ≡ Ok (Some planned.change)
  pub seen : planned.seen ≡ length_of now.events

-- parts are committed one after another, and nothing else is
pub data StoresParts : LedgerState → LedgerState → Type 0 where
  none : (before : LedgerState) → StoresParts before before
  one_more : (before middle : LedgerState) (planned : Planned) → StoresParts before middle → IsPartOn middle planned
      → StoresParts before (with_event middle (Commit planned))

-- it is planned on what the book shows, and adds the snapshot of this archive, with these facts and tags: none of the
-- files that were built for it is there with other bytes
pub record IsLastOn (now : LedgerState) (archive : ArchiveData) (facts : FactsData) (tags : List (List ℕ)) (planned : Planned)
    : Type 0 where
  pub last : last_due (shown_by now).repo facts tags archive ≡ Ok planned.change
  pub seen : planned.seen ≡ length_of now.events

-- a change that is planned on what the book shows and adds the snapshot of this archive is committed, and nothing else
pub record AddsSnapshot (before after : LedgerState) (archive : ArchiveData) (facts : FactsData) (tags : List (List ℕ))
    : Type 0 where
  pub planned : Planned
  pub last : IsLastOn before archive facts tags planned
  pub made : after ≡ with_event before (Commit planned)

-- Parts are committed one after another, and then the change that adds the snapshot. Its tree has just the nodes of what
-- a walk over the source met, and what isn't among them is named. Each blob that a node names is one that this change
-- asks for, or stores where it has no place.
pub record BacksUp (told : Told) (job : Scope) (cut : ℕ) (facts : FactsData) (tags : List (List ℕ)) (before after : LedgerState)
    (skips : List Skipped) : Type 0 where
  pub stored : LedgerState
  pub parts : StoresParts before stored
  pub archive : ArchiveData
  pub tree : IsTreeOf told job cut (kept_in archive.blobs) archive.place.nodes skips
  pub adds : AddsSnapshot stored after archive facts tags

-- of the files that were built for a part of an archive, or for its last change, this is the first that is there with
-- other bytes
pub record IsFirstDiffering (now : LedgerState) (file : FileName) : Type 0 where
  pub archive : ArchiveData
  pub is : (part_differing (shown_by now).repo archive ≡ Some file) ⊎ (last_differing (shown_by now).repo archive ≡ Some file)

-- why a backup isn't done: the file that is named, if one is, is the first that differs for what would be planned next
abbrev pub IsCause : LedgerState → NotBackedUp → Type 0
IsCause now (Differs file) = IsFirstDiffering now file
IsCause now (Unplanned error) = Unit {0}
IsCause now (Refused refusal) = Unit {0}

-- no cause is kept yet, or the one that is kept is why a backup isn't done
abbrev pub IsCauseIfAny : LedgerState → Option NotBackedUp → Type 0
IsCauseIfAny now None = Unit {0}
IsCauseIfAny now (Some cause) = IsCause now cause

-- why an archive plans nothing, as a backup tells it
abbrev pub of_archive : NotPlanned → NotBackedUp
of_archive (not_planned.Unplanned error) = Unplanned error
of_archive (not_planned.Differs file) = Differs file
