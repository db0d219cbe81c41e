-- Why a snapshot isn't put back and a file isn't written out, in words: what it is, and behind a colon what to do.
use Rattle.std.specs.Prelude.{ℕ, List, ◌++◌, codes}
use Rattle.keep_catalog.specs.Words.{reach_text}
use Rattle.keep_catalog.specs.declared.reach_error.ReachError.TheVariants as reach
use Rattle.keep_putting.specs.declared.restored.PutError.TheVariants as put
use Rattle.keep_read.specs.Refusals.{restore_text}
use Rattle.keep_read.specs.declared.restore_error.RestoreError.TheVariants as refusal
use Rattle.keep_restores.specs.declared.not_dumped.NotDumped as not_dumped
use Rattle.keep_restores.specs.declared.not_dumped.NotDumped.TheVariants as dump
use Rattle.keep_restores.specs.declared.not_restored.NotRestored as not_restored
use Rattle.keep_restores.specs.declared.not_restored.NotRestored.TheVariants.{Put, Snapshot}

abbrev pub no_snapshot_text : List ℕ
no_snapshot_text = codes "there is no such snapshot: keep snapshots lists them"

abbrev pub memory_text : List ℕ
memory_text = codes "no memory: run it with more"

abbrev pub check_text : List ℕ
check_text = codes ": keep check lists what is wrong"

abbrev pub not_restored_text : not_restored.NotRestored → List ℕ
not_restored_text (Snapshot refusal.NoSnapshot) = no_snapshot_text
not_restored_text (Snapshot (refusal.Reach reach.Memory)) = memory_text
not_restored_text (Snapshot why) = codes "the snapshot isn't whole, " ++ (restore_text why ++ check_text)
not_restored_text (Put put.NotEmpty) = codes "something is in the folder: name a new one"
not_restored_text (Put put.Memory) = memory_text

abbrev pub not_dumped_text : not_dumped.NotDumped → List ℕ
not_dumped_text (dump.Snapshot refusal.NoSnapshot) = no_snapshot_text
not_dumped_text (dump.Snapshot why) = codes "the snapshot can't be read, " ++ (restore_text why ++ check_text)
not_dumped_text dump.NoPath = codes "the snapshot has nothing at the path: keep ls lists what it has"
not_dumped_text dump.Folder = codes "a folder is at the path: name a file, or restore the folder"
not_dumped_text dump.Other = codes "what is at the path has no bytes: name a file"
not_dumped_text (dump.Lost why) = codes "the file isn't whole, " ++ (reach_text why ++ check_text)
not_dumped_text dump.WriteFailed = codes "a write failed: make room, and see that it can be written"
not_dumped_text dump.Memory = memory_text
