-- What a restore of a snapshot gives, and why it is refused.
use Rattle.std.specs.Prelude.{ℕ, List, map, Option, None, Some, is_none, Result, Ok, Err, string_bytes}
use Rattle.std.specs.Cmp.Lexicographic.{slice_cmp}
use Rattle.std.specs.FinMap as finite
use Rattle.std.specs.List.{count_by, filter_map}
use Rattle.std.specs.Option.{option_map}
use Rattle.std.specs.Ordering.{nat_cmp}
use Rattle.std.specs.declared.cmp.Ordering.{Ordering}
use Rattle.keep_names.specs.declared.file_name.Kind.TheVariants.{Snapshot}
use Rattle.keep_names.specs.declared.id.Id.{Id}
use Rattle.keep_repo.specs.Repository.{Repository}
use Rattle.keep_repo.specs.declared.facet.Facet.{Facet}
use Rattle.keep_repo.specs.declared.facet.Facet.TheVariants.{File}
use Rattle.keep_snap.specs.Snap.{SnapData}
use Rattle.keep_snap.specs.declared.snap.SnapError.{SnapError}
use Rattle.keep_catalog.specs.Files.{snapshot_in, unread}
use Rattle.keep_reach.specs.Reach.{most_levels}
use Rattle.keep_reach.specs.Snapshots.{refusal_from, root_of}
use Rattle.keep_catalog.specs.declared.reach_error.ReachError.{ReachError}
use Rattle.keep_catalog.specs.declared.unread.FileError.TheVariants.{Snap}
use Rattle.keep_read.specs.Contents.{ContentData, contents_at}
use Rattle.keep_read.specs.declared.restore_error.RestoreError.{RestoreError}
use Rattle.keep_read.specs.declared.restore_error.RestoreError.TheVariants.{NoSnapshot, Reach, Unread}
use Rattle.keep_read.specs.declared.restored.RestoredFiles.{RestoredFiles}

-- paths in byte order
abbrev pub path_cmp : List ℕ → List ℕ → Ordering
path_cmp = slice_cmp nat_cmp

-- the bytes of each file by its path, and how many nodes were skipped
pub record RestoredData : Type 0 where
  pub files : finite.FinMap path_cmp (List ℕ)
  pub skipped : ℕ

-- what a `RestoredFiles` says
abbrev pub restored_view : RestoredFiles → RestoredData
restored_view restored = record {
  files = finite.from_entries (map (λ e. (string_bytes e.0, e.1.items)) restored.files.entries);
  skipped = restored.skipped;
}

-- a file's path and its bytes
abbrev pub file_with : ContentData → Option (List ℕ × List ℕ)
file_with content = option_map (λ bytes. (content.0, bytes)) content.1

-- the files among the contents of a tree, and how many of them are none
unfoldable pub restored_of : List ContentData → RestoredData
restored_of contents = record {
  files = finite.from_entries (filter_map file_with contents);
  skipped = count_by (λ content. is_none content.1) contents;
}

-- the contents of this tree, if nothing that is reached from it is refused
abbrev pub restored_from : Repository → Id → Option ReachError → Result RestoredData RestoreError
restored_from r tree None = Ok (restored_of (contents_at r most_levels tree))
restored_from r tree (Some why) = Err (Reach why)

-- what a snapshot of this name has to give, by what its file is to be read as
abbrev pub restored_by : Repository → Id → Option (Result SnapData SnapError)
    → Result RestoredData RestoreError
restored_by r snapshot None = Err NoSnapshot
restored_by r snapshot (Some (Err why)) = Err (Unread (unread Snapshot snapshot (Snap why)))
restored_by r snapshot (Some (Ok snap)) = restored_from r snap.tree (refusal_from r (root_of snap))

-- the file of the snapshot of this name
abbrev pub snapshot_facet : Id → Facet
snapshot_facet snapshot = File (record { kind = Snapshot; id = snapshot })

-- what a restore of the snapshot of this name has to give: its contents, or the first refusal
abbrev pub restored : Repository → Id → Result RestoredData RestoreError
restored r snapshot = restored_by r snapshot (snapshot_in r snapshot)
