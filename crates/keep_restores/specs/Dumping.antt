-- What is written out of a snapshot's file.
use Rattle.std.specs.Prelude.{◌≡◌, ℕ, ◌-◌, ◌^◌, min, length, List, [], ◌∷◌, Option, None, Some, Result, Ok, Err}
use Rattle.std.specs.Io.KnownBytes.{Appends}
use Rattle.keep_catalog.specs.declared.reach_error.ReachError.{ReachError}
use Rattle.keep_catalog.specs.declared.reach_error.ReachError.TheVariants as reach
use Rattle.keep_names.specs.declared.id.Id.{Id}
use Rattle.keep_nodes.specs.Choosing.{node_at}
use Rattle.keep_nodes.specs.Entries.{EntryData}
use Rattle.keep_nodes.specs.Listed.{nodes_due}
use Rattle.keep_nodes.specs.Pieces.{piece_due}
use Rattle.keep_read.specs.Contents.{joined}
use Rattle.keep_read.specs.declared.restore_error.RestoreError.{RestoreError}
use Rattle.keep_read.specs.declared.restore_error.RestoreError.TheVariants as refusal
use Rattle.keep_repo.specs.Repository.{Repository}
use Rattle.keep_restores.specs.declared.not_dumped.NotDumped.{NotDumped}
use Rattle.keep_restores.specs.declared.not_dumped.NotDumped.TheVariants.{Folder, Lost, Memory, NoPath, Other, Snapshot}
use Rattle.keep_tree.specs.Tree.{KindData, dir, file, other}

-- why what a snapshot has can't be told; want of memory is one's own
abbrev pub unlisted : RestoreError → NotDumped
unlisted (refusal.Reach reach.Memory) = Memory
unlisted why = Snapshot why

-- why a piece can't be had
abbrev pub lost : ReachError → NotDumped
lost reach.Memory = Memory
lost why = Lost why

-- this refusal, or the next one
abbrev pub lost_first : Result (List ℕ) ReachError → Option ReachError → Option ReachError
lost_first (Ok bytes) next = next
lost_first (Err why) next = Some why

-- the refusal of the first piece that can't be had
abbrev pub first_lost : Repository → List Id → Option ReachError
first_lost r [] = None
first_lost r (id ∷ ids) = lost_first (piece_due r id) (first_lost r ids)

-- these bytes, unless a piece is lost
abbrev pub unless_lost : List ℕ → Option ReachError → Result (List ℕ) NotDumped
unless_lost bytes None = Ok bytes
unless_lost bytes (Some why) = Err (lost why)

-- the pieces that are at a node: only a file has any
abbrev pub content_of : KindData → Result (List Id) NotDumped
content_of (dir subtree) = Err Folder
content_of (file content) = Ok content
content_of (other type_name) = Err Other

abbrev pub content_in : Option EntryData → Result (List Id) NotDumped
content_in None = Err NoPath
content_in (Some entry) = content_of entry.node.kind

abbrev pub content_at : List ℕ → Result (List EntryData) RestoreError → Result (List Id) NotDumped
content_at path (Ok entries) = content_in (node_at path entries)
content_at path (Err why) = Err (unlisted why)

-- the pieces joined, as a restore joins them
abbrev pub bytes_due : Repository → Result (List Id) NotDumped → Result (List ℕ) NotDumped
bytes_due r (Ok content) = unless_lost (joined r content) (first_lost r content)
bytes_due r (Err why) = Err why

-- the bytes of the file that a snapshot has at this path, or why there are none
abbrev pub dump_due : Repository → Id → List ℕ → Result (List ℕ) NotDumped
dump_due r snapshot path = bytes_due r (content_at path (nodes_due r snapshot))

-- just these bytes were written, and their number is told, up to the last one of 64 bits
pub record IsDumped (due : Result (List ℕ) NotDumped) (old new : Option (List ℕ)) (size : ℕ) : Type 0 where
  pub bytes : List ℕ
  pub had : due ≡ Ok bytes
  pub written : Appends old new bytes
  pub told : size ≡ min (length bytes) (2 ^ 64 - 1)
