-- What an archive was given so far.
use Rattle.std.specs.Prelude.{ℕ, List, map, Option, option_map, string_bytes}
use Rattle.serde_json.specs.Data.{Members}
use Rattle.serde_json.specs.View.{members_view}
use Rattle.keep_names.specs.declared.blob.BlobId.{BlobId}
use Rattle.keep_names.specs.declared.id.Id.{Id}
use Rattle.keep_tree.specs.Tree.{NodeData, tree_view}
use Rattle.keep_build.specs.Blobs.{BlobData}
use Rattle.keep_archive.specs.declared.archive.Archive.{Archive}
use Rattle.keep_archive.specs.declared.blobs.Blobs.{Blobs}
use Rattle.keep_archive.specs.declared.carried.Carried.{Carried}
use Rattle.keep_archive.specs.declared.begun_file.Begun.{Begun}
use Rattle.keep_archive.specs.declared.folder.Folder.{Folder}
use Rattle.keep_archive.specs.declared.going.Going.{Going}
use Rattle.keep_archive.specs.declared.held.HeldBlob.{HeldBlob}
use Rattle.keep_archive.specs.declared.open_folders.Around.{Around}
use Rattle.keep_archive.specs.declared.open_folders.OpenFolders.{OpenFolders}

-- a folder in which another one is open: that one's name, and the nodes before it
pub record AroundData : Type 0 where
  pub name : List ℕ
  pub nodes : List NodeData

-- where nodes are given: the folders around, from the root on, and the nodes of the innermost one
pub record PlaceData : Type 0 where
  pub around : List AroundData
  pub nodes : List NodeData

-- the file that is being read: after how many bytes it is cut, the ids of the pieces so far, and the bytes behind them
pub record BegunData : Type 0 where
  pub cut : ℕ
  pub content : List Id
  pub rest : List ℕ

-- blobs that have to have a place, and blobs that wait to be stored, in the order in which they came
pub record BlobsData : Type 0 where
  pub named : List BlobId
  pub held : List BlobData

pub record ArchiveData : Type 0 where
  pub place : PlaceData
  pub begun : BegunData
  pub blobs : BlobsData

-- ---- what the types of the code say

abbrev pub carried_view : Carried → Members
carried_view carried = members_view carried.members.entries

abbrev pub folder_view : Folder → List NodeData
folder_view folder = tree_view folder.tree

abbrev pub around_view : Around → AroundData
around_view around = record { name = string_bytes around.name; nodes = folder_view around.folder }

abbrev pub place_view : OpenFolders → PlaceData
place_view place = record { around = map around_view place.around.items; nodes = folder_view place.folder }

abbrev pub begun_view : Begun → BegunData
begun_view begun = record { cut = begun.cut.bytes; content = begun.content.items; rest = begun.rest.items }

abbrev pub held_view : HeldBlob → BlobData
held_view held = (held.blob.blob_type, held.bytes.items)

abbrev pub blobs_view : Blobs → BlobsData
blobs_view blobs = record { named = blobs.named.items; held = map held_view blobs.held.items }

abbrev pub going_view : Going → ArchiveData
going_view going = record {
  place = place_view going.place;
  begun = begun_view going.begun;
  blobs = blobs_view going.blobs;
}

-- what an archive was given, unless it is shut
abbrev pub archive_view : Archive → Option ArchiveData
archive_view archive = option_map going_view archive.going
