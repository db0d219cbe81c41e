-- What the files of a repository say, and which of them can't be read.
use Rattle.std.specs.Prelude.{ℕ, List, [], map, Option, None, Some, Result, Ok, Err}
use Rattle.std.specs.List.{filter_map}
use Rattle.std.specs.Option.{option_and_then, option_map}
use Rattle.std.specs.Result.{result_err, result_ok}
use Rattle.std.specs.FinMap as finite
use Rattle.std.specs.Global.{Vec}
use Rattle.keep_names.specs.FileName.{named}
use Rattle.keep_names.specs.Orders.{id_cmp}
use Rattle.keep_names.specs.declared.file_name.FileName.{FileName}
use Rattle.keep_names.specs.declared.file_name.Kind.{Kind}
use Rattle.keep_names.specs.declared.file_name.Kind.TheVariants.{Pack, Index, Snapshot}
use Rattle.keep_names.specs.declared.id.Id.{Id}
use Rattle.keep_repo.specs.Repository.{Repository}
use Rattle.keep_pack.specs.Reading.{header_of}
use Rattle.keep_names.specs.declared.blob.Blob.{Blob}
use Rattle.keep_pack.specs.declared.pack_error.PackError.{PackError}
use Rattle.keep_index.specs.Index.{PackData, pack_view}
use Rattle.keep_index.specs.Reading as index_reading
use Rattle.keep_index.specs.declared.index.IndexedPack.{IndexedPack}
use Rattle.keep_index.specs.declared.index_error.IndexError.{IndexError}
use Rattle.keep_snap.specs.Snap.{SnapData}
use Rattle.keep_snap.specs.Snap as snap_reading
use Rattle.keep_snap.specs.declared.snap.SnapError.{SnapError}
use Rattle.keep_repo.specs.Kinds.{ids_among}
use Rattle.keep_catalog.specs.declared.unread.FileError.{FileError}
use Rattle.keep_catalog.specs.declared.unread.FileError.TheVariants as refusal
use Rattle.keep_catalog.specs.declared.unread.Unread.{Unread}

-- the bytes of the file, none where it isn't there
unfoldable pub file_in : Repository → Kind → Id → Option (List ℕ)
file_in r kind id = finite.get r.files (named kind id)

-- the names of the files of a kind, in order
abbrev pub ids_in : Repository → Kind → List Id
ids_in r kind = ids_among kind (finite.keys r.files)

-- what the bytes of an index are to be read as
unfoldable pub index_of : List ℕ → Result (List PackData) IndexError
index_of bytes = index_reading.index_of bytes

-- what the bytes of a snapshot are to be read as
unfoldable pub snap_of : List ℕ → Result SnapData SnapError
snap_of bytes = snap_reading.snap_of bytes

-- what was read; nothing where there is no file, or none that can be read
abbrev pub what_is_read : {X E : Type 0} → Option (Result (List X) E) → List X
what_is_read None = []
what_is_read (Some (Ok items)) = items
what_is_read (Some (Err refusal)) = []

-- the header of this pack, as it is to be read
abbrev pub header_in : Repository → Id → Option (Result (List Blob) PackError)
header_in r pack = option_map header_of (file_in r Pack pack)

-- this index, as it is to be read
abbrev pub index_in : Repository → Id → Option (Result (List PackData) IndexError)
index_in r index = option_map index_of (file_in r Index index)

-- what the index in these bytes says of packs, none where there are none, or none that can be read
abbrev pub index_read : Option (List ℕ) → Option (List PackData)
index_read bytes = option_and_then result_ok (option_map index_of bytes)

-- what this index says of packs
unfoldable pub packs_in : Repository → Id → Option (List PackData)
packs_in r index = index_read (file_in r Index index)

-- this snapshot, as it is to be read
abbrev pub snapshot_in : Repository → Id → Option (Result SnapData SnapError)
snapshot_in r snapshot = option_map snap_of (file_in r Snapshot snapshot)

-- what was read under this name, none where there is no such file, or none that can be read
abbrev pub readable : {X E : Type 0} → Id → Option (Result X E) → Option (Id × X)
readable id found = option_map (λ x. (id, x)) (option_and_then result_ok found)

-- a pack's name with its entries, and an index's name with its packs, without where they lie in memory
abbrev pub header_view : Id × Vec Blob → Id × List Blob
header_view header = (header.0, header.1.items)

abbrev pub packs_view : Id × Vec IndexedPack → Id × List PackData
packs_view listing = (listing.0, map pack_view listing.1.items)

-- what the headers that can be read say, the packs by name
abbrev pub headers_in : Repository → List (Id × List Blob)
headers_in r = filter_map (λ pack. readable pack (header_in r pack)) (ids_in r Pack)

-- what the indexes that can be read say, by name
abbrev pub indexes_in : Repository → List (Id × List PackData)
indexes_in r = filter_map (λ index. readable index (index_in r index)) (ids_in r Index)

-- what the snapshot in these bytes says, none where there are none, or none that can be read
abbrev pub snap_read : Option (List ℕ) → Option SnapData
snap_read bytes = option_and_then result_ok (option_map snap_of bytes)

-- what this snapshot says
unfoldable pub snap_in : Repository → Id → Option SnapData
snap_in r snapshot = snap_read (file_in r Snapshot snapshot)

-- what this snapshot says, with its name
abbrev pub named_snap : Repository → Id → Option (Id × SnapData)
named_snap r snapshot = option_map (λ snap. (snapshot, snap)) (snap_in r snapshot)

-- the snapshots that can be read, by name
unfoldable pub snaps_in : Repository → finite.FinMap id_cmp SnapData
snaps_in r = finite.from_entries (filter_map (named_snap r) (ids_in r Snapshot))

-- why the bytes can't be read as a file of the kind
abbrev pub why_of : Kind → List ℕ → Option FileError
why_of Pack bytes = option_map refusal.Pack (result_err (header_of bytes))
why_of Index bytes = option_map refusal.Index (result_err (index_of bytes))
why_of Snapshot bytes = option_map refusal.Snap (result_err (snap_of bytes))

-- why the file of this name can't be read; none where it isn't there, or can be
unfoldable pub why_unread : Repository → FileName → Option FileError
why_unread r name = option_and_then (why_of name.kind) (finite.get r.files name)

-- a file that can't be read, and why
abbrev pub unread : Kind → Id → FileError → Unread
unread kind id why = record { name = named kind id; refusal = why }

-- the file of this name, where it can't be read
abbrev pub unread_at : Repository → FileName → Option Unread
unread_at r name = option_map (unread name.kind name.id) (why_unread r name)

-- the files that can't be read, in the order of their names
abbrev pub unread_in : Repository → List Unread
unread_in r = filter_map (unread_at r) (finite.keys r.files)
