-- The shape of an index (restic's design document, "Indexing").
use Rattle.std.specs.Prelude.{ℕ, ◌^◌, List, Option, None, Some, option_and_then, Result, ok_or, codes}
use Rattle.std.specs.Prelude.{if◌then◌else◌}
use Rattle.std.specs.Str.{bytes_eq}
use Rattle.serde_json.specs.Data.{Data}
use Rattle.serde_json.specs.Find.{as_object, as_str}
use Rattle.keep_names.specs.declared.blob.BlobType.{BlobType}
use Rattle.keep_names.specs.declared.blob.BlobType.TheVariants.{Content, Tree}
use Rattle.keep_docs.specs.Doc.{doc_of, shaped}
use Rattle.keep_docs.specs.Fields.{◌>>=◌, as_below, as_id, as_whole, field, list_field}
use Rattle.keep_docs.specs.Lists.{each}
use Rattle.keep_index.specs.Index.{PackData}
use Rattle.keep_names.specs.declared.blob.Blob.{Blob}
use Rattle.keep_index.specs.declared.index_error.IndexError.{IndexError}
use Rattle.keep_index.specs.declared.index_error.IndexError.TheVariants.{Doc, BadIndex}

-- the type of blobs that a word names
abbrev pub type_named : List ℕ → Option BlobType
type_named word =
    if bytes_eq word (codes "data") then Some Content
    else if bytes_eq word (codes "tree") then Some Tree
    else None

-- the type of blobs that a value's text names
abbrev pub as_blob_type : Data → Option BlobType
as_blob_type d = option_and_then type_named (as_str d)

-- a blob: its id and type, how many bytes of the pack stand before it, and its length, which is below 2^32
abbrev pub blob_in : Data → Option Blob
blob_in d = do
  id ← field (codes "id") as_id d
  blob_type ← field (codes "type") as_blob_type d
  offset ← field (codes "offset") as_whole d
  length ← field (codes "length") (as_below (2 ^ 32)) d
  Some (record { blob = record { id = id; blob_type = blob_type }; offset = offset; length = length })

-- a pack: its id and its blobs, where null and no member are none
abbrev pub pack_in : Data → Option PackData
pack_in d = do
  id ← field (codes "id") as_id d
  values ← list_field (codes "blobs") d
  blobs ← each blob_in values
  Some (record { id = id; blobs = blobs })

-- an index: an object with its packs, where null and no member are none. Other members are read past
abbrev pub index_in : Data → Option (List PackData)
index_in d = do
  members ← as_object d
  values ← list_field (codes "packs") d
  each pack_in values

-- what the bytes of an index are to be read as
abbrev pub index_of : List ℕ → Result (List PackData) IndexError
index_of bytes = shaped Doc (λ d. ok_or (index_in d) BadIndex) (doc_of bytes)
