-- The text of an index: a document without spaces, the keys of each object in byte order.
use Rattle.std.specs.Prelude.{ℕ, List, codes, map}
use Rattle.serde_json.specs.Data.{Data, unsigned, number, string, object, no_members, member}
use Rattle.serde_json.specs.Written.{compact_text}
use Rattle.keep_names.specs.declared.blob.BlobType.{BlobType}
use Rattle.keep_names.specs.declared.blob.BlobType.TheVariants.{Content, Tree}
use Rattle.keep_docs.specs.Fields.{id_data}
use Rattle.keep_docs.specs.Lists.{list_data}
use Rattle.keep_index.specs.Index.{PackData}
use Rattle.keep_names.specs.declared.blob.Blob.{Blob}

-- the word that names a type of blobs
abbrev pub type_word : BlobType → List ℕ
type_word Content = codes "data"
type_word Tree = codes "tree"

-- a blob, as a value
abbrev pub blob_data : Blob → Data
blob_data entry =
    object
    (member (codes "id") (id_data entry.blob.id)
    (member (codes "length") (number (unsigned entry.length))
    (member (codes "offset") (number (unsigned entry.offset))
    (member (codes "type") (string (type_word entry.blob.blob_type)) no_members))))

-- a pack with its blobs, as a value
abbrev pub pack_data : PackData → Data
pack_data pack =
    object
    (member (codes "blobs") (list_data (map blob_data pack.blobs))
    (member (codes "id") (id_data pack.id) no_members))

-- the packs of an index, as a value
abbrev pub index_data : List PackData → Data
index_data packs = object (member (codes "packs") (list_data (map pack_data packs)) no_members)

-- the text of an index
abbrev pub index_text : List PackData → List ℕ
index_text packs = compact_text (index_data packs)
