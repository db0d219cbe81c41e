-- Packs that have no name yet: words of this crate's private functions.
use Rattle.std.specs.Prelude.{ℕ, List, map}
use Rattle.keep_names.specs.declared.blob.Blob.{Blob}
use Rattle.keep_pack.specs.Pack.{entries_from, listing, pack_text}
use Rattle.keep_build.specs.Blobs.{BlobData}
use Rattle.keep_build.specs.declared.packs.NewPack.{NewPack}

-- its bytes, and what its header says
abbrev pub new_pack_view : NewPack → List ℕ × List Blob
new_pack_view pack = (pack.bytes.items, pack.blobs.items)

-- those of the honest pack of these blobs
unfoldable pub new_pack_of : List BlobData → List ℕ × List Blob
new_pack_of blobs = (pack_text (map (λ blob. blob.1) blobs) (map listing blobs), entries_from 0 (map listing blobs))
