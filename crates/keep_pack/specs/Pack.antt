-- A pack, as restic's design document has it ("Pack Format"; repository version 1, without ciphers).
use Rattle.std.specs.Prelude.{◌≡◌, ℕ, ◌+◌, ◌*◌, ◌<◌, ◌≤◌, ◌^◌, List, [], ◌∷◌, ◌++◌, length, map, take, drop}
use Rattle.std.specs.Int.{w32, to_le_bytes}
use Rattle.std.specs.List.{AllByRecursion, concat, flat_map}
use Rattle.keep_names.specs.Sha256.{sha256}
use Rattle.keep_names.specs.declared.blob.BlobId.{BlobId}
use Rattle.keep_names.specs.declared.blob.BlobType.{BlobType}
use Rattle.keep_names.specs.declared.blob.BlobType.TheVariants.{Content, Tree}
use Rattle.keep_names.specs.declared.blob.Blob.{Blob}

-- a blob as a header lists it: its type and id, and how many bytes it has
pub record Entry : Type 0 where
  pub blob : BlobId
  pub length : ℕ

-- the byte that stands for a type
abbrev pub type_byte : BlobType → ℕ
type_byte Content = 0
type_byte Tree = 1

-- an entry of the header: the type, the blob's length in four bytes with the low one first, the id
abbrev pub entry_bytes : Entry → List ℕ
entry_bytes listed = type_byte listed.blob.blob_type ∷ (to_le_bytes w32 listed.length ++ listed.blob.id.0)

-- an id of 32 bytes, and a length that four bytes hold
abbrev pub HasEntry : Entry → Type 0
HasEntry listed = (length listed.blob.id.0 ≡ 32) × (listed.length < 2 ^ 32)

-- these blobs one after the other, an entry for each listed one, and how many bytes the entries have
abbrev pub pack_text : List (List ℕ) → List Entry → List ℕ
pack_text blobs listed = concat blobs ++ (flat_map entry_bytes listed ++ to_le_bytes w32 (37 * length listed))

-- The pack is these blobs one after the other, an entry for each in the same order, and how many bytes the
-- entries have, in four bytes with the low one first.
pub record IsPackOf (pack : List ℕ) (blobs : List (List ℕ)) (listed : List Entry) : Type 0 where
  pub bytes : pack ≡ pack_text blobs listed
  pub lengths : map (λ blob. blob.length) listed ≡ map length blobs
  pub entries : AllByRecursion HasEntry listed
  pub header : 37 * length listed < 2 ^ 32

-- bytes and what their header lists: the grammar of packs
abbrev pub IsPack : List ℕ → List Entry → Type 0
IsPack pack listed = (blobs : List (List ℕ)) × IsPackOf pack blobs listed

-- the entries of blobs that lie one after the other from an offset on
abbrev pub entries_from : ℕ → List Entry → List Blob
entries_from offset [] = []
entries_from offset (first ∷ others) =
    record { blob = first.blob; offset = offset; length = first.length }
    ∷ entries_from (offset + first.length) others

-- the entries of a pack's header, each with the sum of the lengths before it as its offset
abbrev pub HasHeader : List ℕ → List Blob → Type 0
HasHeader pack entries = (listed : List Entry) × IsPack pack listed × (entries ≡ entries_from 0 listed)

-- the entry's bytes are among those of the pack
abbrev pub LiesIn : List ℕ → Blob → Type 0
LiesIn pack entry = entry.offset + entry.length ≤ length pack

-- the bytes that an entry speaks of
abbrev pub bytes_at : List ℕ → Blob → List ℕ
bytes_at pack entry = take entry.length (drop entry.offset pack)

-- a blob that is given under its name, as its type and its bytes
abbrev pub stored : {B : Type 0} → (B → List ℕ) → BlobId × B → BlobType × List ℕ
stored bytes blob = (blob.0.blob_type, bytes blob.1)

-- the id that it is given under is the SHA-256 of its bytes
abbrev pub HasOwnId : {B : Type 0} → (B → List ℕ) → BlobId × B → Type 0
HasOwnId bytes blob = blob.0.id.0 ≡ sha256 (bytes blob.1)

-- what an honest header lists of a blob: the SHA-256 of its bytes is the id
abbrev pub listing : BlobType × List ℕ → Entry
listing blob =
    record { blob = record { id = record { 0 = sha256 blob.1 }; blob_type = blob.0 }; length = length blob.1 }

-- the entry is this blob's: its type, the SHA-256 of its bytes as its id, and its bytes at its place in the pack
pub record StandsAt (pack : List ℕ) (blob : BlobType × List ℕ) (entry : Blob) : Type 0 where
  pub name : entry.blob ≡ (listing blob).blob
  pub bytes : bytes_at pack entry ≡ blob.1

-- the honest pack of these blobs in this order
abbrev pub IsHonestPackOf : List ℕ → List (BlobType × List ℕ) → Type 0
IsHonestPackOf pack blobs = IsPackOf pack (map (λ blob. blob.1) blobs) (map listing blobs)
