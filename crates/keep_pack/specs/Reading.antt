-- What a pack's header is read as, and the refusals, each with its condition, in their order.
use Rattle.std.specs.Prelude.{◌≡◌, ℕ, ◌-◌, ◌/◌, ◌%◌, ◌<◌, ◌==◌, Bool, false, ◌||◌, not, nat_lt, if◌then◌else◌}
use Rattle.std.specs.Prelude.{List, length, map, take, drop, slice_index, Result, Ok, Err, IsOk}
use Rattle.std.specs.Global.{Vec}
use Rattle.std.specs.Int.{w32, from_le_bytes}
use Rattle.std.specs.List.{list_any, sum_by}
use Rattle.std.specs.Simd.{first_chunks}
use Rattle.keep_names.specs.declared.blob.BlobId.{BlobId}
use Rattle.keep_names.specs.declared.blob.BlobType.{BlobType}
use Rattle.keep_names.specs.declared.blob.BlobType.TheVariants.{Content, Tree}
use Rattle.keep_pack.specs.Pack.{Entry, entries_from}
use Rattle.keep_names.specs.declared.blob.Blob.{Blob}
use Rattle.keep_pack.specs.declared.pack_error.PackError.{PackError}
use Rattle.keep_pack.specs.declared.pack_error.PackError.TheVariants.{ShortPack, BadHeaderLength, BadBlobType}
use Rattle.keep_pack.specs.declared.pack_error.PackError.TheVariants.{LengthsDontFit, Memory}

-- each is a number that a byte holds
abbrev pub IsBytes : List ℕ → Type 0
IsBytes bytes = (i : ℕ) → slice_index bytes i < 256

-- fewer bytes than the header's length takes
abbrev pub is_short : List ℕ → Bool
is_short pack = nat_lt (length pack) 4

-- how long the header is, as the last four bytes say
abbrev pub header_length : List ℕ → ℕ
header_length pack = from_le_bytes w32 (drop (length pack - 4) pack)

-- the bytes before those four
abbrev pub before_length : List ℕ → List ℕ
before_length pack = take (length pack - 4) pack

-- no number of whole entries, or more bytes than there are
abbrev pub has_bad_header_length : List ℕ → Bool
has_bad_header_length pack =
    not (header_length pack % 37 == 0) || nat_lt (length (before_length pack)) (header_length pack)

-- the bytes before the header
abbrev pub blobs_in : List ℕ → List ℕ
blobs_in pack = take (length (before_length pack) - header_length pack) (before_length pack)

-- the header
abbrev pub header_in : List ℕ → List ℕ
header_in pack = drop (length (before_length pack) - header_length pack) (before_length pack)

-- its entries as they stand, 37 bytes each
abbrev pub raw_entries : List ℕ → List (List ℕ)
raw_entries pack = first_chunks 37 (length (header_in pack) / 37) (header_in pack)

-- the header's length is sound: the bytes before the header, and the entries as they stand
pub record IsSplit (pack blobs : List ℕ) (raw : List (List ℕ)) : Type 0 where
  pub long : is_short pack ≡ false
  pub fine : has_bad_header_length pack ≡ false
  pub blobs_are : blobs ≡ blobs_in pack
  pub raw_are : raw ≡ raw_entries pack

-- a type byte that stands for no type
abbrev pub has_bad_type : List ℕ → Bool
has_bad_type raw = nat_lt 1 (slice_index raw 0)

-- the length that an entry says
abbrev pub length_in : List ℕ → ℕ
length_in raw = from_le_bytes w32 (take 4 (drop 1 raw))

-- some entry is of no type
abbrev pub has_bad_blob_type : List ℕ → Bool
has_bad_blob_type pack = list_any has_bad_type (raw_entries pack)

-- the listed blobs have fewer or more bytes than stand before the header
abbrev pub lengths_dont_fit : List ℕ → Bool
lengths_dont_fit pack = not (sum_by length_in (raw_entries pack) == length (blobs_in pack))

-- the type that a byte stands for
abbrev pub type_of : ℕ → BlobType
type_of byte = if byte == 0 then Content else Tree

-- the blob that an entry names
abbrev pub blob_in : List ℕ → BlobId
blob_in raw = record { id = record { 0 = drop 5 raw }; blob_type = type_of (slice_index raw 0) }

-- what an entry lists
abbrev pub listed_in : List ℕ → Entry
listed_in raw = record { blob = blob_in raw; length = length_in raw }

-- the entries of the pack's header, or the first refusal whose condition holds
unfoldable pub header_of : List ℕ → Result (List Blob) PackError
header_of pack =
    if is_short pack then Err ShortPack
    else if has_bad_header_length pack then Err BadHeaderLength
    else if has_bad_blob_type pack then Err BadBlobType
    else if lengths_dont_fit pack then Err LengthsDontFit
    else Ok (entries_from 0 (map listed_in (raw_entries pack)))

-- The error is the header's refusal. Want of memory comes only where there is none.
abbrev pub Refuses : PackError → Result (List Blob) PackError → Type 0
Refuses Memory header = IsOk header
Refuses ShortPack header = header ≡ Err ShortPack
Refuses BadHeaderLength header = header ≡ Err BadHeaderLength
Refuses BadBlobType header = header ≡ Err BadBlobType
Refuses LengthsDontFit header = header ≡ Err LengthsDontFit

-- What was answered is this header or this refusal, unless memory ran out.
abbrev pub Gives : Result (Vec Blob) PackError → Result (List Blob) PackError → Type 0
Gives (Ok entries) header = header ≡ Ok entries.items
Gives (Err error) header = Refuses error header
