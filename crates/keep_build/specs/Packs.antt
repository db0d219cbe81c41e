-- How new blobs are cut into packs.
use Rattle.std.specs.Prelude.{ℕ, ◌-◌, nat_le, List, [], ◌∷◌, length, if◌then◌else◌}
use Rattle.std.specs.List.{sum_by}
use Rattle.keep_build.specs.Blobs.{BlobData}

-- a pack with as many bytes of blobs gets no more
abbrev pub full_pack : ℕ
full_pack = 16_777_216

-- how many bytes the blobs have
abbrev pub bytes_in : List BlobData → ℕ
bytes_in blobs = sum_by (λ blob. length blob.1) blobs

-- these packs, with one more blob at the front of the first
abbrev pub put_before : BlobData → List (List BlobData) → List (List BlobData)
put_before blob [] = (blob ∷ []) ∷ []
put_before blob (pack ∷ packs) = (blob ∷ pack) ∷ packs

-- the packs of these blobs, where the first one is full with so many bytes
abbrev pub packs_from : ℕ → List BlobData → List (List BlobData)
packs_from lacks [] = []
packs_from lacks (blob ∷ blobs) =
    if nat_le lacks (length blob.1)
    then (blob ∷ []) ∷ packs_from full_pack blobs
    else put_before blob (packs_from (lacks - length blob.1) blobs)

-- the packs of these blobs, in order
unfoldable pub packs_of : List BlobData → List (List BlobData)
packs_of blobs = packs_from full_pack blobs
