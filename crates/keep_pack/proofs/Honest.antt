-- What is read of an honest pack.
use Rattle.std.proofs.Common.{◌≡◌, ℕ, zero, suc, ◌+◌, List, [], ◌∷◌, map, Some, Ok, IsSomeAnd, slice_get, refl, subst}
use Rattle.keep_names.specs.declared.blob.Blob.{Blob}
use Rattle.keep_names.specs.declared.blob.BlobType.{BlobType}
use Rattle.keep_pack.specs.Pack.{IsHonestPackOf, StandsAt, bytes_at, entries_from, listing}
use Rattle.keep_pack.specs.Reading.{header_of}
use Rattle.keep_pack.proofs.Grammar.{bytes_at-entries, has_header-read}

-- the header lists the blobs
pub honest_read : (pack : List ℕ) (blobs : List (BlobType × List ℕ)) → IsHonestPackOf pack blobs
    → header_of pack ≡ Ok (entries_from 0 (map listing blobs))
honest_read pack blobs h =
    has_header-read pack (entries_from 0 (map listing blobs)) (map listing blobs, (map (λ b. b.1) blobs, h), refl)

-- each blob stands at its entry, where these are their bytes
placed : (pack : List ℕ) (offset : ℕ) (blobs : List (BlobType × List ℕ)) (k : ℕ) (blob : BlobType × List ℕ)
    → map (bytes_at pack) (entries_from offset (map listing blobs)) ≡ map (λ b. b.1) blobs
    → slice_get blobs k ≡ Some blob
    → IsSomeAnd (slice_get (entries_from offset (map listing blobs)) k) (StandsAt pack blob)
placed pack offset [] k blob bytes is = cc
placed pack offset (b ∷ bs) zero blob bytes is =
    let same : b ≡ blob = cc in
    let entry : Blob = record { blob = (listing b).blob; offset = offset; length = (listing b).length } in
    let here : bytes_at pack entry ≡ b.1 = cc in
    subst (λ x. StandsAt pack x entry) same (record { name = refl; bytes = here })
placed pack offset (b ∷ bs) (suc k) blob bytes is =
    placed pack (offset + (listing b).length) bs k blob (let later = bytes in cc) is

pub honest_stands : (pack : List ℕ) (blobs : List (BlobType × List ℕ)) (k : ℕ) (blob : BlobType × List ℕ)
    → IsHonestPackOf pack blobs → slice_get blobs k ≡ Some blob
    → IsSomeAnd (slice_get (entries_from 0 (map listing blobs)) k) (StandsAt pack blob)
honest_stands pack blobs k blob h =
    placed pack 0 blobs k blob (bytes_at-entries pack (map (λ b. b.1) blobs) (map listing blobs) h)
