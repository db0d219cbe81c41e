-- What the packs are that new blobs are cut into.
use Rattle.std.specs.Prelude.{◌≡◌, ◌≢◌, ℕ, ◌-◌, ◌<◌, ◌≤◌, List, [], length, take, All}
use Rattle.std.specs.List.{flat_map}
use Rattle.keep_build.specs.Blobs.{BlobData}
use Rattle.keep_build.specs.Packs.{bytes_in, full_pack}

-- Together they are the blobs in their order; each has some, and only with its last blob, if at all, 16,777,216
-- bytes; and each but the last has them.
pub record AreCut (blobs : List BlobData) (packs : List (List BlobData)) : Type 0 where
  pub joined : flat_map (λ pack. pack) packs ≡ blobs
  pub some : All (λ pack. pack ≢ []) packs
  pub fronts : All (λ pack. (count : ℕ) → count < length pack → bytes_in (take count pack) < full_pack) packs
  pub full : All (λ pack. full_pack ≤ bytes_in pack) (take (length packs - 1) packs)
