-- How long the pieces of files are.
use Rattle.std.specs.Prelude.{◌≡◌, ℕ, Option, Some}
use Rattle.std.specs.BTreeMap.{BTreeMap}
use Rattle.std.specs.BTreeMap as tree
use Rattle.std.specs.Option.{option_map_or}
use Rattle.keep_names.specs.BlobId.{piece_of}
use Rattle.keep_names.specs.Orders.{id_cmp}
use Rattle.keep_names.specs.declared.id.Id.{Id}
use Rattle.keep_repo.specs.Repository.{Repository}
use Rattle.keep_catalog.specs.Places.{chosen}
use Rattle.keep_catalog.specs.declared.spot.PackedBlob.{PackedBlob}

-- how many bytes a piece has at its chosen place; none where it has no place
abbrev pub piece_length : Repository → Id → ℕ
piece_length r id = option_map_or (λ (place : PackedBlob). place.spot.length) (chosen r (piece_of id)) 0

-- what is known of pieces are their lengths
abbrev pub AreLengths : Repository → BTreeMap Id ℕ → Type 0
AreLengths r lengths = (id : Id) (length : ℕ) → tree.get id_cmp lengths id ≡ Some length → piece_length r id ≡ length
