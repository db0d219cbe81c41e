-- Bytes at a spot.
use Rattle.std.proofs.Common.{◌≡◌, ℕ, List, None, Some, ap, ◌∙◌}
use Rattle.std.specs.FinMap as finite
use Rattle.std.specs.Option.{option_and_then}
use Rattle.keep_names.specs.FileName.{named}
use Rattle.keep_names.specs.declared.file_name.Kind.TheVariants.{Pack}
use Rattle.keep_repo.specs.Repository.{Repository}
use Rattle.keep_catalog.specs.Files.{file_in}
use Rattle.keep_catalog.specs.Places.{bytes_at, slice_of}
use Rattle.keep_catalog.specs.declared.spot.Spot.{Spot}

pub no_bytes : (r : Repository) (spot : Spot) → None ≡ finite.get r.files (named Pack spot.pack) → None ≡ bytes_at r spot
unfolding bytes_at file_in
no_bytes r spot absent = ap (option_and_then (slice_of spot.offset spot.length)) absent

pub some_bytes : (r : Repository) (spot : Spot) (bytes lent : List ℕ) → Some bytes ≡ finite.get r.files (named Pack spot.pack) → lent ≡ bytes → slice_of spot.offset spot.length lent ≡ bytes_at r spot
unfolding bytes_at file_in
some_bytes r spot bytes lent there same =
    ap (slice_of spot.offset spot.length) same ∙ ap (option_and_then (slice_of spot.offset spot.length)) there
