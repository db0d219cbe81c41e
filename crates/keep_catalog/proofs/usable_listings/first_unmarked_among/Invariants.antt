use Rattle.std.proofs.Common.{◌≡◌, ◌&&◌}
use Rattle.std.specs.List.{find}
use Rattle.keep_catalog.specs.Places as spec
use Rattle.keep_catalog.specs.Places.{at}
use Rattle.keep_catalog.proofs.usable_listings.first_unmarked_among.Given as goal

abbrev pub invariant-loop-listing : goal.invariant-loop-listing
invariant-loop-listing l =
    find (λ x. spec.is_stored l.repo (at l.blob x.spot) && spec.is_usable l.repo l.blob x.spot) l.listing-iterator
    ≡ find (λ x. spec.is_stored l.repo (at l.blob x.spot) && spec.is_usable l.repo l.blob x.spot) l.listings.keys
