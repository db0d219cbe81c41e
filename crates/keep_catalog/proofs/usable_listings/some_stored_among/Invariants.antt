use Rattle.std.proofs.Common.{◌≡◌}
use Rattle.std.specs.List.{list_any}
use Rattle.keep_catalog.specs.Places as spec
use Rattle.keep_catalog.specs.Places.{at}
use Rattle.keep_catalog.proofs.usable_listings.some_stored_among.Given as goal

abbrev pub invariant-loop-listing : goal.invariant-loop-listing
invariant-loop-listing l =
    list_any (λ x. spec.is_stored l.repo (at l.blob x.spot)) l.listing-iterator
    ≡ list_any (λ x. spec.is_stored l.repo (at l.blob x.spot)) l.listings.keys
