-- A listing alone.
use Rattle.std.proofs.Common.{◌≡◌, [], ◌∷◌, sym, subst}
use Rattle.std.specs.List.Sorted.{IsStrictlySortedBy}
use Rattle.keep_catalog.specs.Kept.{listings_in}
use Rattle.keep_catalog.specs.Orders.{listing_cmp}
use Rattle.keep_catalog.specs.declared.listings.Listings.{Listings}
use Rattle.keep_catalog.specs.declared.listings.Listings.TheVariants.{One}
use Rattle.keep_catalog.specs.declared.spot.Listing.{Listing}

-- it is in order
alone_in_order : (l : Listing) → IsStrictlySortedBy listing_cmp (l ∷ [])
unfolding IsStrictlySortedBy
alone_in_order l = (tt, tt)

pub one_in_order : (listings : Listings) (l : Listing) → listings ≡ One l → IsStrictlySortedBy listing_cmp (listings_in listings)
one_in_order listings l is = subst (λ (ls : Listings). IsStrictlySortedBy listing_cmp (listings_in ls)) (sym is) (alone_in_order l)
