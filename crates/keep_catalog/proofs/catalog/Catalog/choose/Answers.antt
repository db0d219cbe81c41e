use Rattle.std.proofs.Common.{◌≡◌, None, Some, sym, ap, ◌∙◌, rules}
use Rattle.std.specs.BTreeMap as tree
use Rattle.std.specs.BTreeMap.{is_at}
use Rattle.std.specs.List.{list_any}
use Rattle.keep_names.specs.Orders.{blob_cmp}
use Rattle.keep_repo.specs.Repository.{Repository}
use Rattle.keep_catalog.specs.Kept.{has, listings_in, lists_in}
use Rattle.keep_catalog.specs.Orders.{listing_cmp}
use Rattle.keep_catalog.specs.Places.{chosen_listing}
use Rattle.keep_catalog.specs.declared.spot.Listing.{Listing}
use Rattle.keep_catalog.proofs.ChosenListing.{first_chosen, none_chosen}
use Rattle.keep_catalog.proofs.catalog.Catalog.choose.Goals as goal

pub returns-in_err-listings : goal.returns-in_err-listings
returns-in_err-listings c =
    let none : tree.get blob_cmp c.tables-tables.result.now.listed c.args.blob ≡ None = search rules in
    let answer : c.from_residual.result ≡ None = search rules in
    answer ∙ none_chosen c.args.self.now c.args.blob (λ l. sym (ap (λ s. has s l) none) ∙ c.tables-tables.ensures.listed c.args.blob l)

pub returns : goal.returns
returns c =
    let some : tree.get blob_cmp c.tables-tables.result.now.listed c.args.blob ≡ Some c.in_ok-listings.listings.now = search rules in
    let repo : c.self.inside.repo.now ≡ c.args.self.now = search rules in
    let kept : (l : Listing) → list_any (is_at (listing_cmp l)) (listings_in c.in_ok-listings.listings.now) ≡ lists_in c.self.inside.repo.now c.args.blob l =
    λ l. sym (ap (λ s. has s l) some) ∙ c.tables-tables.ensures.listed c.args.blob l ∙ ap (λ (r : Repository). lists_in r c.args.blob l) (sym repo) in
    c.first_usable.ensures.first
    ∙ first_chosen c.self.inside.repo.now c.args.blob (listings_in c.in_ok-listings.listings.now) kept c.first_usable.ensures.ordered
    ∙ ap (λ (r : Repository). chosen_listing r c.args.blob) repo
