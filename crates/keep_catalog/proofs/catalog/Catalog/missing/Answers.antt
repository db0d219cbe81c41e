use Rattle.std.proofs.Common.{◌≡◌, None, Some, sym, ap, ◌∙◌, rules}
use Rattle.std.specs.BTreeMap as tree
use Rattle.std.specs.BTreeMap.{is_at}
use Rattle.std.specs.List.{list_any}
use Rattle.keep_names.specs.Orders.{blob_cmp}
use Rattle.keep_repo.specs.Repository.{Repository}
use Rattle.keep_catalog.specs.Kept.{has, listings_in, lists_in}
use Rattle.keep_catalog.specs.Naming.{missing}
use Rattle.keep_catalog.specs.Orders.{listing_cmp}
use Rattle.keep_catalog.specs.declared.spot.Listing.{Listing}
use Rattle.keep_catalog.proofs.ChosenListing.{missing_all, missing_hashed, missing_marked, none_missing}
use Rattle.keep_catalog.proofs.catalog.Catalog.missing.Goals as goal
use Rattle.keep_catalog.proofs.catalog.Catalog.missing.Goals.{else-some_stored-via-then-some_stored+else-not-some_honest, else-some_stored-via-else-some_stored}

pub returns-in_default : goal.returns-in_default
returns-in_default c =
    let none : tree.get blob_cmp c.tables-tables.result.now.listed c.args.blob ≡ None = search rules in
    none_missing c.args.self.now c.args.blob (λ l. sym (ap (λ s. has s l) none) ∙ c.tables-tables.ensures.listed c.args.blob l)

pub returns-then-not-some_honest : goal.returns-then-not-some_honest
returns-then-not-some_honest c =
    let some : tree.get blob_cmp c.tables-tables.result.now.listed c.args.blob ≡ Some c.in-Some.listings.now = search rules in
    let repo : c.self.inside.repo.now ≡ c.args.self.now = search rules in
    let kept : (l : Listing) → list_any (is_at (listing_cmp l)) (listings_in c.in-Some.listings.now) ≡ lists_in c.self.inside.repo.now c.args.blob l =
    λ l. sym (ap (λ s. has s l) some) ∙ c.tables-tables.ensures.listed c.args.blob l ∙ ap (λ (r : Repository). lists_in r c.args.blob l) (sym repo) in
    missing_hashed c.self.inside.repo.now c.args.blob (listings_in c.in-Some.listings.now) kept c.some_stored.ensures.ordered (search rules) (search rules)
    ∙ ap (λ (r : Repository). missing r c.args.blob) repo

pub returns-else-some_stored : goal.returns-else-some_stored
returns-else-some_stored c =
    let some : tree.get blob_cmp c.tables-tables.result.now.listed c.args.blob ≡ Some c.in-Some.listings.now = search rules in
    let repo : c.self.inside.repo.now ≡ c.args.self.now = search rules in
    let kept : (l : Listing) → list_any (is_at (listing_cmp l)) (listings_in c.in-Some.listings.now) ≡ lists_in c.self.inside.repo.now c.args.blob l =
    λ l. sym (ap (λ s. has s l) some) ∙ c.tables-tables.ensures.listed c.args.blob l ∙ ap (λ (r : Repository). lists_in r c.args.blob l) (sym repo) in
    elim c.else-some_stored.branch [
      | else-some_stored-via-then-some_stored+else-not-some_honest w ↦
          missing_marked c.self.inside.repo.now c.args.blob (listings_in c.in-Some.listings.now) kept c.some_stored.ensures.ordered (search rules)
          ∙ ap (λ (r : Repository). missing r c.args.blob) repo
      | else-some_stored-via-else-some_stored w ↦
          missing_all c.self.inside.repo.now c.args.blob (listings_in c.in-Some.listings.now) kept c.some_stored.ensures.ordered (search rules)
          ∙ ap (λ (r : Repository). missing r c.args.blob) repo
    ]
