-- What a catalog's refusal is to a planner.
use Rattle.std.proofs.Common.{◌≡◌, ◌≢◌, List, [], Option, None, Some, option_map, slice_get, refl, ap}
use Rattle.keep_repo.specs.Repository.{Repository}
use Rattle.keep_catalog.specs.Files.{unread_in}
use Rattle.keep_catalog.specs.declared.catalog_error.CatalogError.{CatalogError}
use Rattle.keep_catalog.specs.declared.catalog_error.CatalogError.TheVariants as catalog
use Rattle.keep_catalog.specs.declared.unread.Unread.{Unread}
use Rattle.keep_plan.specs.Refusal.{of_catalog, unread_first}
use Rattle.keep_plan.specs.declared.plan_error.PlanError.TheVariants as plan

same_file : (file : Unread) (o : Option Unread) → option_map catalog.Unread o ≡ Some (catalog.Unread file) → option_map plan.Unread o ≡ Some (plan.Unread file)
same_file file None h = cc h
same_file file (Some other) h =
    let same : other ≡ file = cc h in
    ap (λ (f : Unread). Some (plan.Unread f)) same

-- the file that a catalog names is the first that can't be read
pub unread_refused : (r : Repository) (error : CatalogError) → (error ≢ catalog.Memory → option_map catalog.Unread (slice_get (unread_in r) 0) ≡ Some error)
    → of_catalog error ≢ plan.Memory → unread_first r ≡ Some (of_catalog error)
unread_refused r (catalog.Unread file) why other = same_file file (slice_get (unread_in r) 0) (why (λ e. (cc e)))
unread_refused r catalog.Memory why other = absurd (other refl)

pub none_unread : (r : Repository) → unread_in r ≡ [] → unread_first r ≡ None
none_unread r none = ap (λ (files : List Unread). option_map plan.Unread (slice_get files 0)) none
