-- What a change asks of the facets that it writes, list by list.
use Rattle.std.proofs.Common.{◌≡◌, None, Some, refl}
use Rattle.std.specs.List.{list_all}
use Rattle.std.proofs.lemmas.List.Folds.{list_all-append, list_all-map}
use Rattle.keep_repo.specs.Facet.{Marked, Stored}
use Rattle.keep_repo.specs.declared.facet.Facet.TheVariants.{File, Mark}
use Rattle.std.specs.Prelude.{◌&&◌}
use Rattle.keep_change.specs.Change.{Holding, holds_same, is_ready}
use Rattle.keep_change.specs.declared.change.Change.{Change}

pub ready_parts : (holding : Holding) (c : Change) → is_ready holding c ≡ (list_all (λ f. holds_same (holding (File f.name)) None) c.adds && (list_all (λ f. holds_same (holding (File f.name)) (Some (Stored f.bytes))) c.drops && (list_all (λ m. holds_same (holding (Mark m.pack)) None) c.sets && list_all (λ m. holds_same (holding (Mark m.pack)) (Some (Marked m.mark))) c.clears)))
ready_parts holding c = simp (list_all-append, list_all-map) refl
