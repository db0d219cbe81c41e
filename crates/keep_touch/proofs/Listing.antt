-- The facets of a change, list by list.
use Rattle.std.proofs.Common.{◌≡◌, ◌++◌, map, refl}
use Rattle.std.proofs.lemmas.List.{append_assoc, map-append}
use Rattle.std.proofs.lemmas.Simd.{map-map}
use Rattle.keep_repo.specs.declared.facet.Facet.TheVariants.{File, Mark}
use Rattle.keep_change.specs.Touch.{written_facets}
use Rattle.keep_change.specs.declared.change.Change.{Change}
use Rattle.keep_touch.specs.Noting.{asked_facets}

pub written_listed : (c : Change) → written_facets c ≡
    (map (λ f. File f.name) c.adds ++ map (λ f. File f.name) c.drops) ++ (map (λ m. Mark m.pack) c.sets ++ map (λ m. Mark m.pack) c.clears)
written_listed c = simp (map-append, map-map, append_assoc) refl

pub asked_listed : (c : Change) → asked_facets c ≡ (map File c.present ++ map File c.absent) ++ (map Mark c.marked ++ map Mark c.unmarked)
asked_listed c = simp (map-append, map-map, append_assoc) refl
