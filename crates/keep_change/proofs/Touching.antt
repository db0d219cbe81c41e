-- The facets of a change, list by list.
use Rattle.std.proofs.Common.{◌≡◌, Bool, true, false, ◌&&◌, ◌||◌, map, refl, sym, ap, ◌∙◌}
use Rattle.std.specs.List.{list_any}
use Rattle.std.proofs.lemmas.List.{map-append}
use Rattle.std.proofs.lemmas.List.Folds.{list_any-append}
use Rattle.std.proofs.lemmas.Simd.{map-map}
use Rattle.keep_repo.specs.declared.facet.Facet.{Facet}
use Rattle.keep_repo.specs.declared.facet.Facet.TheVariants.{File, Mark}
use Rattle.keep_change.specs.declared.change.Change.{Change}
use Rattle.keep_change.specs.Change.{asked}
use Rattle.keep_change.specs.Touch.{written_facets, facets}

or_assoc : (a b c d : Bool) → (a || (b || (c || d))) ≡ (((a || b) || c) || d)
or_assoc true b c d = refl
or_assoc false true c d = refl
or_assoc false false true d = refl
or_assoc false false false d = refl

or_regroup : (w a b c d : Bool) → (w || (a || (b || (c || d)))) ≡ ((((w || a) || b) || c) || d)
or_regroup true a b c d = refl
or_regroup false a b c d = or_assoc a b c d

-- of two tests the first tells, where it holds
pub by_first : (told one other : Bool) → told ≡ true → told ≡ one → told ≡ (one || other)
by_first told one other holds is = holds ∙ ap (λ b. b || other) (sym holds ∙ is)

-- and else the second one
pub by_second : (first told one other : Bool) → first ≡ false → first ≡ one → told ≡ other → told ≡ (one || other)
by_second first told one other fails was is = is ∙ ap (λ b. b || other) (sym fails ∙ was)

-- two tests hold together: the first tells, where it fails
pub both_first : (told one other : Bool) → told ≡ false → told ≡ one → told ≡ (one && other)
both_first told one other fails is = fails ∙ ap (λ b. b && other) (sym fails ∙ is)

-- and else the second one
pub both_second : (first told one other : Bool) → first ≡ true → first ≡ one → told ≡ other → told ≡ (one && other)
both_second first told one other holds was is = is ∙ ap (λ b. b && other) (sym holds ∙ was)

pub list_any-written : (p : Facet → Bool) (c : Change) → list_any p (written_facets c) ≡
    (((list_any p (map (λ f. File f.name) c.adds) || list_any p (map (λ f. File f.name) c.drops))
    || list_any p (map (λ m. Mark m.pack) c.sets)) || list_any p (map (λ m. Mark m.pack) c.clears))
list_any-written p c = simp (map-append, map-map, list_any-append) (or_assoc
    (list_any p (map (λ f. File f.name) c.adds)) (list_any p (map (λ f. File f.name) c.drops))
    (list_any p (map (λ m. Mark m.pack) c.sets)) (list_any p (map (λ m. Mark m.pack) c.clears)))

-- the facets that a change only looks at, list by list
pub list_any-asked : (p : Facet → Bool) (c : Change) → list_any p (map (λ a. a.facet) (asked c)) ≡
    (list_any p (map File c.present) || (list_any p (map File c.absent)
    || (list_any p (map Mark c.marked) || list_any p (map Mark c.unmarked))))
list_any-asked p c = simp (map-append, map-map, list_any-append) refl

pub list_any-facets : (p : Facet → Bool) (c : Change) → list_any p (facets c) ≡
    ((((list_any p (written_facets c) || list_any p (map File c.present)) || list_any p (map File c.absent))
    || list_any p (map Mark c.marked)) || list_any p (map Mark c.unmarked))
list_any-facets p c =
    list_any-append p (written_facets c) _
    ∙ ap (λ b. list_any p (written_facets c) || b) (list_any-asked p c)
    ∙ or_regroup (list_any p (written_facets c)) (list_any p (map File c.present)) (list_any p (map File c.absent)) (list_any p (map Mark c.marked)) (list_any p (map Mark c.unmarked))
