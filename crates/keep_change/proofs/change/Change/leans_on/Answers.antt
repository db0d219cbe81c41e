-- The lists of what the other one writes are asked one by one, up to the first of which a facet is touched.
use Rattle.std.proofs.Common.{◌≡◌, ◌||◌, map, sym, ◌∙◌}
use Rattle.std.specs.List.{list_any}
use Rattle.keep_repo.specs.declared.facet.Facet.TheVariants.{File, Mark}
use Rattle.keep_change.specs.Touch.{touches}
use Rattle.keep_change.proofs.Touching.{by_first, by_second, list_any-written}
use Rattle.keep_change.proofs.change.Change.leans_on.Goals as goal
use Rattle.keep_change.proofs.change.Change.leans_on.Goals.{then-touches_some, else-touches_some, then-touches_some-2, else-touches_some-2}

pub returns-then-touches_some-3 : goal.returns-then-touches_some-3
returns-then-touches_some-3 c =
    let s = c.args.other.now in
    let p = touches c.args.self.now in
    let adds = list_any p (map (λ f. File f.name) s.adds) in
    let drops = list_any p (map (λ f. File f.name) s.drops) in
    let sets = list_any p (map (λ m. Mark m.pack) s.sets) in
    let one = rw c.as_slice.ensures at c.touches_some.ensures in
    let two : c.if-touches_some.value ≡ (adds || drops) = elim c.if-touches_some.branch [
      | then-touches_some w ↦ w.value-is ∙ by_first _ _ _ w.if-touches_some.true one
      | else-touches_some w ↦
          w.value-is ∙ by_second _ _ _ _ w.if-touches_some.false one (rw w.as_slice-else-touches_some.ensures at w.touches_some-else-touches_some.ensures)
    ] in
    let three : c.if-touches_some-2.value ≡ ((adds || drops) || sets) = elim c.if-touches_some-2.branch [
      | then-touches_some-2 w ↦ w.value-is ∙ by_first _ _ _ w.if-touches_some-2.true two
      | else-touches_some-2 w ↦
          w.value-is ∙ by_second _ _ _ _ w.if-touches_some-2.false two (rw w.as_slice-else-touches_some-2.ensures at w.touches_some-else-touches_some-2.ensures)
    ] in
    by_first _ _ _ c.if-touches_some-3.true three ∙ sym (list_any-written p s)

pub returns-else-touches_some-3 : goal.returns-else-touches_some-3
returns-else-touches_some-3 c =
    let s = c.args.other.now in
    let p = touches c.args.self.now in
    let adds = list_any p (map (λ f. File f.name) s.adds) in
    let drops = list_any p (map (λ f. File f.name) s.drops) in
    let sets = list_any p (map (λ m. Mark m.pack) s.sets) in
    let one = rw c.as_slice.ensures at c.touches_some.ensures in
    let two : c.if-touches_some.value ≡ (adds || drops) = elim c.if-touches_some.branch [
      | then-touches_some w ↦ w.value-is ∙ by_first _ _ _ w.if-touches_some.true one
      | else-touches_some w ↦
          w.value-is ∙ by_second _ _ _ _ w.if-touches_some.false one (rw w.as_slice-else-touches_some.ensures at w.touches_some-else-touches_some.ensures)
    ] in
    let three : c.if-touches_some-2.value ≡ ((adds || drops) || sets) = elim c.if-touches_some-2.branch [
      | then-touches_some-2 w ↦ w.value-is ∙ by_first _ _ _ w.if-touches_some-2.true two
      | else-touches_some-2 w ↦
          w.value-is ∙ by_second _ _ _ _ w.if-touches_some-2.false two (rw w.as_slice-else-touches_some-2.ensures at w.touches_some-else-touches_some-2.ensures)
    ] in
    by_second _ _ _ _ c.if-touches_some-3.false three (rw c.as_slice-else-touches_some-3.ensures at c.touches_some-else-touches_some-3.ensures)
    ∙ sym (list_any-written p s)
