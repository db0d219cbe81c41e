-- The lists are asked one by one, up to the first that has the facet.
use Rattle.std.proofs.Common.{◌≡◌, ◌||◌, map, sym, ◌∙◌}
use Rattle.std.specs.List.{list_any}
use Rattle.keep_repo.specs.Facet.{facet_eq}
use Rattle.keep_repo.specs.declared.facet.Facet.TheVariants.{File, Mark}
use Rattle.keep_change.proofs.Touching.{by_first, by_second, list_any-written}
use Rattle.keep_change.proofs.change.Change.writes.Goals as goal
use Rattle.keep_change.proofs.change.Change.writes.Goals.{then-contains, else-contains, then-contains-2, else-contains-2}

pub returns-then-contains-3 : goal.returns-then-contains-3
returns-then-contains-3 c =
    let s = c.args.self.now in
    let p = facet_eq c.args.facet in
    let adds = list_any p (map (λ f. File f.name) s.adds) in
    let drops = list_any p (map (λ f. File f.name) s.drops) in
    let sets = list_any p (map (λ m. Mark m.pack) s.sets) in
    let one = rw c.as_slice.ensures at c.contains.ensures in
    let two : c.if-contains.value ≡ (adds || drops) = elim c.if-contains.branch [
      | then-contains w ↦ w.value-is ∙ by_first _ _ _ w.if-contains.true one
      | else-contains w ↦
          w.value-is ∙ by_second _ _ _ _ w.if-contains.false one (rw w.as_slice-else-contains.ensures at w.contains-else-contains.ensures)
    ] in
    let three : c.if-contains-2.value ≡ ((adds || drops) || sets) = elim c.if-contains-2.branch [
      | then-contains-2 w ↦ w.value-is ∙ by_first _ _ _ w.if-contains-2.true two
      | else-contains-2 w ↦
          w.value-is ∙ by_second _ _ _ _ w.if-contains-2.false two (rw w.as_slice-else-contains-2.ensures at w.contains-else-contains-2.ensures)
    ] in
    by_first _ _ _ c.if-contains-3.true three ∙ sym (list_any-written p s)

pub returns-else-contains-3 : goal.returns-else-contains-3
returns-else-contains-3 c =
    let s = c.args.self.now in
    let p = facet_eq c.args.facet in
    let adds = list_any p (map (λ f. File f.name) s.adds) in
    let drops = list_any p (map (λ f. File f.name) s.drops) in
    let sets = list_any p (map (λ m. Mark m.pack) s.sets) in
    let one = rw c.as_slice.ensures at c.contains.ensures in
    let two : c.if-contains.value ≡ (adds || drops) = elim c.if-contains.branch [
      | then-contains w ↦ w.value-is ∙ by_first _ _ _ w.if-contains.true one
      | else-contains w ↦
          w.value-is ∙ by_second _ _ _ _ w.if-contains.false one (rw w.as_slice-else-contains.ensures at w.contains-else-contains.ensures)
    ] in
    let three : c.if-contains-2.value ≡ ((adds || drops) || sets) = elim c.if-contains-2.branch [
      | then-contains-2 w ↦ w.value-is ∙ by_first _ _ _ w.if-contains-2.true two
      | else-contains-2 w ↦
          w.value-is ∙ by_second _ _ _ _ w.if-contains-2.false two (rw w.as_slice-else-contains-2.ensures at w.contains-else-contains-2.ensures)
    ] in
    by_second _ _ _ _ c.if-contains-3.false three (rw c.as_slice-else-contains-3.ensures at c.contains-else-contains-3.ensures)
    ∙ sym (list_any-written p s)
