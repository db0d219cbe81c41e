-- The lists are asked one by one, up to the first that has the facet.
use Rattle.std.proofs.Common.{◌≡◌, ◌||◌, map, sym, ◌∙◌}
use Rattle.std.specs.List.{list_any}
use Rattle.keep_repo.specs.Facet.{facet_eq}
use Rattle.keep_repo.specs.declared.facet.Facet.TheVariants.{File, Mark}
use Rattle.keep_change.specs.Touch.{written_facets}
use Rattle.keep_change.proofs.Touching.{by_first, by_second, list_any-facets}
use Rattle.keep_change.proofs.change.Change.touches.Goals as goal
use Rattle.keep_change.proofs.change.Change.touches.Goals.{then-writes, else-writes, then-contains, else-contains, then-contains-2, else-contains-2}

pub returns-then-contains-3 : goal.returns-then-contains-3
returns-then-contains-3 c =
    let s = c.args.self.now in
    let p = facet_eq c.args.facet in
    let written = list_any p (written_facets s) in
    let present = list_any p (map File s.present) in
    let absent = list_any p (map File s.absent) in
    let marked = list_any p (map Mark s.marked) in
    let one = c.writes.ensures in
    let two : c.if-writes.value ≡ (written || present) = elim c.if-writes.branch [
      | then-writes w ↦ w.value-is ∙ by_first _ _ _ w.if-writes.true one
      | else-writes w ↦
          w.value-is ∙ by_second _ _ _ _ w.if-writes.false one (rw w.as_slice.ensures at w.contains.ensures)
    ] in
    let three : c.if-contains.value ≡ ((written || present) || absent) = elim c.if-contains.branch [
      | then-contains w ↦ w.value-is ∙ by_first _ _ _ w.if-contains.true two
      | else-contains w ↦
          w.value-is ∙ by_second _ _ _ _ w.if-contains.false two (rw w.as_slice-else-contains.ensures at w.contains-else-contains.ensures)
    ] in
    let four : c.if-contains-2.value ≡ (((written || present) || absent) || marked) = elim c.if-contains-2.branch [
      | then-contains-2 w ↦ w.value-is ∙ by_first _ _ _ w.if-contains-2.true three
      | else-contains-2 w ↦
          w.value-is ∙ by_second _ _ _ _ w.if-contains-2.false three (rw w.as_slice-else-contains-2.ensures at w.contains-else-contains-2.ensures)
    ] in
    by_first _ _ _ c.if-contains-3.true four ∙ sym (list_any-facets p s)

pub returns-else-contains-3 : goal.returns-else-contains-3
returns-else-contains-3 c =
    let s = c.args.self.now in
    let p = facet_eq c.args.facet in
    let written = list_any p (written_facets s) in
    let present = list_any p (map File s.present) in
    let absent = list_any p (map File s.absent) in
    let marked = list_any p (map Mark s.marked) in
    let one = c.writes.ensures in
    let two : c.if-writes.value ≡ (written || present) = elim c.if-writes.branch [
      | then-writes w ↦ w.value-is ∙ by_first _ _ _ w.if-writes.true one
      | else-writes w ↦
          w.value-is ∙ by_second _ _ _ _ w.if-writes.false one (rw w.as_slice.ensures at w.contains.ensures)
    ] in
    let three : c.if-contains.value ≡ ((written || present) || absent) = elim c.if-contains.branch [
      | then-contains w ↦ w.value-is ∙ by_first _ _ _ w.if-contains.true two
      | else-contains w ↦
          w.value-is ∙ by_second _ _ _ _ w.if-contains.false two (rw w.as_slice-else-contains.ensures at w.contains-else-contains.ensures)
    ] in
    let four : c.if-contains-2.value ≡ (((written || present) || absent) || marked) = elim c.if-contains-2.branch [
      | then-contains-2 w ↦ w.value-is ∙ by_first _ _ _ w.if-contains-2.true three
      | else-contains-2 w ↦
          w.value-is ∙ by_second _ _ _ _ w.if-contains-2.false three (rw w.as_slice-else-contains-2.ensures at w.contains-else-contains-2.ensures)
    ] in
    by_second _ _ _ _ c.if-contains-3.false four (rw c.as_slice-else-contains-3.ensures at c.contains-else-contains-3.ensures)
    ∙ sym (list_any-facets p s)
