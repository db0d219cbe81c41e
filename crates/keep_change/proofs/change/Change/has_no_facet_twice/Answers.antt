-- The lists are asked one by one, up to the first with a facet that doesn't stand once.
use Rattle.std.proofs.Common.{◌≡◌, ◌↔◌, Bool, ◌&&◌, subst, sym, ◌∙◌}
use Rattle.std.specs.Prelude.{IsTrue}
use Rattle.std.specs.List.{list_all}
use Rattle.keep_repo.specs.declared.facet.Facet.TheVariants.{File, Mark}
use Rattle.keep_change.specs.Form.{is_once, HasNoFacetTwice}
use Rattle.keep_change.proofs.Once.{list_all-facets, once_everywhere}
use Rattle.keep_change.proofs.Touching.{both_first, both_second}
use Rattle.keep_change.proofs.change.Change.has_no_facet_twice.Goals as goal
use Rattle.keep_change.proofs.change.Change.has_no_facet_twice.Goals.{then-has_each_once, else-has_each_once, then-has_each_once-2, else-has_each_once-2, then-has_each_once-3, else-has_each_once-3, then-has_each_once-4, else-has_each_once-4, then-has_each_once-5, else-has_each_once-5, then-has_each_once-6, else-has_each_once-6}

pub returns-then-has_each_once-7 : goal.returns-then-has_each_once-7
returns-then-has_each_once-7 c =
    let s = c.args.self.now in
    let p = is_once s in
    let adds = list_all (λ f. p (File f.name)) s.adds in
    let drops = list_all (λ f. p (File f.name)) s.drops in
    let sets = list_all (λ m. p (Mark m.pack)) s.sets in
    let clears = list_all (λ m. p (Mark m.pack)) s.clears in
    let present = list_all (λ n. p (File n)) s.present in
    let absent = list_all (λ n. p (File n)) s.absent in
    let marked = list_all (λ i. p (Mark i)) s.marked in
    let one = rw c.as_slice.ensures at c.has_each_once.ensures in
    let two : c.if-has_each_once.value ≡ (adds && drops) = elim c.if-has_each_once.branch [
      | then-has_each_once w ↦
          w.value-is ∙ both_second _ _ _ _ w.if-has_each_once.true one (rw w.as_slice-then-has_each_once.ensures at w.has_each_once-then-has_each_once.ensures)
      | else-has_each_once w ↦ w.value-is ∙ both_first _ _ _ w.if-has_each_once.false one
    ] in
    let three : c.if-has_each_once-2.value ≡ ((adds && drops) && sets) = elim c.if-has_each_once-2.branch [
      | then-has_each_once-2 w ↦
          w.value-is ∙ both_second _ _ _ _ w.if-has_each_once-2.true two (rw w.as_slice-then-has_each_once-2.ensures at w.has_each_once-then-has_each_once-2.ensures)
      | else-has_each_once-2 w ↦ w.value-is ∙ both_first _ _ _ w.if-has_each_once-2.false two
    ] in
    let four : c.if-has_each_once-3.value ≡ (((adds && drops) && sets) && clears) = elim c.if-has_each_once-3.branch [
      | then-has_each_once-3 w ↦
          w.value-is ∙ both_second _ _ _ _ w.if-has_each_once-3.true three (rw w.as_slice-then-has_each_once-3.ensures at w.has_each_once-then-has_each_once-3.ensures)
      | else-has_each_once-3 w ↦ w.value-is ∙ both_first _ _ _ w.if-has_each_once-3.false three
    ] in
    let five : c.if-has_each_once-4.value ≡ ((((adds && drops) && sets) && clears) && present) = elim c.if-has_each_once-4.branch [
      | then-has_each_once-4 w ↦
          w.value-is ∙ both_second _ _ _ _ w.if-has_each_once-4.true four (rw w.as_slice-then-has_each_once-4.ensures at w.has_each_once-then-has_each_once-4.ensures)
      | else-has_each_once-4 w ↦ w.value-is ∙ both_first _ _ _ w.if-has_each_once-4.false four
    ] in
    let six : c.if-has_each_once-5.value ≡ (((((adds && drops) && sets) && clears) && present) && absent) = elim c.if-has_each_once-5.branch [
      | then-has_each_once-5 w ↦
          w.value-is ∙ both_second _ _ _ _ w.if-has_each_once-5.true five (rw w.as_slice-then-has_each_once-5.ensures at w.has_each_once-then-has_each_once-5.ensures)
      | else-has_each_once-5 w ↦ w.value-is ∙ both_first _ _ _ w.if-has_each_once-5.false five
    ] in
    let seven : c.if-has_each_once-6.value ≡ ((((((adds && drops) && sets) && clears) && present) && absent) && marked) = elim c.if-has_each_once-6.branch [
      | then-has_each_once-6 w ↦
          w.value-is ∙ both_second _ _ _ _ w.if-has_each_once-6.true six (rw w.as_slice-then-has_each_once-6.ensures at w.has_each_once-then-has_each_once-6.ensures)
      | else-has_each_once-6 w ↦ w.value-is ∙ both_first _ _ _ w.if-has_each_once-6.false six
    ] in
    let all = both_second _ _ _ _ c.if-has_each_once-7.true seven (rw c.as_slice-then-has_each_once-7.ensures at c.has_each_once-then-has_each_once-7.ensures) in
    subst (λ (b : Bool). IsTrue b ↔ HasNoFacetTwice s) (list_all-facets p s ∙ sym all) (once_everywhere s)

pub returns-else-has_each_once-7 : goal.returns-else-has_each_once-7
returns-else-has_each_once-7 c =
    let s = c.args.self.now in
    let p = is_once s in
    let adds = list_all (λ f. p (File f.name)) s.adds in
    let drops = list_all (λ f. p (File f.name)) s.drops in
    let sets = list_all (λ m. p (Mark m.pack)) s.sets in
    let clears = list_all (λ m. p (Mark m.pack)) s.clears in
    let present = list_all (λ n. p (File n)) s.present in
    let absent = list_all (λ n. p (File n)) s.absent in
    let marked = list_all (λ i. p (Mark i)) s.marked in
    let one = rw c.as_slice.ensures at c.has_each_once.ensures in
    let two : c.if-has_each_once.value ≡ (adds && drops) = elim c.if-has_each_once.branch [
      | then-has_each_once w ↦
          w.value-is ∙ both_second _ _ _ _ w.if-has_each_once.true one (rw w.as_slice-then-has_each_once.ensures at w.has_each_once-then-has_each_once.ensures)
      | else-has_each_once w ↦ w.value-is ∙ both_first _ _ _ w.if-has_each_once.false one
    ] in
    let three : c.if-has_each_once-2.value ≡ ((adds && drops) && sets) = elim c.if-has_each_once-2.branch [
      | then-has_each_once-2 w ↦
          w.value-is ∙ both_second _ _ _ _ w.if-has_each_once-2.true two (rw w.as_slice-then-has_each_once-2.ensures at w.has_each_once-then-has_each_once-2.ensures)
      | else-has_each_once-2 w ↦ w.value-is ∙ both_first _ _ _ w.if-has_each_once-2.false two
    ] in
    let four : c.if-has_each_once-3.value ≡ (((adds && drops) && sets) && clears) = elim c.if-has_each_once-3.branch [
      | then-has_each_once-3 w ↦
          w.value-is ∙ both_second _ _ _ _ w.if-has_each_once-3.true three (rw w.as_slice-then-has_each_once-3.ensures at w.has_each_once-then-has_each_once-3.ensures)
      | else-has_each_once-3 w ↦ w.value-is ∙ both_first _ _ _ w.if-has_each_once-3.false three
    ] in
    let five : c.if-has_each_once-4.value ≡ ((((adds && drops) && sets) && clears) && present) = elim c.if-has_each_once-4.branch [
      | then-has_each_once-4 w ↦
          w.value-is ∙ both_second _ _ _ _ w.if-has_each_once-4.true four (rw w.as_slice-then-has_each_once-4.ensures at w.has_each_once-then-has_each_once-4.ensures)
      | else-has_each_once-4 w ↦ w.value-is ∙ both_first _ _ _ w.if-has_each_once-4.false four
    ] in
    let six : c.if-has_each_once-5.value ≡ (((((adds && drops) && sets) && clears) && present) && absent) = elim c.if-has_each_once-5.branch [
      | then-has_each_once-5 w ↦
          w.value-is ∙ both_second _ _ _ _ w.if-has_each_once-5.true five (rw w.as_slice-then-has_each_once-5.ensures at w.has_each_once-then-has_each_once-5.ensures)
      | else-has_each_once-5 w ↦ w.value-is ∙ both_first _ _ _ w.if-has_each_once-5.false five
    ] in
    let seven : c.if-has_each_once-6.value ≡ ((((((adds && drops) && sets) && clears) && present) && absent) && marked) = elim c.if-has_each_once-6.branch [
      | then-has_each_once-6 w ↦
          w.value-is ∙ both_second _ _ _ _ w.if-has_each_once-6.true six (rw w.as_slice-then-has_each_once-6.ensures at w.has_each_once-then-has_each_once-6.ensures)
      | else-has_each_once-6 w ↦ w.value-is ∙ both_first _ _ _ w.if-has_each_once-6.false six
    ] in
    let all = both_first _ _ _ c.if-has_each_once-7.false seven in
    subst (λ (b : Bool). IsTrue b ↔ HasNoFacetTwice s) (list_all-facets p s ∙ sym all) (once_everywhere s)
