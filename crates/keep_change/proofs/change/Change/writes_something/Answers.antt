-- The four lists are asked one by one, up to the first that isn't empty.
use Rattle.std.proofs.Common.{◌≡◌, ◌↔◌, ◌≢◌, Bool, not, ◌&&◌, [], length, eqb, subst, sym, ◌∙◌}
use Rattle.std.specs.Prelude.{IsTrue}
use Rattle.keep_change.specs.Change.{written}
use Rattle.keep_change.proofs.Once.{some_written}
use Rattle.keep_change.proofs.Touching.{both_first, both_second}
use Rattle.keep_change.proofs.change.Change.writes_something.Goals as goal
use Rattle.keep_change.proofs.change.Change.writes_something.Goals.{then-is_empty, else-is_empty, then-is_empty-2, else-is_empty-2, then-is_empty-3, else-is_empty-3}

pub returns : goal.returns
returns c =
    let s = c.args.self.now in
    let adds = eqb (length s.adds) 0 in
    let drops = eqb (length s.drops) 0 in
    let sets = eqb (length s.sets) 0 in
    let clears = eqb (length s.clears) 0 in
    let one = rw c.as_slice.ensures at c.is_empty.ensures in
    let two : c.if-is_empty.value ≡ (adds && drops) = elim c.if-is_empty.branch [
      | then-is_empty w ↦
          w.value-is ∙ both_second _ _ _ _ w.if-is_empty.true one (rw w.as_slice-then-is_empty.ensures at w.is_empty-then-is_empty.ensures)
      | else-is_empty w ↦ w.value-is ∙ both_first _ _ _ w.if-is_empty.false one
    ] in
    let three : c.if-is_empty-2.value ≡ ((adds && drops) && sets) = elim c.if-is_empty-2.branch [
      | then-is_empty-2 w ↦
          w.value-is ∙ both_second _ _ _ _ w.if-is_empty-2.true two (rw w.as_slice-then-is_empty-2.ensures at w.is_empty-then-is_empty-2.ensures)
      | else-is_empty-2 w ↦ w.value-is ∙ both_first _ _ _ w.if-is_empty-2.false two
    ] in
    let four : c.if-is_empty-3.result ≡ (((adds && drops) && sets) && clears) = elim c.if-is_empty-3.branch [
      | then-is_empty-3 w ↦
          w.result-is ∙ both_second _ _ _ _ w.if-is_empty-3.true three (rw w.as_slice-then-is_empty-3.ensures at w.is_empty-then-is_empty-3.ensures)
      | else-is_empty-3 w ↦ w.result-is ∙ both_first _ _ _ w.if-is_empty-3.false three
    ] in
    subst (λ (b : Bool). IsTrue (not b) ↔ (written s ≢ [])) (sym four) (some_written s.adds s.drops s.sets s.clears)
