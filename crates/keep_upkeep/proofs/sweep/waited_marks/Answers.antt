use Rattle.std.proofs.Common.{◌++◌, List, ℤ, filter, map, of_z, to_z, w64, ap, sym, ◌∙◌}
use Rattle.std.proofs.lemmas.Int.{to_z-of_z}
use Rattle.std.proofs.lemmas.List.{append-nil, drop_all}
use Rattle.keep_names.specs.declared.id.Id.{Id}
use Rattle.keep_repo.specs.declared.facet.Mark.{Mark}
use Rattle.keep_change.specs.Marks.{pack_mark}
use Rattle.keep_upkeep.specs.Sweep.{has_waited, waited_marks}
use Rattle.keep_upkeep.proofs.sweep.waited_marks.Goals as goal

pub returns : goal.returns
unfolding waited_marks
returns c =
    let now = to_z w64 (of_z w64 c.args.now) in
    let all : List (Id × Mark) = c.deref-entry-items.result.now in
    sym (append-nil c.loop-entry.waited.items)
    ∙ ap (λ (rest : List (Id × Mark)). c.loop-entry.waited.items ++ filter (λ m. has_waited now c.args.wait m.mark) (map pack_mark rest)) (sym (drop_all c.loop-entry.entry-index all c.loop-entry-test.false))
    ∙ c.loop-entry.invariant
    ∙ ap (λ (es : List (Id × Mark)). filter (λ m. has_waited now c.args.wait m.mark) (map pack_mark es)) (c.deref-entry-items.ensures.value ∙ c.in_ok-marks.ensures)
    ∙ ap (λ (n : ℤ). waited_marks c.args.repo.now n c.args.wait) (to_z-of_z w64 c.args.now c.ranges.now)
