use Rattle.std.proofs.Common.{◌≡◌, None, List, take, cond, ap, ◌∙◌}
use Rattle.std.specs.FinMap.{get}
use Rattle.std.proofs.lemmas.List.{take_all}
use Rattle.keep_change.specs.Filling.{has_pack}
use Rattle.keep_names.specs.declared.id.Id.{Id}
use Rattle.keep_plan.specs.Storing.{packs_among}
use Rattle.keep_plan.proofs.Outcomes.{if_ok}
use Rattle.keep_plan.proofs.StoredFiles.{marks_are}
use Rattle.keep_plan.proofs.built_files.split_marks.Goals as goal

pub returns-clause-clears : goal.returns-clause-clears
returns-clause-clears c =
    let r = c.args.repo.now in
    let all : take c.loop-pack.pack-index c.deref-pack-items.result.now ≡ packs_among c.args.files.now =
    take_all c.loop-pack.pack-index c.deref-pack-items.result.now c.loop-pack-test.false ∙ c.deref-pack-items.ensures.value ∙ c.in_ok-packs.ensures in
    if_ok _ _ c.marks_in.result
    (λ listed is. is ∙ marks_are r (packs_among c.args.files.now) c.loop-pack.clears c.marks_in.ensures.ordered
    (λ q. c.loop-pack.invariant.marks q ∙ ap (λ (packs : List Id). cond (has_pack packs q) (get r.marks q) None) all))
    c.marks_in.ensures.marks
