use Rattle.std.proofs.Common.{◌∙◌, sym}
use Rattle.keep_plan.proofs.Outcomes.{on_ok}
use Rattle.keep_upkeep.proofs.AbsentPacks.{new_listed, other_listed}
use Rattle.keep_upkeep.proofs.repair.put_listed.Goals as goal

pub returns-then-has_index : goal.returns-then-has_index
returns-then-has_index c name = new_listed c.args.repo.now c.args.built.now c.args.index c.args.packs.now name _ (sym c.has_index.ensures ∙ c.if-has_index.true)

pub returns : goal.returns
returns c =
    on_ok _ _ c.put_absent.result
    (λ put name. other_listed c.args.repo.now c.args.built.now c.args.index c.args.packs.now name _ _ (sym c.has_index.ensures ∙ c.if-has_index.false) (put name))
    c.put_absent.ensures
