use Rattle.std.proofs.Common.{sym, ◌∙◌}
use Rattle.std.proofs.lemmas.Result.{IfErr-weaker, IfOk-weaker}
use Rattle.keep_reach.proofs.Reached.{first_is_its, none_alone, owed_alone}
use Rattle.keep_reach.proofs.snapshots.reach.Goals as goal

pub returns-clause-reached : goal.returns-clause-reached
returns-clause-reached c =
    IfOk-weaker c.reach_all.result _ _ (λ reached just blob.
    (λ knew. (owed_alone c.args.catalog.now c.args.snapshot blob).0 ((just blob).0 knew), λ owes. (just blob).1 ((owed_alone c.args.catalog.now c.args.snapshot blob).1 owes))) c.reach_all.ensures.reached

pub returns-clause-all : goal.returns-clause-all
returns-clause-all c =
    IfOk-weaker c.reach_all.result _ _ (λ _ none. none_alone c.args.catalog.now c.args.snapshot none) c.reach_all.ensures.all

pub returns-clause-refused : goal.returns-clause-refused
returns-clause-refused c =
    IfErr-weaker c.reach_all.result _ _ (λ error first other. sym (first_is_its c.args.catalog.now c.args.snapshot) ∙ first other) c.reach_all.ensures.refused
