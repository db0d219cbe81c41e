use Rattle.keep_rewrite.proofs.Planned.{met, well_formed}
use Rattle.keep_rewrite.proofs.rewrite_law.a_planned_rewrite_can_be_made.Goals as goal

pub returns-clause-well_formed : goal.returns-clause-well_formed
returns-clause-well_formed c = well_formed

pub returns-clause-met : goal.returns-clause-met
returns-clause-met c = met
