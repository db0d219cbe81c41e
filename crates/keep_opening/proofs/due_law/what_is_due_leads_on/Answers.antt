use Rattle.keep_opening.proofs.Resting.{due_leads}
use Rattle.keep_opening.proofs.due_law.what_is_due_leads_on.Goals as goal

pub returns : goal.returns
returns c = due_leads
