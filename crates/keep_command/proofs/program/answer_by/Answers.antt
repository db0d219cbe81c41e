use Rattle.std.proofs.Common.{inr}
use Rattle.keep_command.proofs.EndingLemmas.{keeps-untouched}
use Rattle.keep_command.proofs.program.answer_by.Goals as goal

pub returns-in-Ok-clause-ends : goal.returns-in-Ok-clause-ends
returns-in-Ok-clause-ends g c = c.in-Ok.ensures.ends.0

pub returns-in-Ok-clause-lines : goal.returns-in-Ok-clause-lines
returns-in-Ok-clause-lines g c = c.in-Ok.ensures.ends.1

pub returns-in-Err-clause-ends : goal.returns-in-Err-clause-ends
returns-in-Err-clause-ends g c = inr (c.from.ensures, c.in-Err.ensures.untouched)

pub returns-in-Err-clause-lines : goal.returns-in-Err-clause-lines
returns-in-Err-clause-lines g c = keeps-untouched _ _ _ _ c.from.result c.from.ensures c.in-Err.ensures.untouched
