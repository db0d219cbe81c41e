use Rattle.keep_planned_crews.proofs.Going.{crews_lose_nothing}
use Rattle.keep_planned_crews.proofs.crew_laws.planned_crews_lose_nothing.Goals as goal

pub returns : goal.returns
returns c = crews_lose_nothing c.planned_histories_lose_nothing.ensures.books
