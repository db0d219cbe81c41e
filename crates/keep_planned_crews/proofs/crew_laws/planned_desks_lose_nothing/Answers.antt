use Rattle.keep_planned_crews.proofs.Going.{desks_lose_nothing}
use Rattle.keep_planned_crews.proofs.crew_laws.planned_desks_lose_nothing.Goals as goal

pub returns : goal.returns
returns g c = desks_lose_nothing g.B.Naming.allows c.planned_histories_lose_nothing.ensures.books
