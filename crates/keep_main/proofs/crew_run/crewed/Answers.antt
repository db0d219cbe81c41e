use denote.Exit.{yes}
use denote.Param.Send.{arg_send, param_send}
use Rattle.keep_desk.proofs.BookCrossing.{book_send}
use Rattle.keep_main.specs.contracts.crew_run.crewed.dyn-1 as asked
use Rattle.keep_main.specs.contracts.crew_run.crewed.dyn-2 as counted
use Rattle.keep_main.proofs.crew_run.crewed.Goals as goal

-- the book goes to the operators' threads
pub crew_at_desk-requires-send-K : goal.crew_at_desk-requires-send-K
crew_at_desk-requires-send-K g c κs within = let d = g.dyn-1 in let e = g.dyn-2 in
    param_send 2 _ (arg_send _ yes _
    (book_send _ _ (asked.slots g.row.R g.row.S) (counted.slots g.row.R g.row.S) d.0 d.1 e.0 e.1 _ _ c.type_bounds.send-S d.2 e.2))

-- the desk's name allows just the backups of the crew
pub crew_at_desk-requires-clause-allows : goal.crew_at_desk-requires-clause-allows
crew_at_desk-requires-clause-allows g c κs within seen planned = (λ is. is, λ is. is)

pub returns-clause-crewed : goal.returns-clause-crewed
returns-clause-crewed g c = c.crew_at_desk.ensures.crewed

pub returns-clause-handed : goal.returns-clause-handed
returns-clause-handed g c = c.crew_at_desk.ensures.handed

pub returns-clause-hooks : goal.returns-clause-hooks
returns-clause-hooks g c = c.crew_at_desk.ensures.hooks

pub returns-clause-sums : goal.returns-clause-sums
returns-clause-sums g c = c.crew_at_desk.ensures.sums
