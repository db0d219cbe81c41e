use denote.Exit.{yes}
use denote.Param.Send.{arg_send, param_send}
use Rattle.keep_desk.proofs.BookCrossing.{book_send}
use Rattle.keep_desk_bench.specs.contracts.desk_run.run_over.dyn-1 as asked
use Rattle.keep_desk_bench.specs.contracts.desk_run.run_over.dyn-2 as counted
use Rattle.keep_desk_bench.proofs.desk_run.run_over.Goals as goal

-- the book goes to the threads of those who work at the desk
pub run_named-requires-send-K : goal.run_named-requires-send-K
run_named-requires-send-K g c κs within = let d = g.dyn-1 in let e = g.dyn-2 in
    param_send 2 _ (arg_send _ yes _
    (book_send _ _ (asked.slots g.row.R g.row.S) (counted.slots g.row.R g.row.S) d.0 d.1 e.0 e.1 _ _ c.type_bounds.send-S d.2 e.2))
