use denote.Exit.{yes}
use denote.Param.Send.{arg_send, param_send}
use Rattle.keep_desk.proofs.BookCrossing.{book_send}
use Rattle.keep_desk.specs.contracts.handing.books_cross_threads.dyn-1 as asked
use Rattle.keep_desk.specs.contracts.handing.books_cross_threads.dyn-2 as counted
use Rattle.keep_desk.proofs.handing.books_cross_threads.Goals as goal

pub handed-requires-send-T : goal.handed-requires-send-T
handed-requires-send-T g c κs within = let d = g.dyn-1 in let e = g.dyn-2 in
    param_send 0 _ (arg_send _ yes _
    (book_send _ _ (asked.slots g.row.S) (counted.slots g.row.S) d.0 d.1 e.0 e.1 _ _ c.type_bounds.send-S d.2 e.2))
