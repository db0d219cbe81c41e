use denote.Exit.{no}
use denote.Param.{copied, param}
use denote.Param.Send.{arg_send, arg_sync, param_send, param_sync}
use Rattle.keep_desk.specs.contracts.desk.Desk as desk
use Rattle.keep_desk.specs.contracts.locked.Locked as locked
use Rattle.keep_desk.proofs.Crossing.{lends_sync, locked_send}
use Rattle.keep_desk.proofs.desk.Desk.TheSendSync as desks
use Rattle.keep_desk_bench.specs.contracts.worker.Shift as shift
use Rattle.keep_desk_bench.proofs.Crossing.{shift_sync, worker_send}
use Rattle.keep_desk_bench.proofs.desk_run.serve.Goals as goal

pub for_each_mut-requires-send-T : goal.for_each_mut-requires-send-T
for_each_mut-requires-send-T g c κs within =
    param_send 1 _ (arg_send _ no _ (worker_send (param 0 g.row.B) g.B.Naming g.B.Chronicled g.B.Ledger))

pub for_each_mut-requires-sync-F : goal.for_each_mut-requires-sync-F
for_each_mut-requires-sync-F g c κs within =
    param_sync 2 _ (arg_sync _ no _ (lends_sync _ _ _ _ (copied 1 g.row.R)
    (desk.the_row (param 0 g.row.B) (locked.the_row (param 0 g.row.B) (copied 1 g.row.R) (param 2 g.row.K) g.B.Naming g.B.Chronicled g.B.Ledger g.K.Keeper)) shift.the_row
    c.type_bounds.sync-R
    (desks.the_sync (param 0 g.row.B) (locked.the_row (param 0 g.row.B) (copied 1 g.row.R) (param 2 g.row.K) g.B.Naming g.B.Chronicled g.B.Ledger g.K.Keeper)
    (locked_send (param 0 g.row.B) (copied 1 g.row.R) g.B.Naming g.B.Chronicled g.B.Ledger c.type_bounds.send-R (param 2 g.row.K) g.K.Keeper c.type_bounds.send-K))
    shift_sync))
