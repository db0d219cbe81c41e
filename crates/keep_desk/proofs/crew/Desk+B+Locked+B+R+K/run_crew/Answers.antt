use denote.Exit.{no}
use denote.Param.{param}
use denote.Param.Send.{arg_send, arg_sync, param_send, param_sync}
use Rattle.keep_desk.specs.contracts.desk.Desk as desk
use Rattle.keep_desk.specs.contracts.locked.Locked as locked
use Rattle.keep_desk.proofs.Crossing.{lends_sync, locked_send, operator_send}
use Rattle.keep_desk.proofs.desk.Desk.TheSendSync as desks
use Rattle.keep_desk.proofs.crew.Desk+B+Locked+B+R+K.run_crew.Goals as goal

pub for_each_mut-requires-send-T : goal.for_each_mut-requires-send-T
for_each_mut-requires-send-T g c κs within =
    param_send 1 _ (arg_send _ no _ (operator_send (param 0 g.row.B) (param 4 g.row.P) g.B.Naming g.B.Chronicled g.B.Ledger c.type_bounds.send-P))

pub for_each_mut-requires-sync-F : goal.for_each_mut-requires-sync-F
for_each_mut-requires-sync-F g c κs within =
    param_sync 2 _ (arg_sync _ no _ (lends_sync _ _ _ _ (param 5 g.row.G)
    (desk.the_row (param 0 g.row.B) (locked.the_row (param 0 g.row.B) (param 1 g.row.R) (param 2 g.row.K) g.B.Naming g.B.Chronicled g.B.Ledger g.K.Keeper)) (param 3 g.row.W)
    c.type_bounds.sync-G
    (desks.the_sync (param 0 g.row.B) (locked.the_row (param 0 g.row.B) (param 1 g.row.R) (param 2 g.row.K) g.B.Naming g.B.Chronicled g.B.Ledger g.K.Keeper)
    (locked_send (param 0 g.row.B) (param 1 g.row.R) g.B.Naming g.B.Chronicled g.B.Ledger c.type_bounds.send-R (param 2 g.row.K) g.K.Keeper c.type_bounds.send-K))
    c.type_bounds.sync-W))
