-- What an operator of a crew is asked for can be handed to another thread.
use denote.Param.Send.{IsSend, sendable}
use Rattle.std.proofs.Crossing.{crosses}
use Rattle.keep_operators.specs.contracts.each_snapshot.EachSnapshot as each
use Rattle.keep_operators.specs.contracts.planner.Planner as planner

pub planner_send : IsSend (planner.the_row each.the_row)
planner_send = search (crosses, sendable) depth 60 fits 20000
