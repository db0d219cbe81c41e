-- A worker can be handed to another thread: its pass can. What all workers go by can be lent to several.
use denote.RattleType.{RattleType}
use denote.Param.Send.{IsSend, IsSync, recorded_send, sendable, struct_send}
use denote.Struct.Declared as declared
use denote.Enum.Enum as enum
use denote.Enum.Declared as enum_declared
use Rattle.std.proofs.Crossing.{crosses}
use Rattle.std.specs.contracts.option.Option as option
use Rattle.std.specs.declared.sync.ledger.Ledger as ledger
use Rattle.keep_chronicle.specs.declared.chronicle.Chronicled as chronicled
use Rattle.keep_register.specs.declared.naming.Naming as naming
use Rattle.keep_register.proofs.PassCrossing.{pass_send}
use Rattle.keep_desk_bench.specs.contracts.done.Done as done
use Rattle.keep_desk_bench.specs.contracts.worker.Shift as shift
use Rattle.keep_desk_bench.specs.contracts.worker.Worker as worker

done_send : IsSend (enum.Enum (enum_declared.shape (option.the_type done.the_row)))
done_send = search (crosses, sendable) depth 60 fits 20000

pub worker_send : (B : RattleType) (n : naming.Ghosts B.Denot) (c : chronicled.Ghosts B.Denot) (l : ledger.Ghosts B.Denot)
    → IsSend (worker.the_row B n c l)
worker_send B n c l =
    recorded_send _ _ (worker.the_type B n c l).to (worker.the_type B n c l).to_one
    (struct_send (declared.shape (worker.the_type B n c l)) (pass_send B n c l, (done_send, tt)))

pub shift_sync : IsSync shift.the_row
shift_sync = search (crosses, sendable) depth 60 fits 20000
