-- A log owns nothing, so it may go to another thread, whatever its items are.
use denote.RattleType.{RattleType}
use denote.Param.Send.{IsSend, owning_send, sendable}
use Rattle.keep_log.specs.contracts.log.Log.{the_row, the_type}

pub send : (E : RattleType) → IsSend (the_row E)
send E = owning_send (the_type E) (search sendable, tt) (λ d. tt) (λ k x w. tt)
