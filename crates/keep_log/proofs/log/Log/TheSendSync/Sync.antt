-- A `&` to a log holds nothing but the log's own place, so threads may share it.
use denote.RattleType.{RattleType}
use denote.Memory.{part_of, raw_all}
use denote.Param.Send.{IsSync, cell_keyless}
use Rattle.keep_log.specs.contracts.log.Log.{the_row}

pub sync : (E : RattleType) → IsSync (the_row E)
unfolding part_of
sync E = record { shared = λ d b o κ q vs. (cell_keyless q (raw_all (the_row E).mir) vs b o, ((λ vss. (tt, ((λ uss. (tt, tt)), tt))), tt)) }
