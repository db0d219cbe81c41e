use Rattle.keep_reading.proofs.Moving.{a_move_reads, moves_read}
use Rattle.keep_reading.proofs.stops.a_shelf_says_what_is_in.Goals as goal

pub returns : goal.returns
returns c = record { one = a_move_reads; all = moves_read }
