use Rattle.keep_moves.proofs.Played.{made_stands, reads_leave, stops_behind}
use Rattle.keep_moves.proofs.move_laws.stops_stay_behind.Goals as goal

pub returns : goal.returns
returns c = record { reads = reads_leave; moves = made_stands; stops = stops_behind }
