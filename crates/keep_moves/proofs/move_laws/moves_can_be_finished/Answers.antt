use Rattle.keep_moves.proofs.Apart.{all_made, one_made}
use Rattle.keep_moves.proofs.move_laws.moves_can_be_finished.Goals as goal

pub returns : goal.returns
returns c = record { one = one_made; all = all_made }
