use Rattle.keep_change.proofs.Turning.{written_facets_turn_lem}
use Rattle.keep_change.proofs.change_laws.written_facets_turn.Goals as goal

pub returns : goal.returns
returns c = written_facets_turn_lem
