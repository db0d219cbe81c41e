use Rattle.keep_change.proofs.Arriving.{files_come_from_lem}
use Rattle.keep_change.proofs.Following.{facets_follow_lem}
use Rattle.keep_change.proofs.change_laws.results_follow_the_lists.Goals as goal

pub returns-clause-facets : goal.returns-clause-facets
returns-clause-facets c = facets_follow_lem

pub returns-clause-files : goal.returns-clause-files
returns-clause-files c = files_come_from_lem
