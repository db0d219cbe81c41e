use Rattle.keep_nodes.proofs.Files.{whole_listed}
use Rattle.keep_nodes.proofs.agreement.what_is_whole_is_listed_alike.Goals as goal

pub returns : goal.returns
returns c = whole_listed
