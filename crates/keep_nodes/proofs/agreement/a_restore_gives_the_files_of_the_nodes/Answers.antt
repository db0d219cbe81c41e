use Rattle.keep_nodes.proofs.Files.{contents_listed, restored_listed}
use Rattle.keep_nodes.proofs.agreement.a_restore_gives_the_files_of_the_nodes.Goals as goal

pub returns-clause-contents : goal.returns-clause-contents
returns-clause-contents c = contents_listed

pub returns-clause-restored : goal.returns-clause-restored
returns-clause-restored c = restored_listed
