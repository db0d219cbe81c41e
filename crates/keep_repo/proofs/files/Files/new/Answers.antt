use Rattle.keep_repo.proofs.ByName.{none_counted}
use Rattle.keep_repo.proofs.files.Files.new.Goals as goal

pub invariant_of-result : goal.invariant_of-result
invariant_of-result c = none_counted _ _ _ c.new.ensures.empty c.new-2.ensures.empty c.new-3.ensures.empty
