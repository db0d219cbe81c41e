use Rattle.keep_patterns.proofs.Apart.{rests_apart}
use Rattle.keep_patterns.proofs.rest_laws.rests_tell_apart.Goals as goal

pub returns : goal.returns
returns c = rests_apart
