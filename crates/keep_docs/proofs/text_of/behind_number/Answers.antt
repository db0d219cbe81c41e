use Rattle.std.proofs.Common.{rules}
use Rattle.keep_docs.specs.Behind.{behind}
use Rattle.keep_docs.proofs.text_of.behind_number.Goals as goal

pub returns-in-None : goal.returns-in-None
unfolding behind
returns-in-None c = search rules
