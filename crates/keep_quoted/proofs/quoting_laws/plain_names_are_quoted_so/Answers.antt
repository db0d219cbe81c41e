use Rattle.keep_quoted.proofs.Plain.{plain_quoted}
use Rattle.keep_quoted.proofs.quoting_laws.plain_names_are_quoted_so.Goals as goal

pub returns : goal.returns
returns c = plain_quoted
