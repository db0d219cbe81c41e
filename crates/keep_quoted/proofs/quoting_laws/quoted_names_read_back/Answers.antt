use Rattle.keep_quoted.proofs.ReadBack.{name_back}
use Rattle.keep_quoted.proofs.quoting_laws.quoted_names_read_back.Goals as goal

pub returns : goal.returns
returns c = name_back
