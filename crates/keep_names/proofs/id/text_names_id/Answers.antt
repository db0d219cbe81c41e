use Rattle.std.proofs.Common.{rules}
use Rattle.keep_names.proofs.IdText.{IsIdText-id_text, id_text-exact}
use Rattle.keep_names.proofs.id.text_names_id.Goals as goal

pub returns-clause-digits : goal.returns-clause-digits
returns-clause-digits c = IsIdText-id_text c.args.first (search rules)

pub returns-clause-exact : goal.returns-clause-exact
returns-clause-exact c = id_text-exact c.args.first c.args.second (search rules) (search rules)
