use Rattle.std.proofs.Common.{ap, ◌∙◌}
use Rattle.std.specs.Ordering.{eq_by_cmp}
use Rattle.keep_names.specs.Orders.{name_cmp}
use Rattle.keep_names.specs.contracts.file_name.FileNameOrd.TheImpl.Laws as the_name_laws
use Rattle.keep_damage.proofs.teller.is_named.Goals as goal

pub returns : goal.returns
returns c = c.eq.ensures ∙ the_name_laws.matches_eq-law c.args.name c.name.result ∙ ap (eq_by_cmp name_cmp c.args.name) c.name.ensures
