-- In a list that is in order a facet stands once or not at all.
use Rattle.std.proofs.Common.{sym, ◌∙◌, ap}
use Rattle.std.specs.Int.{from_bool}
use Rattle.keep_repo.specs.Facet.{facet_cmp}
use Rattle.keep_repo.proofs.Orders.{facet_total}
use Rattle.keep_change.proofs.Once.{count_by-sorted}
use Rattle.keep_change.proofs.well_formedness.times_in.Goals as goal

pub returns-clause-times : goal.returns-clause-times
returns-clause-times g c =
    c.from.ensures ∙ ap from_bool c.contains.ensures ∙ sym (count_by-sorted facet_cmp facet_total c.args.facet _ c.requires)
