use Rattle.std.proofs.Common.{sym, ap, ◌∙◌}
use Rattle.std.proofs.lemmas.Result.{err_from_is_err_and}
use Rattle.keep_catalog.specs.Places.{chosen_listing}
use Rattle.keep_repo.specs.Repository.{Repository}
use Rattle.keep_upkeep.proofs.MarkAsked.{none_unknown, reach_refused, unread_unknown}
use Rattle.keep_upkeep.proofs.mark.reached.Goals as goal

pub returns-clause-places : goal.returns-clause-places
returns-clause-places c blob found there =
    ap (λ (r : Repository). chosen_listing r blob) (sym c.in_ok-catalog.ensures.catalog) ∙ c.in_ok-reached.ensures.places blob found there

pub returns-clause-known : goal.returns-clause-known
returns-clause-known c =
    none_unknown c.args.view.now.repo c.in_ok-catalog.catalog c.in_ok-catalog.ensures.catalog c.in_ok-catalog.ensures.all_read c.in_ok-reached.ensures.all

pub returns-in_err-catalog-clause-refused : goal.returns-in_err-catalog-clause-refused
returns-in_err-catalog-clause-refused c =
    let due = err_from_is_err_and c.from_residual.result c.from_residual.ensures.1 in
    rw (due.1, due.2) (unread_unknown c.args.view.now.repo _ c.in_err-catalog.ensures.refused)

pub returns-in_err-reached-clause-refused : goal.returns-in_err-reached-clause-refused
returns-in_err-reached-clause-refused c =
    let due = err_from_is_err_and c.from_residual-in_err-reached.result c.from_residual-in_err-reached.ensures.1 in
    rw (due.1, due.2)
    (reach_refused c.args.view.now.repo c.in_ok-catalog.catalog _ c.in_ok-catalog.ensures.catalog c.in_ok-catalog.ensures.all_read c.in_err-reached.ensures.refused)
