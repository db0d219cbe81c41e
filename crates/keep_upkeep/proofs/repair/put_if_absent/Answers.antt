use Rattle.std.proofs.Common.{◌||◌, not, cond, [], ◌∷◌, sym, ap, ◌∙◌}
use Rattle.std.specs.BTreeSet.{contains}
use Rattle.std.specs.FinMap.{get}
use Rattle.std.specs.List.{list_any}
use Rattle.std.specs.Ordering.{eq_by_cmp}
use Rattle.keep_names.proofs.Orders.{name_total}
use Rattle.keep_names.specs.Orders.{name_cmp}
use Rattle.keep_repo.specs.Facet.{Stored}
use Rattle.keep_plan.proofs.Sets.{one_more}
use Rattle.keep_plan.proofs.StoredFiles.{filled_there}
use Rattle.keep_upkeep.proofs.repair.put_if_absent.Goals as goal

pub returns : goal.returns
returns c name =
    one_more name_total c.args.absent.now c.insert.new.self c.args.file c.in_ok-insert.ensures.updates.0 name
    ∙ ap (λ t. contains name_cmp c.args.absent.now name || list_any (eq_by_cmp name_cmp name) (cond (not t) (c.args.file ∷ []) []))
    (sym (sym (filled_there Stored (get c.args.repo.now.files c.args.file)) ∙ sym c.facet_filled.ensures ∙ c.if-facet_filled.false))
