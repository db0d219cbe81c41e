use Rattle.std.proofs.Common.{ap}
use Rattle.std.specs.BTreeMap.{is_at}
use Rattle.std.specs.List.{list_any}
use Rattle.keep_names.specs.Orders.{id_cmp, name_cmp}
use Rattle.keep_plan.specs.Reuse.{reused_files, reused_packs}
use Rattle.keep_plan.proofs.reuses.Reuses.new.Goals as goal

pub returns : goal.returns
unfolding reused_files reused_packs
returns c r = record {
  files = λ q. ap (list_any (is_at (name_cmp q))) c.new.ensures.empty;
  packs = λ q. ap (list_any (is_at (id_cmp q))) c.new-2.ensures.empty;
}
