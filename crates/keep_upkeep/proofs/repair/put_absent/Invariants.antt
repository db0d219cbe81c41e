use Rattle.std.proofs.Common.{◌≡◌, ◌||◌, map, take}
use Rattle.std.specs.BTreeSet.{contains}
use Rattle.std.specs.List.{list_any}
use Rattle.std.specs.Ordering.{eq_by_cmp}
use Rattle.keep_names.specs.Orders.{name_cmp}
use Rattle.keep_names.specs.declared.file_name.FileName.{FileName}
use Rattle.keep_index.specs.Index.{pack_view}
use Rattle.keep_upkeep.specs.Repair.{absent_among}
use Rattle.keep_upkeep.proofs.repair.put_absent.Given as goal

abbrev pub invariant-loop-pack : goal.invariant-loop-pack
invariant-loop-pack l =
    (name : FileName) → contains name_cmp l.absent name
    ≡ (contains name_cmp l.initial.absent name || list_any (eq_by_cmp name_cmp name) (absent_among l.repo (map pack_view (take l.pack-index l.packs))))
