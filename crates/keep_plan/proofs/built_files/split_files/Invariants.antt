use Rattle.std.proofs.Common.{◌≡◌, ◌||◌}
use Rattle.std.specs.BTreeMap as tree
use Rattle.std.specs.BTreeSet.{contains}
use Rattle.std.specs.FinMap.{find}
use Rattle.std.specs.List.{list_any}
use Rattle.std.specs.Ordering.{eq_by_cmp}
use Rattle.keep_names.specs.Orders.{name_cmp}
use Rattle.keep_names.specs.declared.file_name.FileName.{FileName}
use Rattle.keep_plan.specs.Storing.{absent_of, names_there}
use Rattle.keep_plan.proofs.built_files.split_files.Given as goal

abbrev pub invariant-loop-file : goal.invariant-loop-file
invariant-loop-file l = record {
  adds : (name : FileName) → tree.get name_cmp l.adds name ≡ find name_cmp name (absent_of l.repo l.yielded);
  present : (name : FileName) → contains name_cmp l.present name ≡ (contains name_cmp l.initial.present name || list_any (eq_by_cmp name_cmp name) (names_there l.repo l.yielded));
}
