use Rattle.std.proofs.Common.{◌≡◌, ◌||◌, take}
use Rattle.std.specs.BTreeSet.{contains}
use Rattle.std.specs.List.{list_any}
use Rattle.std.specs.Ordering.{eq_by_cmp}
use Rattle.keep_names.specs.Orders.{id_cmp}
use Rattle.keep_names.specs.declared.id.Id.{Id}
use Rattle.keep_plan.specs.Storing.{unmarked_of}
use Rattle.keep_plan.specs.Marks.{AreMarks}
use Rattle.keep_plan.proofs.built_files.split_marks.Given as goal

abbrev pub invariant-loop-pack : goal.invariant-loop-pack
invariant-loop-pack l = record {
  marks : AreMarks l.repo (take l.pack-index l.pack-items) l.clears;
  free : (id : Id) → contains id_cmp l.unmarked id ≡ (contains id_cmp l.initial.unmarked id || list_any (eq_by_cmp id_cmp id) (unmarked_of l.repo (take l.pack-index l.pack-items)));
}
