-- The files before this one are learnt.
use Rattle.std.proofs.Common.{◌≡◌, ◌||◌, take}
use Rattle.std.specs.BTreeSet.{contains}
use Rattle.keep_names.specs.Orders.{id_cmp}
use Rattle.keep_names.specs.declared.id.Id.{Id}
use Rattle.keep_view.specs.Telling.{has_snapshot}
use Rattle.keep_view.proofs.known.learn_files.Given as goal

abbrev pub invariant-loop-file : goal.invariant-loop-file
invariant-loop-file l = (id : Id) → contains id_cmp l.known id ≡ (contains id_cmp l.initial.known id || has_snapshot (take l.file-index l.files) id)
