use Rattle.std.proofs.Common.{◌≡◌, map, take}
use Rattle.std.specs.BTreeSet.{contains}
use Rattle.keep_names.specs.Orders.{id_cmp}
use Rattle.keep_index.specs.Index.{pack_view}
use Rattle.keep_index.specs.Joining.{left_without}
use Rattle.keep_index.proofs.leaving.without_packs.Given as goal

abbrev pub invariant-loop-pack : goal.invariant-loop-pack
invariant-loop-pack l =
    map pack_view l.left.items
    ≡ left_without (contains id_cmp l.gone) (map pack_view (take l.pack-index l.packs))
