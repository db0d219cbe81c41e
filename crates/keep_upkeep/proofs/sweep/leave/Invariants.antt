use Rattle.std.proofs.Common.{◌≡◌, ◌++◌, map}
use Rattle.std.specs.BTreeSet.{contains}
use Rattle.keep_names.specs.Orders.{id_cmp}
use Rattle.keep_index.specs.Index.{index_view}
use Rattle.keep_catalog.specs.Files.{packs_view}
use Rattle.keep_upkeep.specs.Sweep.{left_of, listing_gone, names_of}
use Rattle.keep_upkeep.proofs.sweep.leave.Given as goal

abbrev pub invariant-loop-index : goal.invariant-loop-index
invariant-loop-index l = record {
  names : l.names.items ++ names_of (listing_gone (contains id_cmp l.gone) (map packs_view l.index-iterator))
      ≡ names_of (listing_gone (contains id_cmp l.gone) (map packs_view l.indexes.entries));
  left : map index_view l.left.items ++ left_of (contains id_cmp l.gone) (listing_gone (contains id_cmp l.gone) (map packs_view l.index-iterator))
      ≡ left_of (contains id_cmp l.gone) (listing_gone (contains id_cmp l.gone) (map packs_view l.indexes.entries));
}
