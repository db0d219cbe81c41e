use Rattle.std.proofs.Common.{◌≡◌, ◌||◌, map}
use Rattle.std.specs.BTreeSet.{contains}
use Rattle.keep_names.specs.Orders.{name_cmp}
use Rattle.keep_names.specs.declared.file_name.FileName.{FileName}
use Rattle.keep_catalog.specs.Files.{packs_view}
use Rattle.keep_upkeep.specs.Repair.{absent_listed, other_listings}
use Rattle.keep_upkeep.proofs.AbsentPacks.{AreAmong}
use Rattle.keep_upkeep.proofs.repair.absent_packs.Given as goal

abbrev pub invariant-loop-index : goal.invariant-loop-index
invariant-loop-index l =
    (name : FileName) → (contains name_cmp l.absent name || AreAmong (absent_listed l.repo (other_listings l.built (map packs_view l.index-iterator))) name)
    ≡ AreAmong (absent_listed l.repo (other_listings l.built (map packs_view l.indexes.entries))) name
