use Rattle.std.proofs.Common.{◌≡◌, take}
use Rattle.std.specs.List.{filter_map}
use Rattle.keep_repo.specs.Repository.{Repository}
use Rattle.keep_catalog.specs.Files.{unread_at}
use Rattle.keep_catalog.specs.Kept.{AreUnreadOf}
use Rattle.keep_catalog.proofs.tables.unread_files.Given as goal

abbrev pub invariant-loop-name : goal.invariant-loop-name
invariant-loop-name l =
    (r : Repository) → AreUnreadOf r l.unread → l.files.items ≡ filter_map (unread_at r) (take l.name-index l.name-items)
