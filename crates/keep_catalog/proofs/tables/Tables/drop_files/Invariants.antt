use Rattle.std.proofs.Common.{drop}
use Rattle.keep_repo.specs.Repository.{Repository}
use Rattle.keep_catalog.specs.Kept.{AreThere, IsKept}
use Rattle.keep_catalog.proofs.Building.{LeftThere}
use Rattle.keep_catalog.proofs.tables.Tables.drop_files.Given as goal

abbrev pub invariant-loop-file : goal.invariant-loop-file
invariant-loop-file l =
    (r : Repository) → AreThere l.files r.files → IsKept r l.initial.self → LeftThere l.files (drop l.file-index l.files) r l.self
