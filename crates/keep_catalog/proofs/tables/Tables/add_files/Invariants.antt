use Rattle.std.proofs.Common.{drop}
use Rattle.keep_repo.specs.Repository.{Repository}
use Rattle.keep_catalog.specs.Kept.{AreNew, IsKept}
use Rattle.keep_catalog.proofs.Building.{LeftNew}
use Rattle.keep_catalog.proofs.tables.Tables.add_files.Given as goal

abbrev pub invariant-loop-file : goal.invariant-loop-file
invariant-loop-file l =
    (r : Repository) → AreNew l.files r.files → IsKept r l.initial.self → LeftNew l.files (drop l.file-index l.files) r l.self
