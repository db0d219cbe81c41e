-- Where a catalog has its tables from: words of its private invariant alone.
use Rattle.keep_repo.specs.Repository.{Repository}
use Rattle.keep_catalog.specs.Kept.{IsKept}
use Rattle.keep_catalog.specs.declared.catalog.Source.{Source}
use Rattle.keep_catalog.specs.declared.catalog.Source.TheVariants.{Own, Lent}

-- the tables are those of the repository
abbrev pub IsSource : Repository → Source → Type 0
IsSource r (Own tables) = IsKept r tables
IsSource r (Lent tables) = IsKept r tables.now
