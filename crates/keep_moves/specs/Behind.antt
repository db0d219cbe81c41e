-- A shelf on which moves are left to be made.
use Rattle.std.specs.Prelude.{List}
use Rattle.keep_repo.specs.Repository.{Repository}
use Rattle.keep_journal.specs.Journal.{Journal}
use Rattle.keep_moves.specs.Move.{CanMake, Stand, moved_all}
use Rattle.keep_moves.specs.Standing.{HoldsFiles}
use Rattle.keep_moves.specs.declared.moves.Move.{Move}

-- the moves that are due can all be made, and then the shelf holds the files that the journal and the repository say
pub record IsBehind (j : Journal) (live : Repository) (due : List Move) (stand : Stand) : Type 0 where
  pub can : CanMake due stand
  pub rest : HoldsFiles j live (moved_all due stand)
