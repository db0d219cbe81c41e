-- What holds of each tree.
use Rattle.keep_files.specs.Act.{Act, CanDo, after}
use Rattle.keep_files.specs.Stands.{IsClosed, Stands}

-- an act that a tree can do leaves what stands in folders
abbrev pub ActsKeepFolders : Type 0
ActsKeepFolders = (stands : Stands) (act : Act) → CanDo stands act → IsClosed stands → IsClosed (after stands act)
