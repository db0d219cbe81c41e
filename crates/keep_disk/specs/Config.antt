-- The config of a repository in a tree.
use Rattle.std.specs.Prelude.{◌≡◌, ℕ, List, IsOk, Some, codes}
use Rattle.keep_docs.specs.Config.{config_of}
use Rattle.keep_files.specs.Stands.{Stands}
use Rattle.keep_files.specs.declared.node.Node.TheVariants.{File}

-- a file `config` that is one of a repository stands at the root
abbrev pub HasConfig : Stands → Type 0
HasConfig stands = (bytes : List ℕ) × (stands (codes "config") ≡ Some (File bytes)) × IsOk (config_of bytes)
