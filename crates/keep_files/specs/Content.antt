-- What lies under keys in a tree.
use Rattle.std.specs.Prelude.{◌≡◌, ℕ, Option, None, Some, List}
use Rattle.std.specs.FinMap as map
use Rattle.keep_paths.specs.KeyPath.{IsKey, key_path}
use Rattle.keep_shelf.specs.Shelved.{Content}
use Rattle.keep_shelf.specs.declared.key.Key.{Key}
use Rattle.keep_files.specs.Stands.{Stands}
use Rattle.keep_files.specs.declared.node.Node.{Node}
use Rattle.keep_files.specs.declared.node.Node.TheVariants.{File}

-- the bytes of a file
abbrev pub file_in : Option Node → Option (List ℕ)
file_in (Some (File bytes)) = Some bytes
file_in _ = None

-- under each key is what the file at its path holds, and nothing where none is
abbrev pub HoldsFiles : Stands → Content → Type 0
HoldsFiles stands content = (key : Key) → IsKey key → map.get content key ≡ file_in (stands (key_path key))
