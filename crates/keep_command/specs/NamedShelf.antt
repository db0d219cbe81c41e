-- What contracts see of the shelf that a script is answered over.
use Rattle.std.specs.Prelude.{◌≡◌, ⊤, ℕ, IsTrue, List, Option, Some, None, Result, Ok, Err}
use Rattle.std.specs.FinMap as map
use Rattle.keep_shelf.specs.Shelved.{Shelved, stocked}
use Rattle.keep_disk.specs.declared.folder_error.FolderError.{FolderError}
use Rattle.keep_command.specs.declared.named_shelf.NamedShelf.{NamedShelf}
use Rattle.keep_command.specs.declared.named_shelf.NamedShelf.TheVariants.{Memory, Folder}

-- the shelf that it is
abbrev pub shelved_of : NamedShelf → Shelved
shelved_of (Memory shelf) = shelf
shelved_of (Folder shelf) = shelf.shelved

-- it is had of this folder, just made: what was read there, or that isn't opened; where none is named it is in memory, with
-- nothing on it
abbrev pub IsHad : Option (List ℕ) → Result NamedShelf FolderError → Type 0
IsHad None (Ok (Memory shelf)) = shelf ≡ stocked map.empty
IsHad None (Ok (Folder shelf)) = ⊥
IsHad None (Err error) = ⊥
IsHad (Some name) (Ok (Memory shelf)) = ⊥
IsHad (Some name) (Ok (Folder shelf)) = (shelf.shelved ≡ stocked shelf.shelved.content) × IsTrue shelf.is_sure
IsHad (Some name) (Err error) = ⊤
