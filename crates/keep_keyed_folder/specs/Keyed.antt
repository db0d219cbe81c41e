-- A folder of keys as a value.
use Rattle.std.specs.Prelude.{◌≤◌, ℕ, Bool, List, string_bytes}
use Rattle.keep_shelf.specs.Shelved.{risen}
use Rattle.keep_files.specs.Act.{Act, Seen}
use Rattle.keep_files.specs.Stands.{Stands}
use Rattle.keep_keyed_folder.specs.declared.keyed.KeyedFolder.{KeyedFolder}

-- its tree
abbrev pub seen_in : {T : Type 0} → (T → Seen) → KeyedFolder T → Seen
seen_in seen folder = seen folder.files.tree

-- what stands there
abbrev pub stands_in : {T : Type 0} → (T → Seen) → KeyedFolder T → Stands
stands_in seen folder = (seen_in seen folder).stands

-- what was done there
abbrev pub acts_in : {T : Type 0} → (T → Seen) → KeyedFolder T → List Act
acts_in seen folder = (seen_in seen folder).acts

-- whether all that was done is known, and known to outlast a loss of power
abbrev pub is_sound_in : {T : Type 0} → KeyedFolder T → Bool
is_sound_in folder = folder.files.is_sound

-- what a file under way is called
abbrev pub tmp_in : {T : Type 0} → KeyedFolder T → List ℕ
tmp_in folder = string_bytes folder.tmp

-- a call of the tree failed, unless as many failed before as are counted
abbrev pub HasFailure : Seen → Seen → Type 0
HasFailure old new = risen old.failures ≤ new.failures
