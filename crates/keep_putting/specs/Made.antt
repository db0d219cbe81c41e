-- Where the folders are that were made.
use Rattle.std.specs.Prelude.{option_map, string_bytes}
use Rattle.std.specs.BTreeMap.{get_by_text}
use Rattle.keep_putting.specs.Folders.{Folders}
use Rattle.keep_putting.specs.declared.places.Places.{Places}

abbrev pub folders_in : Places → Folders
folders_in places = λ path. option_map string_bytes (get_by_text places.folders path)
