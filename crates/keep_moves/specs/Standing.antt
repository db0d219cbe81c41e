-- What stands on a shelf for a journal and a repository.
use Rattle.std.specs.Prelude.{◌≡◌, ℕ, nat_le, List, Option, Some, None, if◌then◌else◌}
use Rattle.std.specs.FinMap as map
use Rattle.std.specs.Option.{option_and_then}
use Rattle.keep_names.specs.declared.file_name.FileName.{FileName}
use Rattle.keep_repo.specs.Facet.{Content, Stored}
use Rattle.keep_repo.specs.Repository.{Repository}
use Rattle.keep_repo.specs.declared.facet.Facet.TheVariants.{File}
use Rattle.keep_change.specs.Touch.{after_of, before_of}
use Rattle.keep_journal.specs.History.{change_of, final_number, is_in_force}
use Rattle.keep_journal.specs.Journal.{Journal}
use Rattle.keep_shelf.specs.declared.key.Key.TheVariants.{Live, Trash}
use Rattle.keep_moves.specs.Move.{Stand}

-- the bytes of a file that a facet holds
abbrev pub file_bytes : Option Content → Option (List ℕ)
file_bytes (Some (Stored bytes)) = Some bytes
file_bytes _ = None

-- what the trash of change n has under the name: what the file held before the change, while it is in force, and what the change left there, once it is undone; nothing where it is final
abbrev pub trashed : Journal → ℕ → FileName → Option (List ℕ)
trashed j n name =
    if nat_le n (final_number j) then None
    else option_and_then (λ c. file_bytes (if is_in_force j n then before_of c (File name) else after_of c (File name))) (change_of j n)

-- with no move left to be made, the live files are the repository's, and the trash is what the journal says
pub record HoldsFiles (j : Journal) (live : Repository) (stand : Stand) : Type 0 where
  pub files : (name : FileName) → stand (Live name) ≡ map.get live.files name
  pub trash : (n : ℕ) (name : FileName) → stand (Trash n name) ≡ trashed j n name
