-- What is wrong with the files of a repository.
use Rattle.std.specs.Prelude.{Bool, false, not, List, ◌++◌, map, filter}
use Rattle.std.specs.Option.{option_map_or}
use Rattle.std.specs.FinMap as finite
use Rattle.keep_names.specs.declared.file_name.FileName.{FileName}
use Rattle.keep_repo.specs.Repository.{Repository}
use Rattle.keep_catalog.specs.Files.{unread_in}
use Rattle.keep_catalog.specs.Places.{has_id}
use Rattle.keep_reach.specs.Snapshots.{broken_in}
use Rattle.keep_catalog.specs.Wrong.{wrong_blobs_in}
use Rattle.keep_read.specs.declared.finding.Finding.{Finding}
use Rattle.keep_read.specs.declared.finding.Finding.TheVariants.{Broken, Unreadable, WrongBlob, WrongName}

-- whether the file is there and its bytes have another SHA-256 than its name
abbrev pub is_misnamed : Repository → FileName → Bool
is_misnamed r name = option_map_or (λ bytes. not (has_id name.id bytes)) (finite.get r.files name) false

-- the files whose bytes have another SHA-256, by name
abbrev pub misnamed_in : Repository → List FileName
misnamed_in r = filter (is_misnamed r) (finite.keys r.files)

-- all that an audit finds: wrong names, files that can't be read, blobs whose bytes have another id, and
-- snapshots that don't reach all that they name
abbrev pub findings_in : Repository → List Finding
findings_in r =
    map WrongName (misnamed_in r) ++ map Unreadable (unread_in r)
    ++ map (λ w. WrongBlob w.0 w.1) (wrong_blobs_in r) ++ map (λ b. Broken b.0 b.1) (broken_in r)
