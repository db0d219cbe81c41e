-- What a walk over keys, names or files leaves of a repository or a stock.
use Rattle.std.specs.Prelude.{ℕ, List, [], ◌∷◌, Option, Some}
use Rattle.std.specs.FinMap as map
use Rattle.std.specs.Option.{option_map_or}
use Rattle.keep_names.specs.declared.file_name.FileName.{FileName}
use Rattle.keep_repo.specs.Repository.{Repository}
use Rattle.keep_change.specs.NamedBytes.{NamedBytes}
use Rattle.keep_reading.specs.Checks.{Files}
use Rattle.keep_shelf.specs.Shelved.{Content}
use Rattle.keep_shelf.specs.declared.key.Key.{Key}
use Rattle.keep_shelf.specs.declared.key.Key.TheVariants.{Live, Trash}

-- the repository with what was found under the key, where that is a live file's
abbrev pub with_live : Key → Option (List ℕ) → Repository → Repository
with_live (Live name) (Some bytes) repo = record repo { files = map.insert repo.files name bytes }
with_live key found repo = repo

-- and with what stands under each of these
abbrev pub live_into : Content → List Key → Repository → Repository
live_into content [] repo = repo
live_into content (key ∷ keys) repo = live_into content keys (with_live key (map.get content key) repo)

-- the stock with the files of these names, live
abbrev pub lived_in : Files → List FileName → Content → Content
lived_in files [] content = content
lived_in files (name ∷ names) content =
    lived_in files names (option_map_or (map.insert content (Live name)) (map.get files name) content)

-- the stock with these files in the trash of change n
abbrev pub trash_put : ℕ → List NamedBytes → Content → Content
trash_put n [] content = content
trash_put n (f ∷ fs) content = trash_put n fs (map.insert content (Trash n f.name) f.bytes)
