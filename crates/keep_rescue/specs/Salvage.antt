-- What a rescue makes of what a walk gives it.
use Rattle.std.specs.Prelude.{ℕ, ◌≡◌, ◌-◌, List, [], ◌∷◌, ◌++◌, codes, length, take, slice_get, string_bytes, is_ok, Option, None, Some, if◌then◌else◌}
use Rattle.std.specs.Str.{bytes_eq}
use Rattle.sha2.specs.Sha256.{sha256}
use Rattle.keep_docs.specs.Config.{config_of}
use Rattle.keep_names.specs.FileName.{named, path_text}
use Rattle.keep_names.specs.declared.file_name.FileName.{FileName}
use Rattle.keep_names.specs.declared.file_name.Kind.TheVariants.{Index, Pack, Snapshot}
use Rattle.keep_names.specs.declared.id.Id.{Id}
use Rattle.keep_sources.specs.Given.{ClosedFolder, DroppedFile, EndedFile, Given, GotOther, GotSame, OpenedFolder, Wrote}
use Rattle.keep_targets.specs.Call.{Append, Call, Did, MakeFile, MakeFolder}
use Rattle.keep_rescue.specs.declared.loss.Loss.{Loss}
use Rattle.keep_rescue.specs.declared.loss.Loss.TheVariants.{NoFile, OtherBytes}
use Rattle.keep_rescue.specs.declared.loss.Lost.{Lost}

-- the paths of the open folders, the bytes of a file that hasn't ended, the config, the calls of the target, the files that
-- are in the new folder, and what isn't there
pub record SalvageData : Type 0 where
  pub folders : List (List ℕ)
  pub bytes : List ℕ
  pub config : Option (List ℕ)
  pub calls : List Call
  pub saved : List FileName
  pub lost : List (List ℕ × Loss)

-- nothing was given yet
abbrev pub begun : List Call → SalvageData
begun calls = record { folders = []; bytes = []; config = None; calls = calls; saved = []; lost = [] }

abbrev pub lost_view : Lost → List ℕ × Loss
lost_view lost = (string_bytes lost.path, lost.why)

-- the path of a name below a folder, or at the root
abbrev pub path_below : Option (List ℕ) → List ℕ → List ℕ
path_below (Some folder) name = folder ++ (codes "/" ++ name)
path_below None name = name

-- the path of a name below the folder that was opened last
abbrev pub path_in : List (List ℕ) → List ℕ → List ℕ
path_in folders name = path_below (slice_get folders (length folders - 1)) name

-- the path in the new folder, as a target has it
abbrev pub place : List ℕ → List ℕ
place path = codes "/" ++ path

-- the file of these bytes that has its place at this path: a pack, an index or a snapshot
abbrev pub first_at : List ℕ → Id → Option FileName
first_at path id =
    if bytes_eq path (path_text (named Pack id)) then Some (named Pack id)
    else if bytes_eq path (path_text (named Index id)) then Some (named Index id)
    else if bytes_eq path (path_text (named Snapshot id)) then Some (named Snapshot id)
    else None

abbrev pub whole_at : List ℕ → List ℕ → Option FileName
whole_at path bytes = first_at path (record { 0 = sha256 bytes })

-- something isn't in the new folder
abbrev pub losing : SalvageData → List ℕ → Loss → SalvageData
losing s path why = record s { lost = s.lost ++ (path, why) ∷ [] }

-- a file is made, and gets its bytes
abbrev pub putting : List Call → List ℕ → List ℕ → List Call
putting calls path bytes = (calls ++ Did (MakeFile path) ∷ []) ++ Did (Append path bytes) ∷ []

-- a file that is whole is made anew, and one that isn't is lost
abbrev pub saving : SalvageData → List ℕ → Option FileName → SalvageData
saving s path (Some name) = record s {
  calls = putting s.calls (place path) s.bytes;
  saved = s.saved ++ name ∷ [];
}
saving s path None = losing s path OtherBytes

-- the config is kept for the end, if it is one
abbrev pub configuring : SalvageData → SalvageData
configuring s = if is_ok (config_of s.bytes) then record s { config = Some s.bytes } else s

abbrev pub ending : SalvageData → List ℕ → SalvageData
ending s path = if bytes_eq path (codes "config") then configuring s else saving s path (whole_at path s.bytes)

abbrev pub without_bytes : SalvageData → SalvageData
without_bytes s = record s { bytes = [] }

-- a folder is made anew
abbrev pub opening : SalvageData → List ℕ → SalvageData
opening s path = record s { folders = s.folders ++ path ∷ []; calls = s.calls ++ Did (MakeFolder (place path)) ∷ [] }

-- what comes of what is given
abbrev pub step : SalvageData → Given → SalvageData
step s (OpenedFolder name) = opening s (path_in s.folders name)
step s (ClosedFolder sight) = record s { folders = take (length s.folders - 1) s.folders }
step s (Wrote bytes) = record s { bytes = s.bytes ++ bytes }
step s (EndedFile name sight) = without_bytes (ending s (path_in s.folders name))
step s DroppedFile = without_bytes s
step s (GotSame name content sight) = s
step s (GotOther name sight) = losing s (path_in s.folders name) NoFile

-- that is just what comes of it
abbrev pub steps : SalvageData → Given → SalvageData → Type 0
steps s given now = now ≡ step s given
