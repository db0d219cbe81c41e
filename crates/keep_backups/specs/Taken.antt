-- What an intake was given, whatever of it is stored.
use Rattle.std.specs.Prelude.{◌≡◌, ◌++◌, List, map, Option, None, Some}
use Rattle.serde_json.specs.Data.{Members}
use Rattle.keep_archive.specs.Archive.{ArchiveData, BegunData, BlobsData, PlaceData}
use Rattle.keep_archive.specs.Steps.{AddsOther, Closes, DropsFile, EndsFile, Opens, SamesFile, WritesFile}
use Rattle.keep_archive.specs.Walked.{nothing}
use Rattle.keep_build.specs.Blobs.{blob_id_of}
use Rattle.keep_members.specs.Carried.{IsCarried}
use Rattle.keep_names.specs.declared.blob.BlobId.{BlobId}
use Rattle.keep_quoted.specs.Quote.{quoted}
use Rattle.keep_sources.specs.Given.{Given, ClosedFolder, DroppedFile, EndedFile, GotOther, GotSame, OpenedFolder, Wrote}
use Rattle.keep_backups.specs.Sighted.{sighted, type_name_of}

-- the blobs that have to have a place when the last change is planned, and those that wait to be stored
abbrev pub kept_in : BlobsData → List BlobId
kept_in blobs = blobs.named ++ map blob_id_of blobs.held

-- the nodes, in their folders, the file that is being read, and the blobs of all that
pub record TakenData : Type 0 where
  pub place : PlaceData
  pub begun : BegunData
  pub kept : List BlobId

-- what an open archive has of what it was given
abbrev pub taken_in : ArchiveData → TakenData
taken_in a = record { place = a.place; begun = a.begun; kept = kept_in a.blobs }

-- what an archive has of what it was given, and nothing where it is shut
abbrev pub taken_of : Option ArchiveData → TakenData
taken_of None = taken_in (nothing 0)
taken_of (Some a) = taken_in a

-- what is given is done so to the archive: under its name as a tree has it, and with what was seen as its members
abbrev pub Does : Given → ArchiveData → ArchiveData → Type 0
Does (OpenedFolder name) old made = Opens (quoted name) old made
Does (ClosedFolder sight) old made = (others : Members) × IsCarried (sighted sight) others × Closes others old made
Does (Wrote bytes) old made = WritesFile bytes old made
Does (EndedFile name sight) old made =
    (others : Members) × IsCarried (sighted sight) others × EndsFile (quoted name) others old made
Does DroppedFile old made = DropsFile old made
Does (GotSame name content sight) old made =
    (others : Members) × IsCarried (sighted sight) others × SamesFile (quoted name) content others old made
Does (GotOther name sight) old made =
    (others : Members) × IsCarried (sighted sight) others
    × AddsOther (quoted name) (type_name_of sight.kind) others old made

-- an archive that was given so much is given this
pub record Gives (before : TakenData) (given : Given) (after : TakenData) : Type 0 where
  pub old : ArchiveData
  pub made : ArchiveData
  pub was : before ≡ taken_in old
  pub is : after ≡ taken_in made
  pub does : Does given old made
