-- What a restore does with what a snapshot has, one after another.
use Rattle.std.specs.Prelude.{if◌then◌else◌, ◌≡◌, ℕ, ◌+◌, ◌-◌, ◌^◌, ◌==◌, ◌&&◌, ◌⊎◌, Bool, false, not, is_some, min, Option, None, Some, List, [], ◌∷◌, ◌++◌, string_bytes}
use Rattle.keep_names.specs.declared.id.Id.{Id}
use Rattle.keep_files.specs.Path.{LiesRightIn}
use Rattle.keep_targets.specs.Call.{Call, Did, MakeFolder, MakeLink, Refused}
use Rattle.keep_targets.specs.declared.attributes.Owner.{Owner}
use Rattle.keep_targets.specs.declared.target_error.TargetError.{TargetError}
use Rattle.keep_putting.specs.Filling.{AreHad, IsHurt, Source, filling, pieces_size}
use Rattle.keep_putting.specs.Folders.{Folders}
use Rattle.keep_putting.specs.Hurts.{why_of}
use Rattle.keep_putting.specs.Leaving.{IsNamedNext}
use Rattle.keep_putting.specs.Places.{HasName, IsPlaceOf, placed, root_alone}
use Rattle.keep_putting.specs.Made.{folders_in}
use Rattle.keep_putting.specs.Attributes.{AreApplied, IsTriedIf, link_owner_act}
use Rattle.keep_putting.specs.declared.course.Course.{Course}
use Rattle.keep_putting.specs.declared.hurt.Hurt.{Hurt}
use Rattle.keep_putting.specs.declared.left_out.LeftOut.{LeftOut}
use Rattle.keep_putting.specs.declared.left_out.Why.{Why}
use Rattle.keep_putting.specs.declared.left_out.Why.TheVariants as why
use Rattle.keep_putting.specs.declared.restored.Restored.{Restored}
use Rattle.keep_putting.specs.declared.wanted.Wanted.{Wanted}
use Rattle.keep_putting.specs.declared.wanted.What.{What}
use Rattle.keep_putting.specs.declared.wanted.What.TheVariants.{File, Folder, Link, Other}

-- how many things were put
pub record Counts : Type 0 where
  pub files : ℕ
  pub folders : ℕ
  pub links : ℕ
  pub bytes : ℕ
  pub owners : ℕ
  pub link_times : ℕ

abbrev pub counts_of : Restored → Counts
counts_of r = record { files = r.files; folders = r.folders; links = r.links; bytes = r.bytes; owners = r.owners; link_times = r.link_times }

-- what was asked, what is named, where the folders are, and how many things were put
pub record Stage : Type 0 where
  pub calls : List Call
  pub left : List LeftOut
  pub folders : Folders
  pub counts : Counts

-- a sum, up to the last number of 64 bits
abbrev pub plus : ℕ → ℕ → ℕ
plus a b = min (a + b) (2 ^ 64 - 1)

-- owners are set by the superuser alone
abbrev pub owner_asked : Owner → Option Owner → Option Owner
owner_asked caller owner = if caller.uid == 0 then owner else None

-- it belongs to another one than whom what the caller makes belongs to
abbrev pub is_of_another : Owner → Option Owner → Bool
is_of_another caller None = false
is_of_another caller (Some owner) = not (caller.uid == owner.uid && caller.gid == owner.gid)

-- one owner more that isn't set and is another one
abbrev pub missed : Owner → Option Owner → ℕ → ℕ
missed caller owner count = if not (caller.uid == 0) && is_of_another caller owner then plus count 1 else count

-- ---- one thing, at its place

-- a folder was made, or it couldn't be and is named
abbrev pub IsFolderPut : Wanted → List ℕ → Stage → Stage → Type 0
IsFolderPut wanted place old new =
    ((new.calls ≡ old.calls ++ Did (MakeFolder place) ∷ []) × (new.left ≡ old.left)
    × (new.folders ≡ placed old.folders (string_bytes wanted.path) place)
    × (new.counts ≡ (let c = old.counts in record c { folders = plus old.counts.folders 1 })))
    ⊎ ((refusal : TargetError) × (new.calls ≡ old.calls ++ Refused refusal ∷ [])
    × IsNamedNext old.left new.left wanted (why.NotMade refusal)
    × (new.folders ≡ old.folders) × (new.counts ≡ old.counts))

-- a file was made of its pieces, and then owner, mode and times were set; or it isn't whole and is named
abbrev pub IsFilePut : Source → Owner → Wanted → List Id → List ℕ → Stage → Stage → Type 0
IsFilePut pieces caller wanted content place old new =
    ((between : List Call) × (between ≡ old.calls ++ filling pieces place content) × AreHad pieces content
    × AreApplied between new.calls old.left new.left wanted place (owner_asked caller wanted.owner)
    × (new.folders ≡ old.folders)
    × (new.counts ≡ (let c = old.counts in record c {
      files = plus old.counts.files 1;
      bytes = plus old.counts.bytes (pieces_size pieces content);
      owners = missed caller wanted.owner old.counts.owners;
    })))
    ⊎ ((hurt : Hurt) × IsHurt pieces place content old.calls new.calls hurt
    × IsNamedNext old.left new.left wanted (why_of hurt)
    × (new.folders ≡ old.folders) × (new.counts ≡ old.counts))

-- a link was made, and then its owner was set; or it couldn't be made and is named
abbrev pub IsLinkPut : Owner → Wanted → List ℕ → List ℕ → Stage → Stage → Type 0
IsLinkPut caller wanted to place old new =
    ((between : List Call) × (between ≡ old.calls ++ Did (MakeLink place to) ∷ [])
    × IsTriedIf (owner_asked caller wanted.owner) (link_owner_act place) between new.calls old.left new.left wanted why.NoOwner
    × (new.folders ≡ old.folders)
    × (new.counts ≡ (let c = old.counts in record c {
      links = plus old.counts.links 1;
      owners = missed caller wanted.owner old.counts.owners;
      link_times = if is_some wanted.times then plus old.counts.link_times 1 else old.counts.link_times;
    })))
    ⊎ ((refusal : TargetError) × (new.calls ≡ old.calls ++ Refused refusal ∷ [])
    × IsNamedNext old.left new.left wanted (why.NotMade refusal)
    × (new.folders ≡ old.folders) × (new.counts ≡ old.counts))

-- nothing was asked, and it is named
abbrev pub IsLeftOut : Wanted → Why → Stage → Stage → Type 0
IsLeftOut wanted why old new =
    (new.calls ≡ old.calls) × IsNamedNext old.left new.left wanted why × (new.folders ≡ old.folders) × (new.counts ≡ old.counts)

abbrev pub IsPut : Source → Owner → Wanted → What → List ℕ → Stage → Stage → Type 0
IsPut pieces caller wanted Folder place old new = IsFolderPut wanted place old new
IsPut pieces caller wanted (File content) place old new = IsFilePut pieces caller wanted content.items place old new
IsPut pieces caller wanted (Link to) place old new = IsLinkPut caller wanted (string_bytes to) place old new
IsPut pieces caller wanted Other place old new = IsLeftOut wanted why.OtherType old new

-- why it has no place
abbrev pub HasNoPlace : Folders → Wanted → Why → Type 0
HasNoPlace folders wanted why.BadName = HasName wanted → ⊥
HasNoPlace folders wanted why.NoFolder = (home : List ℕ) → LiesRightIn (string_bytes wanted.path) home → folders home ≡ None
HasNoPlace folders wanted _ = ⊥

-- it was put at its place, or it has none and is named
abbrev pub IsOneDone : Source → Owner → Wanted → Stage → Stage → Type 0
IsOneDone pieces caller wanted old new =
    ((place : List ℕ) × IsPlaceOf old.folders wanted place × IsPut pieces caller wanted wanted.what place old new)
    ⊎ ((why : Why) × HasNoPlace old.folders wanted why × IsLeftOut wanted why old new)

-- so it was with each of them, in order
abbrev pub AreDone : Source → Owner → List Wanted → Stage → Stage → Type 0
AreDone pieces caller [] old new = old ≡ new
AreDone pieces caller (wanted ∷ more) old new =
    (between : Stage) × IsOneDone pieces caller wanted old between × AreDone pieces caller more between new

-- ---- folders, once all that is in them is put

-- of a folder that was made owner, mode and times are set
abbrev pub IsFinishedAt : Owner → Wanted → Option (List ℕ) → Stage → Stage → Type 0
IsFinishedAt caller wanted None old new = old ≡ new
IsFinishedAt caller wanted (Some place) old new =
    AreApplied old.calls new.calls old.left new.left wanted place (owner_asked caller wanted.owner)
    × (new.folders ≡ old.folders)
    × (new.counts ≡ (let c = old.counts in record c { owners = missed caller wanted.owner old.counts.owners }))

abbrev pub IsFinished : Owner → Wanted → What → Stage → Stage → Type 0
IsFinished caller wanted Folder old new = IsFinishedAt caller wanted (old.folders (string_bytes wanted.path)) old new
IsFinished caller wanted _ old new = old ≡ new

-- so it is with each of them, the last one first
abbrev pub AreFinished : Owner → List Wanted → Stage → Stage → Type 0
AreFinished caller [] old new = old ≡ new
AreFinished caller (wanted ∷ more) old new =
    (between : Stage) × AreFinished caller more old between × IsFinished caller wanted wanted.what between new

-- ---- a restore

-- where it stands
abbrev pub stage_of : List Call → Course → Stage
stage_of calls course = record { calls = calls; left = course.restored.left_out.items; folders = folders_in course.places; counts = counts_of course.restored }

-- where it begins: nothing is there but the root
abbrev pub begun : Stage
begun = record {
  calls = [];
  left = [];
  folders = root_alone;
  counts = record { files = 0; folders = 0; links = 0; bytes = 0; owners = 0; link_times = 0 };
}

-- It begins, puts one thing after another, and then finishes the folders, the last one first. What it tells is what it
-- did.
pub record IsRestored (pieces : Source) (caller : Owner) (wanted : List Wanted) (calls : List Call) (told : Restored) : Type 0 where
  pub put : Stage
  pub finished : Stage
  pub puts : AreDone pieces caller wanted begun put
  pub finishes : AreFinished caller wanted put finished
  pub asked : finished.calls ≡ calls
  pub named : finished.left ≡ told.left_out.items
  pub counted : finished.counts ≡ counts_of told
