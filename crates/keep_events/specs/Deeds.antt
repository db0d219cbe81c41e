-- What a change did, told from the files and marks that it writes.
use Rattle.std.specs.Prelude.{ℕ, ◌+◌, ◌==◌, ◌&&◌, ◌||◌, not, nat_lt, Bool, true, false, if◌then◌else◌, List, [], ◌∷◌, ◌++◌, codes, fold, length, Option, None, Some, option_map, option_and_then, is_some, string_bytes, unwrap_or, ℤ, pos}
use Rattle.std.specs.Fmt.{decimal}
use Rattle.std.specs.List.{find}
use Rattle.std.specs.Result.{result_ok}
use Rattle.keep_names.specs.declared.file_name.FileName.{FileName}
use Rattle.keep_names.specs.declared.file_name.Kind.{Kind}
use Rattle.keep_names.specs.declared.file_name.Kind.TheVariants.{Pack, Index, Snapshot}
use Rattle.keep_docs.specs.declared.doc.DocError.TheVariants.{NotJson, BadNumber, Memory}
use Rattle.keep_snap.specs.Snap.{SnapData, snap_of}
use Rattle.keep_snap.specs.Time.{moment_in}
use Rattle.keep_snap.specs.declared.snap.SnapError.{SnapError}
use Rattle.keep_snap.specs.declared.snap.SnapError.TheVariants.{Doc, BadSnapshot, BadTime}
use Rattle.keep_change.specs.Lists.{file_names}
use Rattle.keep_change.specs.NamedBytes.{NamedBytes}
use Rattle.keep_change.specs.declared.change.Change.{Change}
use Rattle.keep_rows.specs.Values.{local_of}
use Rattle.keep_rows.specs.declared.when.When.{When}
use Rattle.keep_events.specs.declared.purpose.Purpose.{Purpose}
use Rattle.keep_events.specs.declared.purpose.Purpose.TheVariants as deed
use Rattle.keep_events.specs.declared.shape.Files.{Files}
use Rattle.keep_events.specs.declared.shape.Shape.{Shape}
use Rattle.keep_events.specs.declared.taken.Taken.{Taken}

-- ---- how many files of each kind

abbrev pub counted_kind : Files → Kind → Files
counted_kind files Pack = record files { packs = files.packs + 1 }
counted_kind files Index = record files { indexes = files.indexes + 1 }
counted_kind files Snapshot = record files { snapshots = files.snapshots + 1 }

abbrev pub counted : Files → FileName → Files
counted files name = counted_kind files name.kind

abbrev pub files_of : List FileName → Files
files_of names = fold counted (record { snapshots = 0; indexes = 0; packs = 0 }) names

abbrev pub shape_of : Change → Shape
shape_of c = record {
  adds = files_of (file_names c.adds);
  drops = files_of (file_names c.drops);
  added = length c.adds;
  dropped = length c.drops;
  sets = length c.sets;
  clears = length c.clears;
}

-- ---- the first snapshot that it adds

-- its host, its moment, and whether it was made from another one
pub record TakenData : Type 0 where
  pub host : List ℕ
  pub at : Option When
  pub is_made : Bool

abbrev pub taken_view : Taken → TakenData
taken_view taken = record { host = string_bytes taken.host; at = taken.at; is_made = taken.is_made }

abbrev pub in_utc : ℤ → When
in_utc moment = record { moment = moment; offset = pos 0 }

abbrev pub taken_by : SnapData → TakenData
taken_by s = record {
  host = unwrap_or s.hostname [];
  at = option_map in_utc (moment_in s.time);
  is_made = is_some s.original;
}

abbrev pub taken_from : List ℕ → Option TakenData
taken_from bytes = option_map taken_by (result_ok (snap_of bytes))

abbrev pub is_snapshot : Kind → Bool
is_snapshot Snapshot = true
is_snapshot Pack = false
is_snapshot Index = false

abbrev pub first_snapshot : List NamedBytes → Option NamedBytes
first_snapshot files = find (λ f. is_snapshot f.name.kind) files

abbrev pub taken_in : List NamedBytes → Option TakenData
taken_in files = option_and_then (λ f. taken_from f.bytes) (first_snapshot files)

-- whether memory ran out
abbrev pub is_memory : SnapError → Bool
is_memory (Doc Memory) = true
is_memory (Doc NotJson) = false
is_memory (Doc BadNumber) = false
is_memory BadSnapshot = false
is_memory BadTime = false

-- ---- what it did

-- a change that adds snapshots: a backup adds one that isn't made from another one and drops none; a tag has as many new
-- ones as it drops and adds nothing else; else it is a rewrite
abbrev pub adding : Shape → Bool → Purpose
adding s is_made =
    if s.drops.snapshots == 0
    then (if (s.adds.snapshots == 1) && not is_made then deed.Backup else deed.Rewrite)
    else (if (s.adds.snapshots == s.drops.snapshots) && (s.added == s.adds.snapshots) then deed.Tag else deed.Rewrite)

-- a change that writes no snapshots: a sweep drops packs, a part of a backup adds some, a repair writes indexes alone, and
-- else there are marks
abbrev pub upkeep : Shape → Purpose
upkeep s =
    if nat_lt 0 s.drops.packs then deed.Sweep
    else (if nat_lt 0 s.adds.packs then deed.Store
    else (if nat_lt 0 s.added || nat_lt 0 s.dropped then deed.Repair
    else (if nat_lt 0 s.sets then deed.Mark
    else (if nat_lt 0 s.clears then deed.Unmark
    else deed.Other))))

-- what a change did, by its shape, and by whether its first new snapshot was made from another one
abbrev pub deed_of : Shape → Bool → Purpose
deed_of s is_made =
    if nat_lt 0 s.adds.snapshots then adding s is_made
    else (if nat_lt 0 s.drops.snapshots then deed.Forget else upkeep s)

-- ---- how people read it

-- `1 pack`, `2 packs`
abbrev pub some_text : ℕ → List ℕ → List ℕ
some_text n noun = decimal n ++ (codes " " ++ (noun ++ (if n == 1 then [] else codes "s")))

abbrev pub of_some : List ℕ → ℕ → List ℕ → List ℕ
of_some verb n noun = verb ++ (codes " of " ++ some_text n noun)

-- the host and the time of a backup, where they are known
abbrev pub at_time : Option When → List ℕ
at_time None = []
at_time (Some at) = codes " at " ++ local_of at

abbrev pub of_host : Option TakenData → List ℕ
of_host None = []
of_host (Some taken) = codes " of " ++ (taken.host ++ at_time taken.at)

abbrev pub deed_text : Purpose → Shape → Option TakenData → List ℕ
deed_text deed.Backup s taken = codes "backup" ++ of_host taken
deed_text deed.Forget s taken = of_some (codes "forget") s.drops.snapshots (codes "snapshot")
deed_text deed.Tag s taken = of_some (codes "tag") s.adds.snapshots (codes "snapshot")
deed_text deed.Rewrite s taken = of_some (codes "rewrite") s.adds.snapshots (codes "snapshot")
deed_text deed.Store s taken = of_some (codes "store") s.adds.packs (codes "pack")
deed_text deed.Sweep s taken = of_some (codes "sweep") s.drops.packs (codes "pack")
deed_text deed.Repair s taken = codes "repair of indexes"
deed_text deed.Mark s taken = of_some (codes "mark") s.sets (codes "pack")
deed_text deed.Unmark s taken = of_some (codes "unmark") s.clears (codes "pack")
deed_text deed.Other s taken = codes "change"
