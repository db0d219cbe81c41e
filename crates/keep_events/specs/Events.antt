-- The events of a history as they are listed.
use Rattle.std.specs.Prelude.{ℕ, ◌-◌, nat_lt, if◌then◌else◌, Bool, false, List, [], ◌∷◌, ◌++◌, codes, drop, length, map, Option, None, Some, option_map, option_and_then}
use Rattle.std.specs.Fmt.{decimal}
use Rattle.serde_json.specs.Data.{Data, string, object, member, no_members}
use Rattle.keep_names.specs.declared.file_name.FileName.{FileName}
use Rattle.keep_change.specs.Lists.{file_names}
use Rattle.keep_change.specs.declared.change.Change.{Change}
use Rattle.keep_change.specs.declared.outline.What.{What}
use Rattle.keep_change.specs.declared.outline.What.TheVariants as what
use Rattle.keep_journal.specs.History.{change_of, final_number, notices_of, status_of}
use Rattle.keep_journal.specs.Journal.{Journal}
use Rattle.keep_journal.specs.declared.event.Notice.{Notice}
use Rattle.keep_journal.specs.declared.history.Status.{Status}
use Rattle.keep_journal.specs.declared.history.Status.TheVariants as status
use Rattle.keep_tables.specs.declared.table.Side.{Side}
use Rattle.keep_tables.specs.declared.table.Side.TheVariants.{Left, Right}
use Rattle.keep_rows.specs.Values.{maybe_number, maybe_text, number_data, utc_of, when_cell}
use Rattle.keep_rows.specs.declared.when.When.{When}
use Rattle.keep_events.specs.Deeds.{TakenData, deed_of, deed_text, shape_of, taken_in, taken_view}
use Rattle.keep_events.specs.declared.event.EventRow.{EventRow}
use Rattle.keep_events.specs.declared.shape.Shape.{Shape}
use Rattle.keep_events.specs.declared.wrote.Wrote.{Wrote}
use Rattle.keep_events.specs.declared.wrote.Wrote.TheVariants as known

-- what a commit's change wrote: all of it, with its first new snapshot; of a final change how many files it added
pub data WroteData : Type 0 where
  Whole : Shape → Option TakenData → WroteData
  Final : ℕ → WroteData

abbrev pub wrote_view : Wrote → WroteData
wrote_view (known.Whole shape taken) = Whole shape (option_map taken_view taken)
wrote_view (known.Final added) = Final added

-- an event: its number, what it did to which change, how that stands, what a commit's change wrote, and when it was
-- written, if that was told
pub record EventData : Type 0 where
  pub at : ℕ
  pub what : What
  pub change : ℕ
  pub status : Status
  pub wrote : Option WroteData
  pub when : Option When

abbrev pub event_view : EventRow → EventData
event_view row = record {
  at = row.at;
  what = row.what;
  change = row.change;
  status = row.status;
  wrote = option_map wrote_view row.wrote;
  when = row.when;
}

-- ---- of a history

abbrev pub whole_of : Change → WroteData
whole_of c = Whole (shape_of c) (taken_in c.adds)

-- the names of the files that change n added
abbrev pub names_added : Journal → ℕ → Option (List FileName)
names_added j n = option_map (λ c. file_names c.adds) (change_of j n)

abbrev pub final_of : List FileName → WroteData
final_of names = Final (length names)

abbrev pub wrote_of : Journal → ℕ → Option WroteData
wrote_of j n = if nat_lt (final_number j) n then option_map whole_of (change_of j n) else option_map final_of (names_added j n)

abbrev pub wrote_by : Journal → What → ℕ → Option WroteData
wrote_by j what.Commit n = wrote_of j n
wrote_by j what.Undo n = None
wrote_by j what.Redo n = None
wrote_by j what.Empty n = None

abbrev pub event_of : Journal → Notice → EventData
event_of j notice = record {
  at = notice.at;
  what = notice.what;
  change = notice.change;
  status = status_of j notice.change;
  wrote = wrote_by j notice.what notice.change;
  when = None;
}

-- the last n of a list, or all
abbrev pub last_of : {A : Type 0} → Option ℕ → List A → List A
last_of None xs = xs
last_of (Some n) xs = drop (length xs - n) xs

-- the last events of a history, or all
abbrev pub events_of : Journal → Option ℕ → List EventData
events_of j last = map (event_of j) (last_of last (notices_of j))

-- ---- as they are shown

abbrev pub is_made : Option TakenData → Bool
is_made None = false
is_made (Some taken) = taken.is_made

abbrev pub wrote_text : Option WroteData → List ℕ
wrote_text None = codes "change"
wrote_text (Some (Final added)) = codes "change"
wrote_text (Some (Whole shape taken)) = deed_text (deed_of shape (is_made taken)) shape taken

abbrev pub event_text : What → ℕ → Option WroteData → List ℕ
event_text what.Commit n wrote = wrote_text wrote
event_text what.Undo n wrote = codes "undo of " ++ decimal n
event_text what.Redo n wrote = codes "redo of " ++ decimal n
event_text what.Empty n wrote = codes "empty through " ++ decimal n

-- how many files and marks it wrote: `+A -D *S ~C`
abbrev pub shape_text : Shape → List ℕ
shape_text shape =
    codes "+" ++ (decimal shape.added ++ (codes " -" ++ (decimal shape.dropped
    ++ (codes " *" ++ (decimal shape.sets ++ (codes " ~" ++ decimal shape.clears))))))

abbrev pub sizes_cell : Option WroteData → List ℕ
sizes_cell None = []
sizes_cell (Some (Final added)) = codes "+" ++ decimal added
sizes_cell (Some (Whole shape taken)) = shape_text shape

abbrev pub status_text : Status → List ℕ
status_text status.Unknown = codes "unknown"
status_text status.Final = codes "final"
status_text status.InForce = codes "in force"
status_text status.Undone = codes "undone"

abbrev pub event_sides : List Side
event_sides = Right ∷ Right ∷ Left ∷ Left ∷ Left ∷ Left ∷ []

abbrev pub event_head : List (List ℕ)
event_head = codes "Event" ∷ codes "Change" ∷ codes "What" ∷ codes "When" ∷ codes "Files" ∷ codes "Standing" ∷ []

abbrev pub event_cells : EventData → List (List ℕ)
event_cells e =
    decimal e.at ∷ decimal e.change ∷ event_text e.what e.change e.wrote ∷ when_cell e.when ∷ sizes_cell e.wrote
    ∷ status_text e.status ∷ []

-- how many files a change added, where that is known, and so of the others
abbrev pub added_by : WroteData → Option ℕ
added_by (Whole shape taken) = Some shape.added
added_by (Final added) = Some added

abbrev pub added_in : Option WroteData → Option ℕ
added_in wrote = option_and_then added_by wrote

abbrev pub shape_by : WroteData → Option Shape
shape_by (Whole shape taken) = Some shape
shape_by (Final added) = None

abbrev pub shape_in : Option WroteData → Option Shape
shape_in wrote = option_and_then shape_by wrote

abbrev pub dropped_in : Option WroteData → Option ℕ
dropped_in wrote = option_map (λ s. s.dropped) (shape_in wrote)

abbrev pub set_in : Option WroteData → Option ℕ
set_in wrote = option_map (λ s. s.sets) (shape_in wrote)

abbrev pub cleared_in : Option WroteData → Option ℕ
cleared_in wrote = option_map (λ s. s.clears) (shape_in wrote)

abbrev pub event_data : EventData → Data
event_data e =
    object
    (member (codes "added") (maybe_number (added_in e.wrote))
    (member (codes "change") (number_data e.change)
    (member (codes "cleared") (maybe_number (cleared_in e.wrote))
    (member (codes "dropped") (maybe_number (dropped_in e.wrote))
    (member (codes "event") (number_data e.at)
    (member (codes "set") (maybe_number (set_in e.wrote))
    (member (codes "standing") (string (status_text e.status))
    (member (codes "time") (maybe_text (option_map utc_of e.when))
    (member (codes "what") (string (event_text e.what e.change e.wrote)) no_members)))))))))
