-- What stands on a shelf once the last event's moves are made, be they made already or not.
use Rattle.std.specs.Prelude.{ℕ, nat_le, Option, Some, None, fold, if◌then◌else◌}
use Rattle.std.specs.Option.{option_map_or}
use Rattle.keep_journal.specs.Journal.{Journal}
use Rattle.keep_journal.specs.declared.event.Event.{Event}
use Rattle.keep_journal.specs.declared.event.EventKind.{EventKind}
use Rattle.keep_journal.specs.declared.event.EventKind.TheVariants.{Commit, Undo, Redo, Empty}
use Rattle.keep_shelf.specs.declared.key.Key.TheVariants.{Live, Trash, Entry}
use Rattle.keep_moves.specs.Lists.{moves_by}
use Rattle.keep_moves.specs.Move.{Stand, finished_all}

-- the last event, if there is one
abbrev pub last_event : Journal → Option Event
last_event j = fold (λ before e. Some e.event) None j.entries

-- no trash of a change up to n
abbrev pub cleared : ℕ → Stand → Stand
cleared n stand (Live name) = stand (Live name)
cleared n stand (Trash m name) = if nat_le m n then None else stand (Trash m name)
cleared n stand (Entry k) = stand (Entry k)

-- the moves of an event of this kind are made, but for the erasures of entries; the journal has the event
abbrev pub settled_by : Journal → ℕ → EventKind → Stand → Stand
settled_by j n (Commit c) stand = finished_all (moves_by j n (Commit c)) stand
settled_by j n Undo stand = finished_all (moves_by j n Undo) stand
settled_by j n Redo stand = finished_all (moves_by j n Redo) stand
settled_by j n (Empty marks) stand = cleared n stand

-- those of the last event are
abbrev pub settled : Journal → Stand → Stand
settled j stand = option_map_or (λ e. settled_by j e.number e.kind stand) (last_event j) stand
