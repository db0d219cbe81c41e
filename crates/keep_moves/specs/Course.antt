-- All calls of an event, in their order: what is read, the entry, and then the moves.
use Rattle.std.specs.Prelude.{ℕ, List, ◌∷◌, ◌++◌, length, map}
use Rattle.std.specs.Option.{option_map_or}
use Rattle.keep_journal.specs.History.{change_of}
use Rattle.keep_journal.specs.Journal.{Journal}
use Rattle.keep_journal.specs.declared.event.Event.{Event}
use Rattle.keep_journal.specs.declared.event.EventKind.{EventKind}
use Rattle.keep_journal.specs.declared.event.EventKind.TheVariants.{Undo, Redo}
use Rattle.keep_shelf.specs.declared.key.Key.TheVariants.{Entry}
use Rattle.keep_entries.specs.Spelling.{entry_text}
use Rattle.keep_moves.specs.Calls.{Call, Make, looks}
use Rattle.keep_moves.specs.Lists.{moves_of}
use Rattle.keep_moves.specs.Move.{Stand, moved}
use Rattle.keep_moves.specs.declared.moves.Move.{Move}
use Rattle.keep_moves.specs.declared.moves.Move.TheVariants.{Put}

-- how many files of the trash are read before the entry of an event of this kind: those that come back
abbrev pub looks_by : Journal → ℕ → EventKind → ℕ
looks_by j n Undo = option_map_or (λ c. length c.drops) (change_of j n) 0
looks_by j n Redo = option_map_or (λ c. length c.adds) (change_of j n) 0
looks_by j n _ = 0

abbrev pub looks_of : Journal → Event → ℕ
looks_of j e = looks_by j e.number e.kind

-- the event's entry comes, under this number
abbrev pub entry_put : ℕ → Event → Move
entry_put k e = Put (Entry k) (entry_text e)

-- what stands under each key with the event's entry
abbrev pub with_entry : ℕ → Event → Stand → Stand
with_entry k e stand = moved (entry_put k e) stand

-- the calls of an event that comes next after this journal, under this number
abbrev pub calls_of : Journal → ℕ → Event → List Call
calls_of j k e = looks (looks_of j e) ++ Make (entry_put k e) ∷ map Make (moves_of j e)
