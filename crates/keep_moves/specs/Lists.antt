-- The moves of each event, in the order in which they are made.
use Rattle.std.specs.Prelude.{ℕ, nat_le, nat_lt, Bool, ◌&&◌, not, List, [], ◌++◌, map, filter, if◌then◌else◌}
use Rattle.std.specs.List.{flat_map}
use Rattle.std.specs.Option.{option_map_or}
use Rattle.keep_change.specs.Fold.{Numbered}
use Rattle.keep_change.specs.NamedBytes.{NamedBytes}
use Rattle.keep_change.specs.declared.change.Change.{Change}
use Rattle.keep_change.specs.declared.turn.Turn.{Turn}
use Rattle.keep_change.specs.declared.turn.Turn.TheVariants as turn
use Rattle.keep_journal.specs.History.{change_of, final_number}
use Rattle.keep_journal.specs.Journal.{Journal}
use Rattle.keep_journal.specs.Kept.{chosen, is_kept}
use Rattle.keep_journal.specs.declared.event.Entry as the_entry
use Rattle.keep_journal.specs.declared.event.Event.{Event}
use Rattle.keep_journal.specs.declared.event.EventKind.{EventKind}
use Rattle.keep_journal.specs.declared.event.EventKind.TheVariants.{Commit, Undo, Redo, Empty}
use Rattle.keep_journal.specs.Lasting.{lasts}
use Rattle.keep_shelf.specs.declared.key.Key.{Key}
use Rattle.keep_shelf.specs.declared.key.Key.TheVariants.{Live, Trash, Entry}
use Rattle.keep_moves.specs.declared.moves.Move.{Move}
use Rattle.keep_moves.specs.declared.moves.Move.TheVariants.{Put, Shift, Erase}

-- a new file comes
abbrev pub put_of : NamedBytes → Move
put_of file = Put (Live file.name) file.bytes

-- a file goes into the trash of change n
abbrev pub out_of : ℕ → NamedBytes → Move
out_of n file = Shift (Live file.name) (Trash n file.name)

-- a file comes back from the trash of change n
abbrev pub back_of : ℕ → NamedBytes → Move
back_of n file = Shift (Trash n file.name) (Live file.name)

-- the first time that change n is made
abbrev pub commit_moves : ℕ → Change → List Move
commit_moves n c = map put_of c.adds ++ map (out_of n) c.drops

-- change n is made again: what it added is in its trash
abbrev pub redo_moves : ℕ → Change → List Move
redo_moves n c = map (back_of n) c.adds ++ map (out_of n) c.drops

-- change n is taken back: what it dropped is in its trash
abbrev pub undo_moves : ℕ → Change → List Move
undo_moves n c = map (out_of n) c.adds ++ map (back_of n) c.drops

-- change n is turned, not for the first time
abbrev pub moves_turned : Turn → ℕ → Change → List Move
moves_turned turn.Make n c = redo_moves n c
moves_turned turn.TakeBack n c = undo_moves n c

-- what the trash of a change has: what it dropped, while it is kept, or else what it added
abbrev pub trash_of : Journal → Numbered → List Key
trash_of j c = map (λ f. Trash c.number f.name) (if is_kept j c.number then c.change.drops else c.change.adds)

-- what the trash of change m has, if the journal has the change
abbrev pub trash_at : Journal → ℕ → List Key
trash_at j m = option_map_or (λ c. trash_of j (record { number = m; change = c })) (change_of j m) []

-- the changes that an emptying up to n makes final, where those up to f are
abbrev pub made_final : Journal → ℕ → ℕ → List Numbered
made_final j f n = chosen (λ m. nat_le m n && nat_lt f m) j

-- whether the event tells something where changes up to f are final, and nothing where those up to n are
abbrev pub is_silenced : ℕ → ℕ → Event → Bool
is_silenced f n e = lasts f e && not (lasts n e)

-- the keys of entries
abbrev pub entry_keys : List the_entry.Entry → List Key
entry_keys es = map (λ e. Entry e.at) es

-- what an emptying up to n erases: the trash of the changes that it makes final, and then the entries that tell nothing any more
abbrev pub swept_keys : Journal → ℕ → List Key
swept_keys j n =
    flat_map (trash_of j) (made_final j (final_number j) n)
    ++ entry_keys (filter (λ e. is_silenced (final_number j) n e.event) j.entries)

-- the moves of an event of this kind that comes next after this journal
abbrev pub moves_by : Journal → ℕ → EventKind → List Move
moves_by j n (Commit c) = commit_moves n c
moves_by j n Undo = option_map_or (undo_moves n) (change_of j n) []
moves_by j n Redo = option_map_or (redo_moves n) (change_of j n) []
moves_by j n (Empty marks) = map Erase (swept_keys j n)

abbrev pub moves_of : Journal → Event → List Move
moves_of j e = moves_by j e.number e.kind
