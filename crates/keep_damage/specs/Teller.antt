-- Which entry tells the bytes of a file.
use Rattle.std.specs.Prelude.{ℕ, ◌==◌, Bool, true, false, ◌&&◌, List, fold, if◌then◌else◌}
use Rattle.std.specs.List.{list_any}
use Rattle.std.specs.Option.{option_map_or}
use Rattle.std.specs.Ordering.{eq_by_cmp}
use Rattle.keep_names.specs.Orders.{name_cmp}
use Rattle.keep_names.specs.declared.file_name.FileName.{FileName}
use Rattle.keep_change.specs.declared.outline.What.{What}
use Rattle.keep_change.specs.declared.outline.What.TheVariants.{Commit, Undo, Redo, Empty}
use Rattle.keep_journal.specs.History.{notices_of}
use Rattle.keep_journal.specs.Journal.{Journal}
use Rattle.keep_journal.specs.Kept.{kept_change}
use Rattle.keep_journal.specs.declared.event.Notice.{Notice}
use Rattle.keep_shelf.specs.declared.key.Key.{Key}
use Rattle.keep_shelf.specs.declared.key.Key.TheVariants.{Live, Trash, Entry}

abbrev pub is_commit : What → Bool
is_commit Commit = true
is_commit Undo = false
is_commit Redo = false
is_commit Empty = false

-- whether change n is kept and adds the file
abbrev pub adds_kept : Journal → ℕ → FileName → Bool
adds_kept j n name = option_map_or (λ c. list_any (λ file. eq_by_cmp name_cmp name file.name) c.adds) (kept_change j n) false

-- whether the event made a change for the first time that tells the file: a kept one that adds it where it is live, and
-- that in whose trash it is
abbrev pub tells_file : Journal → Key → Notice → Bool
tells_file j (Live name) notice = is_commit notice.what && adds_kept j notice.change name
tells_file j (Trash n name) notice = is_commit notice.what && notice.change == n
tells_file j (Entry k) notice = false

-- the last of these events from the left, or the one before them
abbrev pub last_teller : Journal → Key → List Notice → ℕ → ℕ
last_teller j q notices before = fold (λ found notice. if tells_file j q notice then notice.at else found) before notices

-- the number of the last event that tells the file, 0 where none does
abbrev pub teller_of : Journal → Key → ℕ
teller_of j q = last_teller j q (notices_of j) 0
