-- Which changes can still be undone.
use Rattle.std.specs.Prelude.{ℕ, ◌==◌, nat_lt, nat_le, Bool, ◌&&◌, ◌||◌, not, if◌then◌else◌, List, filter, map, Option, None}
use Rattle.keep_change.specs.Fold.{Numbered}
use Rattle.keep_change.specs.declared.change.Change.{Change}
use Rattle.keep_journal.specs.History.{change_of, committed, is_in_force, final_number}
use Rattle.keep_journal.specs.Journal.{Journal}

-- the changes whose numbers pass the test, by number
abbrev pub chosen : (ℕ → Bool) → Journal → List Numbered
chosen test j = filter (λ n. test n.number) (committed j)

-- the changes after change n, undone ones too
abbrev pub above : Journal → ℕ → List Numbered
above j n = chosen (nat_lt n) j

-- the changes that aren't final, undone ones too
abbrev pub unfinal : Journal → List Numbered
unfinal j = above j (final_number j)

-- the changes that aren't final, without their numbers
abbrev pub unfinal_changes : Journal → List Change
unfinal_changes j = map (λ n. n.change) (unfinal j)

-- whether the change can still be undone: it is in force and not final
abbrev pub is_kept : Journal → ℕ → Bool
is_kept j n = is_in_force j n && nat_lt (final_number j) n

-- change n, where it is in force and not final
abbrev pub kept_change : Journal → ℕ → Option Change
kept_change j n = if is_kept j n then change_of j n else None

-- the changes in force that aren't final
abbrev pub kept : Journal → List Numbered
kept j = chosen (is_kept j) j

-- the others of them
abbrev pub others : Journal → ℕ → List Numbered
others j n = chosen (λ m. is_kept j m && not (m == n)) j

-- the kept changes, with change n at its place
abbrev pub kept_with : Journal → ℕ → List Numbered
kept_with j n = chosen (λ m. is_kept j m || m == n) j

-- those of them that come before change n
abbrev pub earlier : Journal → ℕ → List Numbered
earlier j n = chosen (λ m. is_kept j m && nat_lt m n) j

-- those of them that come after change n
abbrev pub later : Journal → ℕ → List Numbered
later j n = chosen (λ m. is_kept j m && nat_lt n m) j

-- those of them up to change n
abbrev pub up_to : Journal → ℕ → List Numbered
up_to j n = chosen (λ m. is_kept j m && nat_le m n) j
