-- What a journal says of each change.
use Rattle.std.specs.Prelude.{◌≡◌, ℕ, ◌+◌, ◌<◌, ◌≤◌, ◌==◌, nat_lt, nat_le, Bool, true, false, ◌||◌, ◌&&◌, not, if◌then◌else◌, List, [], ◌∷◌, length, fold, map, Option, Some, None}
use Rattle.std.specs.List.{filter_map, find}
use Rattle.std.specs.Option.{option_map}
use Rattle.keep_change.specs.Fold.{Numbered}
use Rattle.keep_change.specs.declared.change.Change.{Change}
use Rattle.keep_change.specs.declared.change.PackMark.{PackMark}
use Rattle.keep_journal.specs.Event.{commit_of, notice_of}
use Rattle.keep_journal.specs.Journal.{Journal, posted}
use Rattle.keep_journal.specs.declared.event.Entry.{Entry}
use Rattle.keep_journal.specs.declared.event.Event.{Event}
use Rattle.keep_journal.specs.declared.event.EventKind.{EventKind}
use Rattle.keep_journal.specs.declared.event.EventKind.TheVariants.{Commit, Undo, Redo, Empty}
use Rattle.keep_journal.specs.declared.event.Notice.{Notice}
use Rattle.keep_journal.specs.declared.history.Status.{Status}
use Rattle.keep_journal.specs.declared.history.Status.TheVariants.{Unknown, Final, InForce, Undone}

-- the number of the last event, 0 where there is none
abbrev pub length_of : Journal → ℕ
length_of j = fold (λ before e. e.at) 0 j.entries

-- what is told of each event
abbrev pub notices_of : Journal → List Notice
notices_of j = map notice_of j.entries

-- the changes that were committed, each with its number
abbrev pub committed : Journal → List Numbered
committed j = filter_map (λ e. commit_of e.event) j.entries

-- the number of the last change: they are counted from the final number that the history began with
abbrev pub last_change : Journal → ℕ
last_change j = j.base + length (committed j)

-- change n, if the journal has it
abbrev pub change_of : Journal → ℕ → Option Change
change_of j n = option_map (λ c. c.change) (find (λ c. c.number == n) (committed j))

-- whether there is a change n, or was one before the history began
abbrev pub is_change : Journal → ℕ → Bool
is_change j n = nat_lt 0 n && nat_le n (last_change j)

-- whether a change is in force after an event of this kind, if it was so before or not, by whether it is the event's: a commit and a redo make it so, and an undo ends it
abbrev pub in_force_by : Bool → Bool → EventKind → Bool
in_force_by its before (Commit c) = its || before
in_force_by its before Undo = not its && before
in_force_by its before Redo = its || before
in_force_by its before (Empty marks) = before

-- whether change n is in force after the event
abbrev pub in_force_after : ℕ → Bool → Event → Bool
in_force_after n before e = in_force_by (e.number == n) before e.kind

-- whether change n is in force: the last of its events among commit, undo and redo isn't an undo
abbrev pub is_in_force : Journal → ℕ → Bool
is_in_force j n = fold (λ before e. in_force_after n before e.event) false j.entries

-- the last final change's number after the event
abbrev pub final_by : ℕ → ℕ → EventKind → ℕ
final_by before n (Empty marks) = n
final_by before n _ = before

abbrev pub final_after : ℕ → Event → ℕ
final_after before e = final_by before e.number e.kind

-- the number up to which changes are final: that of the last emptying, else the one that the history began with
abbrev pub final_number : Journal → ℕ
final_number j = fold (λ before e. final_after before e.event) j.base j.entries

-- the marks of the last emptying after the event
abbrev pub marks_by : Option (List PackMark) → EventKind → Option (List PackMark)
marks_by before (Empty marks) = Some marks
marks_by before _ = before

abbrev pub marks_after : Option (List PackMark) → Event → Option (List PackMark)
marks_after before e = marks_by before e.kind

-- the marks that the last emptying has, none where there was no emptying
abbrev pub last_marks : Journal → Option (List PackMark)
last_marks j = fold (λ before e. marks_after before e.event) None j.entries

-- how change n stands
abbrev pub status_of : Journal → ℕ → Status
status_of j n =
    if not (is_change j n) then Unknown
    else (if nat_le n (final_number j) then Final
    else (if is_in_force j n then InForce else Undone))

-- what the event is about: a commit has the next number, an undo is of a change in force that isn't final, a redo of
-- one that is undone, and an emptying moves the final number up, but for the first one: it may be the one that made
-- final what was so when the history began
abbrev pub FitsBy : Journal → ℕ → EventKind → Type 0
FitsBy j n (Commit c) = n ≡ last_change j + 1
FitsBy j n Undo = (final_number j < n) × (n ≤ last_change j) × (is_in_force j n ≡ true)
FitsBy j n Redo = (final_number j < n) × (n ≤ last_change j) × (is_in_force j n ≡ false)
FitsBy j n (Empty marks) = (0 < n) × (final_number j ≤ n) × (n ≤ last_change j) × (n ≡ final_number j → last_marks j ≡ None)

abbrev pub Fits : Journal → Event → Type 0
Fits j e = FitsBy j e.number e.kind

-- the entry can come next: its number is above those before it, and its event fits
pub record ComesNext (j : Journal) (e : Entry) : Type 0 where
  pub above : length_of j < e.at
  pub fits : Fits j e.event

-- the entries can come in turn, each after the journal that those before it make
abbrev pub ComeInTurn : Journal → List Entry → Type 0
ComeInTurn j [] = Unit {0}
ComeInTurn j (e ∷ es) = ComesNext j e × ComeInTurn (posted j e.at e.event) es

-- the journal is legal at each of its entries: from its beginning on, each could come next
abbrev pub IsLegal : Journal → Type 0
IsLegal j = ComeInTurn (record { base = j.base; entries = [] }) j.entries

-- the changes are numbered from k on
abbrev pub CountsFrom : ℕ → List Numbered → Type 0
CountsFrom k [] = Unit {0}
CountsFrom k (n ∷ ns) = (n.number ≡ k) × CountsFrom (k + 1) ns

-- the events' numbers ascend from above k
abbrev pub AscendFrom : ℕ → List Entry → Type 0
AscendFrom k [] = Unit {0}
AscendFrom k (e ∷ es) = (k < e.at) × AscendFrom e.at es

-- events ascend, commits are counted from the final number that the history began with, and no number above them is final
pub record IsNumbered (j : Journal) : Type 0 where
  pub events : AscendFrom 0 j.entries
  pub commits : CountsFrom (j.base + 1) (committed j)
  pub first_final : j.base ≤ final_number j
  pub last_final : final_number j ≤ last_change j
