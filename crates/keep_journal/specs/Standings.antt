-- What a history keeps of each change, beside its events.
use Rattle.std.specs.Prelude.{◌≡◌, ℕ, ◌+◌, ◌<◌, ◌≤◌, List, length, map, Some}
use Rattle.keep_names.specs.declared.file_name.FileName.{FileName}
use Rattle.keep_change.specs.Fold.{Numbered}
use Rattle.keep_change.specs.Lists.{file_names}
use Rattle.keep_change.specs.declared.change.Change.{Change}
use Rattle.keep_journal.specs.History.{change_of, committed, final_number, is_in_force, last_change, notices_of, Fits, IsLegal, IsNumbered}
use Rattle.keep_journal.specs.Journal.{Journal, posted}
use Rattle.keep_journal.specs.Kept.{unfinal}
use Rattle.keep_journal.specs.declared.event.Event.{Event}
use Rattle.keep_journal.specs.declared.event.EventKind.{EventKind}
use Rattle.keep_journal.specs.declared.event.EventKind.TheVariants.{Commit, Empty}
use Rattle.keep_journal.specs.declared.event.Notice.{Notice}
use Rattle.keep_journal.specs.declared.standing.Standing.{Standing}

-- the last change's number after the event
abbrev pub last_by : ℕ → ℕ → EventKind → ℕ
last_by before n (Commit c) = n
last_by before n _ = before

abbrev pub last_after : ℕ → Event → ℕ
last_after before e = last_by before e.number e.kind

-- the names of the files that each change added, by number
abbrev pub names_of : Journal → List (List FileName)
names_of j = map (λ n. file_names n.change.adds) (committed j)

-- a change, and whether it is in force
abbrev pub standing_of : Journal → Numbered → Standing
standing_of j n = record { change = n.change; in_force = is_in_force j n.number }

-- how the changes that aren't final stand, by number
abbrev pub standings_of : Journal → List Standing
standings_of j = map (standing_of j) (unfinal j)

-- the changes of these standings
abbrev pub changes_in : List Standing → List Change
changes_in ss = map (λ s. s.change) ss

-- this is how change n stands, which isn't final
pub record IsStandingOf (j : Journal) (n : ℕ) (s : Standing) : Type 0 where
  pub unfinal : final_number j < n
  pub numbered : change_of j n ≡ Some s.change
  pub in_force : s.in_force ≡ is_in_force j n

-- what is kept beside the events is what they say
pub record IsUpToDate (j : Journal) (ns : List Notice) (fs : List (List FileName)) (ss : List Standing) (final last : ℕ) : Type 0 where
  pub numbered : IsNumbered j
  pub legal : IsLegal j
  pub notices : ns ≡ notices_of j
  pub names : fs ≡ names_of j
  pub standings : ss ≡ standings_of j
  pub last_final : final ≡ final_number j
  pub counted : last ≡ last_change j

-- an undo and a redo are about one of so many changes after the last final one, and an emptying ends with that one or one of them
abbrev pub ReachesBy : ℕ → ℕ → ℕ → EventKind → Type 0
ReachesBy final count n (Commit c) = Unit {0}
ReachesBy final count n (Empty marks) = (final ≤ n) × (n ≤ final + count)
ReachesBy final count n _ = (final < n) × (n ≤ final + count)

abbrev pub Reaches : ℕ → ℕ → Event → Type 0
Reaches final count e = ReachesBy final count e.number e.kind

-- where the old ones are how the changes stand in a journal with this final number, the new ones are so after the event, if it fits
abbrev pub Follow : ℕ → List Standing → List Standing → Event → Type 0
Follow final old new e =
    (j : Journal) (at : ℕ) → IsNumbered j → final ≡ final_number j → old ≡ standings_of j → Fits j e
    → new ≡ standings_of (posted j at e)
