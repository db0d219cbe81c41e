-- Files of changes that are taken back in turn, the last first.
use Rattle.std.proofs.Common.{◌≡◌, ℕ, ◌+◌, ◌≤◌, Some, None, sym, ap, ◌∙◌}
use Rattle.keep_repo.specs.Repository.{Repository}
use Rattle.keep_change.specs.Result.{put_files, remove_files}
use Rattle.keep_change.specs.declared.change.Change.{Change}
use Rattle.keep_journal.specs.History.{last_change, IsNumbered}
use Rattle.keep_journal.specs.Journal.{Journal}
use Rattle.keep_journal.specs.Kept.{kept_change, later}
use Rattle.keep_journal.specs.Opening.{unfold_of}
use Rattle.keep_journal.proofs.Kept.{later_none}
use Rattle.keep_journal.proofs.Later.{later_with, later_without}
use Rattle.keep_reading.specs.Checks.{Files}

-- the repository with these files
abbrev pub filed : Repository → Files → Repository
filed r files = record r { files = files }

abbrev pub under : Journal → ℕ → Repository → Files
under j n r = (unfold_of (later j n) r).files

-- none is taken back from the last one on
pub unmade_none : (j : Journal) (n : ℕ) (r : Repository) → IsNumbered j → last_change j ≤ n → r ≡ filed r (under j n r)
unmade_none j n r numbered end = ap (filed r) (sym (ap (λ ns. (unfold_of ns r).files) (later_none j n numbered end)))

-- a change that isn't kept is none of those that are taken back
pub unmade_without : (j : Journal) (n k : ℕ) (r : Repository) → IsNumbered j → k ≡ n + 1 → k ≤ last_change j → kept_change j k ≡ None → filed r (under j k r) ≡ filed r (under j n r)
unmade_without j n k r numbered next within e = ap (filed r) (sym (ap (λ ns. (unfold_of ns r).files) (later_without j n k numbered next within e)))

-- and one that is kept is taken back after those that come later
pub unmade_with : (j : Journal) (n k : ℕ) (c : Change) (r s t : Repository) → IsNumbered j → k ≡ n + 1 → kept_change j k ≡ Some c
    → s ≡ filed r (under j k r) → t ≡ filed s (remove_files c.adds (put_files c.drops s.files)) → t ≡ filed r (under j n r)
unmade_with j n k c r s t numbered next e so_far made =
    made ∙ ap (λ (x : Repository). filed x (remove_files c.adds (put_files c.drops x.files))) so_far
    ∙ ap (filed r) (sym (ap (λ ns. (unfold_of ns r).files) (later_with j n k c numbered next e)))
