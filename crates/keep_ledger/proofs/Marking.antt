-- The marks of the opening over which an emptying moves the changes.
use Rattle.std.proofs.Common.{◌≡◌, ℕ, ◌+◌, ◌-◌, ◌≤◌, ◌++◌, Some, None, sym, ap, ◌∙◌, subst, inl, inr, arith}
use Rattle.std.proofs.lemmas.Bool.{cases_lt}
use Rattle.keep_repo.specs.Repository.{Repository}
use Rattle.keep_change.specs.Fold.{first_break, fold_of}
use Rattle.keep_change.specs.Result.{put_marks, remove_marks}
use Rattle.keep_change.specs.declared.change.Change.{Change}
use Rattle.keep_journal.specs.History.{last_change, IsNumbered}
use Rattle.keep_journal.specs.Journal.{Journal}
use Rattle.keep_journal.specs.Kept.{kept_change, later, up_to}
use Rattle.keep_journal.specs.Opening.{IsOpen, unfold_of}
use Rattle.keep_journal.proofs.Kept.{fold_of-append, kept_split, later_none}
use Rattle.keep_journal.proofs.Later.{later_with, later_without, no_facet_twice}
use Rattle.keep_ledger.proofs.Steps.{break_rest, unfold_fold}

-- none is taken back from the last one on
pub unfold_none : (j : Journal) (n : ℕ) (live : Repository) → IsNumbered j → last_change j ≤ n → unfold_of (later j n) live ≡ live
unfold_none j n live numbered end = ap (λ ns. unfold_of ns live) (later_none j n numbered end)

-- a change that isn't kept is none of those that are taken back
pub unfold_without : (j : Journal) (n k : ℕ) (live : Repository) → IsNumbered j → k ≡ n + 1 → k ≤ last_change j → kept_change j k ≡ None
    → unfold_of (later j n) live ≡ unfold_of (later j k) live
unfold_without j n k live numbered next within e = ap (λ ns. unfold_of ns live) (later_without j n k numbered next within e)

-- and one that is kept is taken back after those that come later
pub unfold_with : (j : Journal) (n k : ℕ) (c : Change) (live : Repository) → IsNumbered j → k ≡ n + 1 → kept_change j k ≡ Some c
    → (unfold_of (later j n) live).marks ≡ remove_marks c.sets (put_marks c.clears (unfold_of (later j k) live).marks)
unfold_with j n k c live numbered next e = ap (λ ns. (unfold_of ns live).marks) (later_with j n k c numbered next e)

-- the repository that the later changes are made of
pub new_opening : (opening : Repository) (j : Journal) (live : Repository) (n : ℕ) → IsOpen opening j live
    → unfold_of (later j n) live ≡ fold_of (up_to j n) opening
new_opening opening j live n is =
    let parts = kept_split j n is.numbered in
    let whole : first_break (up_to j n ++ later j n) opening ≡ None = subst (λ ns. first_break ns opening ≡ None) parts is.unbroken in
    let made : live ≡ fold_of (later j n) (fold_of (up_to j n) opening) =
    is.state ∙ ap (λ ns. fold_of ns opening) parts ∙ fold_of-append (up_to j n) (later j n) opening in
    ap (unfold_of (later j n)) made
    ∙ unfold_fold (later j n) (fold_of (up_to j n) opening) (no_facet_twice _ j is.formed) (break_rest (up_to j n) (later j n) opening whole)

-- all that come later were taken back
pub same_end : (j : Journal) (last done n : ℕ) (live : Repository) → IsNumbered j → last ≡ last_change j → done ≡ last - n
    → (unfold_of (later j (last - done)) live).marks ≡ (unfold_of (later j n) live).marks
same_end j last done n live numbered top all = elim (cases_lt n last) [
  | inl below ↦
      let there : last - done ≡ n = omega arith in
      ap (λ m. (unfold_of (later j m) live).marks) there
  | inr past ↦
      ap (λ (r : Repository). r.marks) (unfold_none j (last - done) live numbered (omega arith))
      ∙ sym (ap (λ (r : Repository). r.marks) (unfold_none j n live numbered (omega arith)))
]
