-- What is opened of what stands on a shelf, and why nothing is.
use Rattle.std.specs.Prelude.{◌≡◌, ℕ, List, None, unwrap_or}
use Rattle.std.specs.FinMap as map
use Rattle.keep_change.specs.Fold.{first_break, fold_of}
use Rattle.keep_change.specs.Result.{put_marks}
use Rattle.keep_journal.specs.History.{length_of}
use Rattle.keep_journal.specs.Journal.{Journal}
use Rattle.keep_journal.specs.Kept.{kept}
use Rattle.keep_journal.specs.Opening.{unfold_of}
use Rattle.keep_moves.specs.Move.{Stand}
use Rattle.keep_moves.specs.Standing.{trashed}
use Rattle.keep_names.specs.declared.file_name.FileName.{FileName}
use Rattle.keep_opening.specs.Filing.{live_into}
use Rattle.keep_reading.specs.Bad.{first_bad}
use Rattle.keep_reading.specs.Leaves.{AreLeaves, entries_of}
use Rattle.keep_reading.specs.Reads.{Reads, all_of, marks_in}
use Rattle.keep_reading.specs.declared.leaf.Leaf.{Leaf}
use Rattle.keep_repo.specs.Repository.{Repository}
use Rattle.keep_shelf.specs.Shelved.{Content}
use Rattle.keep_shelf.specs.declared.key.Key.TheVariants.{Live, Trash}

-- the repository without files that has the marks of the last emptying
abbrev pub marks_alone : List Leaf → Repository
marks_alone leaves = record { files = map.empty; marks = put_marks (marks_in (entries_of leaves)) map.empty }

-- the repository of the live files, with these marks
abbrev pub live_with : Content → Repository → Repository
live_with content marked = live_into content (map.keys content) marked

-- the repository of the live files, with these marks, once what the kept changes did to files is taken back
abbrev pub opening_in : Journal → Content → Repository → Repository
opening_in j content marked = record (live_with content marked) { files = (unfold_of (kept j) (live_with content marked)).files }

-- the kept changes can be made of the opening, and the files that stand there are just those that they make and leave
-- in the trash
pub record IsRight (j : Journal) (content : Content) (opening : Repository) : Type 0 where
  pub unbroken : first_break (kept j) opening ≡ None
  pub live : (name : FileName) → map.get content (Live name) ≡ map.get (fold_of (kept j) opening).files name
  pub trash : (n : ℕ) (name : FileName) → map.get content (Trash n name) ≡ trashed j n name

-- what stands there has no reading, and this is the number by which that is told: of the first leaf with which
-- something is wrong, and else of the last entry, 0 where there is none
pub record IsRefused (stand : Stand) (k : ℕ) : Type 0 where
  pub leaves : List Leaf
  pub are : AreLeaves stand leaves
  pub which : k ≡ unwrap_or (first_bad leaves) (length_of (all_of (entries_of leaves)))
  pub unread : (o : Repository) (j : Journal) → Reads stand o j → ⊥
