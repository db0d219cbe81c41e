-- What is tested of what stands on a shelf, and that this is to read it.
use Rattle.std.specs.Prelude.{◌≡◌, ℕ, List, None}
use Rattle.std.specs.FinMap as map
use Rattle.keep_names.specs.Orders.{name_cmp}
use Rattle.keep_names.specs.declared.file_name.FileName.{FileName}
use Rattle.keep_repo.specs.Repository.{Repository}
use Rattle.keep_change.specs.Fold.{first_break, fold_of}
use Rattle.keep_change.specs.Result.{put_marks}
use Rattle.keep_journal.specs.History.{IsLegal}
use Rattle.keep_journal.specs.Journal.{Journal}
use Rattle.keep_journal.specs.Kept.{kept}
use Rattle.keep_journal.specs.Opening.{unfold_of}
use Rattle.keep_journal.specs.declared.event.Entry as the_entry
use Rattle.keep_journal.specs.Lasting.{Follow}
use Rattle.keep_shelf.specs.declared.key.Key.TheVariants.{Live, Trash}
use Rattle.keep_moves.specs.Move.{Stand}
use Rattle.keep_moves.specs.Standing.{trashed}
use Rattle.keep_reading.specs.Lists.{Lists}
use Rattle.keep_reading.specs.Reads.{Reads, marks_in, told}
use Rattle.keep_reading.specs.Settled.{settled}

-- the bytes of files, by name
abbrev pub Files : Type 0
Files = map.FinMap name_cmp (List ℕ)

-- the opening under these live files: the kept changes are taken back from them, and the marks are those of the last
-- emptying
abbrev pub opening_from : Files → List the_entry.Entry → Repository
opening_from files entries = record {
  files = (unfold_of (kept (told entries)) (record { files = files; marks = map.empty })).files;
  marks = put_marks (marks_in entries) map.empty;
}

-- these are the live files, once the last event's moves are made
abbrev pub AreLive : Journal → Stand → Files → Type 0
AreLive j stand files = (name : FileName) → settled j stand (Live name) ≡ map.get files name

-- the trash, with the same moves made, is just what the kept changes left there
abbrev pub IsTrash : Journal → Stand → Type 0
IsTrash j stand = (n : ℕ) (name : FileName) → settled j stand (Trash n name) ≡ trashed j n name

-- these entries stand there, each that follows an emptying is about a later change, and they tell a legal journal
pub record TellAJournal (stand : Stand) (entries : List the_entry.Entry) : Type 0 where
  pub lists : Lists stand entries
  pub follow : Follow 0 entries
  pub legal : IsLegal (told entries)

-- the tests, on the entries and the live files that stand there
pub record Passes (stand : Stand) (entries : List the_entry.Entry) (files : Files) : Type 0 where
  pub journal : TellAJournal stand entries
  pub live : AreLive (told entries) stand files
  pub unbroken : first_break (kept (told entries)) (opening_from files entries) ≡ None
  pub same : (fold_of (kept (told entries)) (opening_from files entries)).files ≡ files
  pub trash : IsTrash (told entries) stand

-- what passes them has a reading
abbrev pub WhatPassesIsRead : Type 0
WhatPassesIsRead =
    (stand : Stand) (entries : List the_entry.Entry) (files : Files)
    → Passes stand entries files → Reads stand (opening_from files entries) (told entries)

-- and what has a reading passes them
abbrev pub WhatReadsPasses : Type 0
WhatReadsPasses =
    (stand : Stand) (o : Repository) (j : Journal) (entries : List the_entry.Entry) (files : Files)
    → Reads stand o j → Lists stand entries → AreLive (told entries) stand files → Passes stand entries files
