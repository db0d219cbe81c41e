-- What a shelf's content says.
use Rattle.std.specs.Prelude.{◌≡◌, ℕ, List, [], unwrap_or}
use Rattle.std.specs.FinMap as map
use Rattle.keep_names.specs.declared.file_name.FileName.{FileName}
use Rattle.keep_repo.specs.Repository.{Repository}
use Rattle.keep_change.specs.Marks.{marks_of}
use Rattle.keep_change.specs.declared.change.PackMark.{PackMark}
use Rattle.keep_journal.specs.History.{last_marks}
use Rattle.keep_journal.specs.Journal.{Journal}
use Rattle.keep_journal.specs.Opening.{IsOpen}
use Rattle.keep_journal.specs.declared.event.Entry as the_entry
use Rattle.keep_journal.specs.Lasting.{Follow, lasting}
use Rattle.keep_shelf.specs.declared.key.Key.TheVariants.{Live, Trash}
use Rattle.keep_moves.specs.Move.{Stand}
use Rattle.keep_moves.specs.Standing.{trashed}
use Rattle.keep_reading.specs.Lists.{Lists}
use Rattle.keep_reading.specs.Settled.{settled}

-- the journal of these entries from the first change on
abbrev pub all_of : List the_entry.Entry → Journal
all_of entries = record { base = 0; entries = entries }

-- what they still tell
abbrev pub told : List the_entry.Entry → Journal
told entries = lasting (all_of entries)

-- the marks of the last emptying among them, none where there was no emptying
abbrev pub marks_in : List the_entry.Entry → List PackMark
marks_in entries = unwrap_or (last_marks (all_of entries)) []

-- what stands on the shelf says that the changes that the journal has were made of this opening: entries tell the
-- journal, and with the last event's moves made, the live files are those that its kept changes make of the opening,
-- and the trash is just theirs
pub record Reads (stand : Stand) (opening : Repository) (j : Journal) : Type 0 where
  pub entries : List the_entry.Entry
  pub lists : Lists stand entries
  -- what follows an emptying is about later changes
  pub follow : Follow 0 entries
  pub tells : j ≡ told entries
  pub marks : marks_of opening ≡ marks_in entries
  pub live : Repository
  pub is_open : IsOpen opening j live
  pub files : (name : FileName) → settled j stand (Live name) ≡ map.get live.files name
  pub trash : (n : ℕ) (name : FileName) → settled j stand (Trash n name) ≡ trashed j n name

-- there is one reading at most
abbrev pub OneReading : Type 0
OneReading =
    (stand : Stand) (o p : Repository) (i j : Journal)
    → Reads stand o i → Reads stand p j → (o ≡ p) × (i ≡ j)
