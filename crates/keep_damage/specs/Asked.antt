-- What a journal asks to stand under the keys of files.
use Rattle.std.specs.Prelude.{◌≡◌, ℕ, List, [], ◌∷◌, is_none, if◌then◌else◌}
use Rattle.std.specs.FinMap as map
use Rattle.keep_names.specs.declared.file_name.FileName.{FileName}
use Rattle.keep_change.specs.Fold.{Numbered}
use Rattle.keep_change.specs.Result.{put_files, remove_files}
use Rattle.keep_change.specs.declared.change.Change.{Change}
use Rattle.keep_journal.specs.Journal.{Journal}
use Rattle.keep_journal.specs.Kept.{kept}
use Rattle.keep_shelf.specs.Shelved.{Content}
use Rattle.keep_shelf.specs.declared.key.Key.TheVariants.{Live, Trash}
use Rattle.keep_moves.specs.Standing.{trashed}
use Rattle.keep_reading.specs.Checks.{Files}
use Rattle.keep_opening.specs.Filing.{live_into}
use Rattle.keep_damage.specs.declared.half.Half.{Half}
use Rattle.keep_damage.specs.declared.half.Half.TheVariants.{Look, Write}

-- the files with something under the name
abbrev pub with_placeholder : FileName → Files → Files
with_placeholder name files = if is_none (map.get files name) then map.insert files name [] else files

-- the files with something under each of these names
abbrev pub filled : List FileName → Files → Files
filled [] files = files
filled (name ∷ names) files = filled names (with_placeholder name files)

-- the files without those of these names
abbrev pub without : List FileName → Files → Files
without [] files = files
without (name ∷ names) files = without names (map.remove files name)

-- what a change makes of files: what it only looks at is there, or isn't, as it asks; or what it writes is written
abbrev pub stepped : Half → Change → Files → Files
stepped Look c files = without c.absent (filled c.present files)
stepped Write c files = remove_files c.drops (put_files c.adds files)

-- and what all of these make of them, in turn
abbrev pub passed : Half → List Numbered → Files → Files
passed pass [] files = files
passed pass (n ∷ ns) files = passed pass ns (stepped pass n.change files)

-- the live files that a journal asks, where these are there: what a kept change writes is as the last one leaves it, what
-- one only looks at is as it asks, and all others are as they are
abbrev pub asked_live : Journal → Files → Files
asked_live j files = passed Write (kept j) (passed Look (kept j) files)

-- the live files that stand there
abbrev pub live_of : Content → Files
live_of content = (live_into content (map.keys content) (record { files = map.empty; marks = map.empty })).files

-- this is what the journal asks to stand under the keys of files
pub record IsAsked (j : Journal) (there asked : Content) : Type 0 where
  pub live : (name : FileName) → map.get asked (Live name) ≡ map.get (asked_live j (live_of there)) name
  pub trash : (n : ℕ) (name : FileName) → map.get asked (Trash n name) ≡ trashed j n name
