-- The words by which operators know a refused restore, and the numbers that findings carry.
use Rattle.std.specs.Prelude.{ℕ, List, codes, Option, None}
use Rattle.keep_catalog.specs.Words.{file_number, reach_number, reach_text, unread_text}
use Rattle.keep_read.specs.declared.finding.Finding.{Finding}
use Rattle.keep_read.specs.declared.finding.Finding.TheVariants.{Broken, Unreadable, WrongBlob, WrongName}
use Rattle.keep_read.specs.declared.restore_error.RestoreError.{RestoreError}
use Rattle.keep_read.specs.declared.restore_error.RestoreError.TheVariants.{NoSnapshot, Reach, Unread}

-- how a refusal prints
abbrev pub restore_text : RestoreError → List ℕ
restore_text NoSnapshot = codes "NoSnapshot"
restore_text (Unread unread) = unread_text unread
restore_text (Reach why) = reach_text why

-- the number of the refusal that a finding carries
abbrev pub finding_number : Finding → Option ℕ
finding_number (WrongName name) = None
finding_number (Unreadable unread) = file_number unread.refusal
finding_number (WrongBlob pack blob) = None
finding_number (Broken snapshot why) = reach_number why
