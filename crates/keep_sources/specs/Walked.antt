-- What a walk holds.
use Rattle.std.specs.Prelude.{List}
use Rattle.keep_sources.specs.declared.skipped.Skipped.{Skipped}
use Rattle.keep_sources.specs.declared.taking.Taking.{Taking}

abbrev pub source_of : {S A : Type 0} → Taking S A → S
source_of taking = taking.source

abbrev pub archive_of : {S A : Type 0} → Taking S A → A
archive_of taking = taking.archive

abbrev pub skipped_of : {S A : Type 0} → Taking S A → List Skipped
skipped_of taking = taking.skipped.items
