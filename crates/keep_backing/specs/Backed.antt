-- What a backup of files does to a book.
use Rattle.std.specs.Prelude.{◌⊎◌, ℕ, List}
use Rattle.keep_backup.specs.Backup.{FactsData}
use Rattle.keep_backups.specs.Parts.{BacksUp, StoresParts}
use Rattle.keep_ledger.specs.LedgerState.{LedgerState}
use Rattle.keep_run.specs.Cutting.{piece_length}
use Rattle.keep_sources.specs.Told.{Told}
use Rattle.keep_sources.specs.declared.scope.Scope.{Scope}
use Rattle.keep_sources.specs.declared.skipped.Skipped.{Skipped}

-- the snapshot is added
abbrev pub IsBackedUp : Told → Scope → FactsData → List (List ℕ) → LedgerState → LedgerState → Type 0
IsBackedUp told job facts tags before after = (skips : List Skipped) × BacksUp told job piece_length facts tags before after skips

-- parts are stored, and the snapshot may be added
abbrev pub MayBeBackedUp : Told → Scope → FactsData → List (List ℕ) → LedgerState → LedgerState → Type 0
MayBeBackedUp told job facts tags before after =
    StoresParts before after ⊎ IsBackedUp told job facts tags before after
