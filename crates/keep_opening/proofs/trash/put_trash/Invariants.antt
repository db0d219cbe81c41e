-- The trash of the changes so far is there, and no other.
use Rattle.std.proofs.Common.{◌≡◌, ℕ, ◌<◌, ◌≤◌, None}
use Rattle.std.specs.FinMap as finite
use Rattle.keep_moves.specs.Standing.{trashed}
use Rattle.keep_names.specs.declared.file_name.FileName.{FileName}
use Rattle.keep_shelf.specs.declared.key.Key.TheVariants.{Live, Trash}
use Rattle.keep_opening.proofs.trash.put_trash.Given as goal

abbrev pub invariant-loop-before : goal.invariant-loop-before
invariant-loop-before l = record {
  done : (m : ℕ) (name : FileName) → m ≤ l.before → finite.get l.stock (Trash m name) ≡ trashed l.history.journal m name;
  live : (name : FileName) → finite.get l.stock (Live name) ≡ finite.get l.initial.stock (Live name);
  none : (m : ℕ) (name : FileName) → l.before < m → finite.get l.stock (Trash m name) ≡ None;
}
