use Rattle.std.proofs.Common.{◌≡◌, drop}
use Rattle.std.specs.FinMap as finite
use Rattle.keep_moves.specs.Calls.{looks, played}
use Rattle.keep_opening.specs.Intake.{taken_into}
use Rattle.keep_opening.proofs.intake.fill.Given as goal

-- so many reads were made, and what was found with what the other keys have is all that the keys have
abbrev pub invariant-loop-key : goal.invariant-loop-key
invariant-loop-key g l = record {
  calls : g.S.Shelf.shelved l.shelf ≡ played (looks l.key-index) (g.S.Shelf.shelved l.initial.shelf);
  same : (g.S.Shelf.shelved l.shelf).content ≡ (g.S.Shelf.shelved l.initial.shelf).content;
  all : taken_into (g.S.Shelf.shelved l.initial.shelf).content (drop l.key-index l.keys) l.stock ≡ taken_into (g.S.Shelf.shelved l.initial.shelf).content l.keys finite.empty;
}
