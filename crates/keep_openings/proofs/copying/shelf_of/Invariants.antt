use Rattle.std.proofs.Common.{◌≡◌, drop}
use Rattle.std.specs.FinMap as finite
use Rattle.keep_opening.specs.Intake.{taken_into}
use Rattle.keep_openings.proofs.copying.shelf_of.Given as goal

-- what was found, with what the other keys have, is all that the keys have
abbrev pub invariant-loop-key : goal.invariant-loop-key
invariant-loop-key l = taken_into l.stock (drop l.key-index l.keys) l.copy.content ≡ taken_into l.stock l.keys finite.empty
