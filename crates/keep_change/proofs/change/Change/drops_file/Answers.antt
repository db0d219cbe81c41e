-- The file is among those that the change drops, or the change asks for none.
use Rattle.std.proofs.Common.{Some, None, refl, sym}
use Rattle.keep_change.proofs.Before.{before-file}
use Rattle.keep_change.proofs.change.Change.drops_file.Goals as goal

pub returns-in-Some : goal.returns-in-Some
returns-in-Some c =
    rw (before-file c.args.self.now c.requires.once c.args.name (Some c.in-Some.file.now) (rw c.as_slice.ensures at (sym c.in-Some.ensures)))
    (rw (← c.bytes.ensures, ← c.as_slice-in-Some.ensures, ← c.as_slice-in-Some-2.ensures) c.eq.ensures)

pub returns-in-None : goal.returns-in-None
returns-in-None c =
    rw (before-file c.args.self.now c.requires.once c.args.name None (rw c.as_slice.ensures at (sym c.in-None.ensures))) refl
