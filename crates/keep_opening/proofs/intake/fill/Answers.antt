-- Memory ran out behind a read.
use Rattle.std.proofs.Common.{IfErr, length, arith, subst, sym}
use Rattle.std.proofs.lemmas.Result.{err_from_is_err_and}
use Rattle.keep_opening.specs.Intake.{StopsShort}
use Rattle.keep_opening.proofs.Short.{memory_short}
use Rattle.keep_opening.proofs.intake.fill.Goals as goal

pub returns-in_err-write-clause-short : goal.returns-in_err-write-clause-short
returns-in_err-write-clause-short g c =
    let due = err_from_is_err_and c.from_residual-in_err-write.result c.from_residual-in_err-write.ensures.1 in
    let before = g.S.Shelf.shelved c.args.shelf.now in
    let left = g.S.Shelf.shelved c.read.new.self in
    subst (λ r. IfErr r (λ why. StopsShort (length c.args.keys.now) before why left)) (sym due.1)
    (memory_short (length c.args.keys.now) c.loop-key.key-index before (g.S.Shelf.shelved c.loop-key.shelf) left due.0 due.2 (omega arith)
    c.loop-key.invariant.calls c.in_ok-found.ensures.ok)
