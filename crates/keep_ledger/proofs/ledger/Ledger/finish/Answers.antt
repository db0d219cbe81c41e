-- What is left of the moves is due still.
use Rattle.std.proofs.Common.{Result, Err}
use Rattle.keep_shelf.specs.declared.shelf.Fault.{Fault}
use Rattle.keep_ledger.proofs.Finishing.{all_made, faults_at, finished_kept, whatever}
use Rattle.keep_ledger.proofs.ledger.Ledger.finish.Goals as goal

pub invariant_of-self : goal.invariant_of-self
invariant_of-self g c =
    let b = c.self.inside in
    let said = rw c.as_slice.ensures.value at c.settle.ensures in
    finished_kept b.history.journal b.live b.touch b.moves.items b.made (g.S.Shelf.shelved b.shelf) c.self.invariant
    c.settle.result c.settle.new.made (g.S.Shelf.shelved c.settle.new.shelf) said.made said.ok said.onward said.short said.err

pub invariant_of-self-2 : goal.invariant_of-self-2
invariant_of-self-2 g c =
    let b = c.self.inside in
    let said = rw c.as_slice.ensures.value at c.in_ok-settle.ensures in
    all_made b.history.journal b.live b.touch b.moves.items b.made (g.S.Shelf.shelved b.shelf) c.self.invariant
    c.settle.new.made (g.S.Shelf.shelved c.settle.new.shelf) said.made said.ok c.new.result.items c.new.ensures.items

pub returns-in_err-settle-clause-err : goal.returns-in_err-settle-clause-err
returns-in_err-settle-clause-err g c =
    let b = c.self.inside in
    let said = rw c.as_slice.ensures.value at c.in_err-settle.ensures in
    let stopped : Result (Unit {0}) Fault = Err c.in_err-settle.field-0.0 in
    whatever c.from_residual.result
    (faults_at b.history.journal b.live b.touch b.moves.items b.made (g.S.Shelf.shelved b.shelf) c.self.invariant
    stopped c.settle.new.made (g.S.Shelf.shelved c.settle.new.shelf) tt tt said.onward said.short said.err
    c.args.self.now c.self.view_is)

pub returns-in_err-settle-clause-shown : goal.returns-in_err-settle-clause-shown
returns-in_err-settle-clause-shown g c = rw (← c.self.view_is) (record { reads = c.self.invariant.reads; can = c.self.invariant.behind.can })

pub returns-clause-shown : goal.returns-clause-shown
returns-clause-shown g c = rw (← c.self.view_is) (record { reads = c.self.invariant.reads; can = c.self.invariant.behind.can })
