-- The moves that were left are made, or one of them fails.
use Rattle.keep_ledger.proofs.Reading.{opened_of}
use Rattle.keep_ledger.proofs.Unopened.{fault_given}
use Rattle.keep_ledger.proofs.ledger.Ledger.open_with.Goals as goal

pub returns-in-Ok-clause-opened : goal.returns-in-Ok-clause-opened
returns-in-Ok-clause-opened g c = opened_of (g.S.Shelf.shelved c.args.shelf) c.in_ok-ledger.ledger _ c.in_ok-ledger.ensures.read c.in-Ok.ensures.ok

pub returns-in-Err-clause-given : goal.returns-in-Err-clause-given
returns-in-Err-clause-given g c =
    fault_given (g.S.Shelf.shelved c.args.shelf) c.in_ok-ledger.ledger c.finish.new.self c.in_ok-ledger.ensures.read c.in-Err.ensures.shown c.in-Err.ensures.err
    (g.S.Shelf.shelved c.into_shelf.result) c.into_shelf.ensures
