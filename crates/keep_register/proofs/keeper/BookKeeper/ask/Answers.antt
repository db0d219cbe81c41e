use Rattle.keep_book.specs.Armed.{on_shelf}
use Rattle.keep_ledger.proofs.Counted.{faults_counted}
use Rattle.keep_register.proofs.keeper.BookKeeper.ask.Goals as goal

pub returns-clause-failures : goal.returns-clause-failures
returns-clause-failures g c =
    faults_counted (on_shelf c.args.self.now) (on_shelf c.ask.new.self) c.args.request c.ask.result c.ask.ensures.responds.ends
