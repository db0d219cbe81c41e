use Rattle.keep_ledger.proofs.Counted.{accepted_counted, faults_counted}
use Rattle.keep_ledger.proofs.ledger_laws.calls_are_counted.Goals as goal

pub returns-clause-accepted : goal.returns-clause-accepted
returns-clause-accepted c = accepted_counted

pub returns-clause-failed : goal.returns-clause-failed
returns-clause-failed c = faults_counted
