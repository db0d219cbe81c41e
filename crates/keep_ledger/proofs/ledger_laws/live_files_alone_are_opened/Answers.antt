use Rattle.keep_ledger.proofs.Taken.{files_alone}
use Rattle.keep_ledger.proofs.ledger_laws.live_files_alone_are_opened.Goals as goal

pub returns : goal.returns
returns c = files_alone
