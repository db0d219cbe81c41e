-- A change of a well formed history is well formed.
use Rattle.std.proofs.Common.{rules}
use Rattle.keep_journal.specs.Standings.{IsStandingOf}
use Rattle.keep_journal.proofs.Later.{well_formed_change}
use Rattle.keep_journal.proofs.history.History.kept_change.Goals as goal

pub returns-clause-formed : goal.returns-clause-formed
returns-clause-formed c formed =
    let stands : IsStandingOf c.args.self.now.journal c.args.n c.in_ok-standing.standing.now = search rules in
    rw c.as_change.ensures (well_formed_change c.args.self.now.journal c.args.n c.in_ok-standing.standing.now.change formed stands.numbered)
