use Rattle.std.proofs.Common.{sym, ◌∙◌}
use Rattle.keep_build.proofs.Keeping.{claimed_none}
use Rattle.keep_build.proofs.storing.Storing.claim.Goals as goal

pub returns-in-None-clause-kept : goal.returns-in-None-clause-kept
returns-in-None-clause-kept c r named keeps = claimed_none r named c.args.blob c.args.self.now keeps (sym c.in-None.is ∙ c.reuse.ensures)
