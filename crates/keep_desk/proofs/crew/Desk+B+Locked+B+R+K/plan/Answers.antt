use Rattle.keep_chronicle.proofs.Prefixes.{prefix_trans}
use Rattle.keep_desk.proofs.crew.Desk+B+Locked+B+R+K.plan.Goals as goal

pub returns-clause-begins : goal.returns-clause-begins
returns-clause-begins g c =
    prefix_trans c.args.pass.now.seen c.enter.new.self.seen c.plan.new.pass.seen c.enter.ensures.begins c.plan.ensures.begins
