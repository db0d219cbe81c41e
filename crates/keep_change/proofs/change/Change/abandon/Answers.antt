use Rattle.keep_change.specs.Halves.{turned}
use Rattle.keep_change.proofs.Halves.{abandoned}
use Rattle.keep_change.proofs.change.Change.abandon.Goals as goal

pub returns : goal.returns
returns c r ready begun =
    abandoned (turned c.args.turn c.args.self.now) r c.args.repo.now c.withdraw.new.repo ready begun c.withdraw.ensures
