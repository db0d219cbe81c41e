-- A repository without events is its own opening.
use Rattle.keep_view.proofs.Opened.{open_alone, shown-alone}
use Rattle.keep_view.proofs.view.View.without_events.Goals as goal

pub invariant_of-result : goal.invariant_of-result
invariant_of-result c = open_alone c.args.history.now.journal c.args.live.now c.requires

pub returns : goal.returns
returns c = shown-alone c.args.history.now.journal c.args.live.now c.requires
