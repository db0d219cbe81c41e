use Rattle.std.proofs.Common.{◌∙◌, ap}
use Rattle.std.specs.FinMap as finite
use Rattle.keep_nodes.specs.Choosing.{lent_view}
use Rattle.keep_nodes.specs.Lent.{paths_of}
use Rattle.keep_nodes.proofs.Paths.{one_more}
use Rattle.keep_nodes.proofs.by_path.put.Goals as goal

pub returns : goal.returns
returns c =
    one_more c.args.nodes.now c.insert.new.self c.in_ok-path.path c.args.entry c.in_ok-insert.ensures.updates
    ∙ ap (λ path. finite.insert (paths_of c.args.nodes.now) path (lent_view c.args.entry)) c.in_ok-path.ensures.cases
