use Rattle.std.proofs.Common.{sym, ap, ◌∙◌}
use Rattle.std.specs.Option.{option_map}
use Rattle.keep_nodes.specs.Choosing.{lent_view}
use Rattle.keep_nodes.proofs.Paths.{looked_up}
use Rattle.keep_nodes.proofs.by_path.node_at.Goals as goal

pub returns : goal.returns
returns c =
    ap (option_map lent_view) (c.copied.ensures ∙ c.get.ensures.value) ∙ sym (looked_up c.args.nodes.now c.args.path.now)
