use Rattle.std.proofs.Common.{sym, ◌∙◌}
use Rattle.keep_read.specs.declared.restore_error.RestoreError.TheVariants.{NoSnapshot}
use Rattle.keep_nodes.proofs.Roots.{nodes_rootless, not_there}
use Rattle.keep_nodes.proofs.listing.nodes_of.Goals as goal

pub returns-then-not-facet_filled-clause-nodes : goal.returns-then-not-facet_filled-clause-nodes
returns-then-not-facet_filled-clause-nodes c _ =
    nodes_rootless c.args.view.now.repo c.args.snapshot NoSnapshot (not_there c.args.view.now.repo c.args.snapshot (rw (c.repo-repo.ensures, c.snapshot.ensures) at (sym c.facet_filled.ensures ∙ c.if-not-facet_filled.true)))
