use Rattle.std.proofs.Common.{◌≢◌, map, ap, ◌∙◌, rules}
use Rattle.keep_catalog.specs.declared.reach_error.ReachError.TheVariants.{Memory}
use Rattle.keep_read.specs.declared.restore_error.RestoreError.TheVariants.{Reach}
use Rattle.keep_nodes.specs.Entries.{entry_view}
use Rattle.keep_nodes.specs.Listed.{nodes_due}
use Rattle.keep_looks.specs.Shown.{nodes_had, unlisted_of}
use Rattle.keep_looks.proofs.Had.{had_none, had_ok, none_more, one_more}
use Rattle.keep_looks.proofs.listed_nodes.nodes_or_none.Goals as goal

pub returns-in-Ok-clause-nodes : goal.returns-in-Ok-clause-nodes
unfolding nodes_had
returns-in-Ok-clause-nodes c =
    had_ok (nodes_due c.args.view.now.repo c.args.snapshot) (map entry_view c.in-Ok.entries.items) c.in-Ok.ensures.nodes

pub returns-in-Ok-clause-unlisted : goal.returns-in-Ok-clause-unlisted
unfolding unlisted_of
returns-in-Ok-clause-unlisted c =
    none_more c.args.snapshot (nodes_due c.args.view.now.repo c.args.snapshot) (map entry_view c.in-Ok.entries.items) c.args.unlisted.now.items c.in-Ok.ensures.nodes

pub returns-in_ok-push-in-Err-clause-nodes : goal.returns-in_ok-push-in-Err-clause-nodes
unfolding nodes_had
returns-in_ok-push-in-Err-clause-nodes c =
    let other : c.in-Err.why ≢ Reach Memory = λ h. search rules in
    ap (map entry_view) c.new.ensures.items ∙ had_none (nodes_due c.args.view.now.repo c.args.snapshot) c.in-Err.why (c.in-Err.ensures.nodes other)

pub returns-in_ok-push-in-Err-clause-unlisted : goal.returns-in_ok-push-in-Err-clause-unlisted
unfolding unlisted_of
returns-in_ok-push-in-Err-clause-unlisted c =
    let other : c.in-Err.why ≢ Reach Memory = λ h. search rules in
    c.in_ok-push-in-Err.ensures.items
    ∙ one_more c.args.snapshot (nodes_due c.args.view.now.repo c.args.snapshot) c.in-Err.why c.args.unlisted.now.items (c.in-Err.ensures.nodes other)
