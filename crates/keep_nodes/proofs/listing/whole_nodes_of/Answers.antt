use Rattle.std.proofs.Common.{◌≡◌, None, Some, Ok, Err, map, sym, ap, subst, ◌∙◌}
use Rattle.std.proofs.lemmas.Result.{err_from_is_err_and}
use Rattle.keep_repo.specs.Repository.{Repository}
use Rattle.keep_reach.specs.Snapshots.{refusal_of}
use Rattle.keep_read.specs.declared.restore_error.RestoreError.TheVariants.{NoSnapshot, Reach}
use Rattle.keep_nodes.specs.Entries.{entry_view}
use Rattle.keep_nodes.specs.Listed.{listed_from, reached, root_due, tree_refusal}
use Rattle.keep_nodes.proofs.Roots.{not_there, whole_nodes, whole_refused, whole_rootless}
use Rattle.keep_nodes.proofs.listing.whole_nodes_of.Goals as goal

pub returns-then-not-facet_filled-clause-nodes : goal.returns-then-not-facet_filled-clause-nodes
returns-then-not-facet_filled-clause-nodes c _ =
    whole_rootless c.args.view.now.repo c.args.snapshot NoSnapshot (not_there c.args.view.now.repo c.args.snapshot (rw (c.repo-repo.ensures, c.snapshot.ensures) at (sym c.facet_filled.ensures ∙ c.if-not-facet_filled.true)))

pub returns-in_err-_reached-clause-nodes : goal.returns-in_err-_reached-clause-nodes
returns-in_err-_reached-clause-nodes c =
    let due = err_from_is_err_and c.from_residual-in_err-_reached.result c.from_residual-in_err-_reached.ensures.1 in
    let R : Repository → Type 0 = λ x. root_due x c.args.snapshot ≡ Ok c.in_ok-tree.tree in
    let N : Repository → Type 0 = λ x. refusal_of x c.args.snapshot ≡ Some c.in_err-_reached.field-0.0 in
    rw (due.1, due.2) (λ other.
    whole_refused c.args.view.now.repo c.args.snapshot c.in_ok-tree.tree (subst R c.repo-repo.ensures c.in_ok-tree.ensures) c.in_err-_reached.field-0.0
    (subst N c.in_ok-catalog.ensures (c.in_err-_reached.ensures.refused (λ e. other (ap Reach e)))))

pub returns-in_err-entries-clause-nodes : goal.returns-in_err-entries-clause-nodes
returns-in_err-entries-clause-nodes c =
    let due = err_from_is_err_and c.from_residual-in_err-entries.result c.from_residual-in_err-entries.ensures.1 in
    let R : Repository → Type 0 = λ x. root_due x c.args.snapshot ≡ Ok c.in_ok-tree.tree in
    let N : Repository → Type 0 = λ x. refusal_of x c.args.snapshot ≡ None in
    let L : Repository → Type 0 = λ x. listed_from x c.in_ok-tree.tree (tree_refusal x c.in_ok-tree.tree) ≡ Err c.in_err-entries.field-0.0 in
    rw (due.1, due.2) (λ other.
    whole_nodes c.args.view.now.repo c.args.snapshot c.in_ok-tree.tree (subst R c.repo-repo.ensures c.in_ok-tree.ensures) (subst N c.in_ok-catalog.ensures c.in_ok-_reached.ensures.all)
    ∙ ap reached (subst L c.in_ok-catalog.ensures (c.in_err-entries.ensures (λ e. other (ap Reach e)))))

pub returns-clause-nodes : goal.returns-clause-nodes
returns-clause-nodes c =
    let R : Repository → Type 0 = λ x. root_due x c.args.snapshot ≡ Ok c.in_ok-tree.tree in
    let N : Repository → Type 0 = λ x. refusal_of x c.args.snapshot ≡ None in
    let L : Repository → Type 0 = λ x. listed_from x c.in_ok-tree.tree (tree_refusal x c.in_ok-tree.tree) ≡ Ok (map entry_view c.in_ok-entries.entries.items) in
    whole_nodes c.args.view.now.repo c.args.snapshot c.in_ok-tree.tree (subst R c.repo-repo.ensures c.in_ok-tree.ensures) (subst N c.in_ok-catalog.ensures c.in_ok-_reached.ensures.all)
    ∙ ap reached (subst L c.in_ok-catalog.ensures c.in_ok-entries.ensures)
