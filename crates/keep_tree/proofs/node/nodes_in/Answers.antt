use Rattle.std.proofs.Common.{◌≡◌, ◌∷◌, [], ◌++◌, map, true, is_ok, cond, ok_or, Err, sym, ap, ◌∙◌}
use Rattle.std.proofs.lemmas.List.{map-append}
use Rattle.std.proofs.lemmas.Result.{err_from_is_err_and}
use Rattle.serde_json.specs.View.{view}
use Rattle.keep_docs.proofs.Each.{each_next, each_refused}
use Rattle.keep_tree.specs.Tree.{node_in, node_view}
use Rattle.keep_tree.specs.declared.tree.TreeError.TheVariants.{BadTree}
use Rattle.keep_docs.proofs.Answered.{found_from_ok, none_from_err}
use Rattle.keep_tree.proofs.node.nodes_in.Goals as goal

pub returns-in_err-node : goal.returns-in_err-node
returns-in_err-node c =
    let turn = c.loop-item in
    let due = err_from_is_err_and c.from_residual.result c.from_residual.ensures.1 in
    rw (due.1, due.2) (λ other.
    let refused = none_from_err _ _ _ (c.in_err-node.ensures other) in
    ap (λ found. ok_or found BadTree)
    (each_refused view node_in c.args.items.now turn.item-index (map node_view turn.nodes.items) c.item-item.result turn.invariant c.loop-item-test.true c.item-item.is refused.0)
    ∙ ap Err refused.1)

pub loop-item-preserved : goal.loop-item-preserved
loop-item-preserved c =
    let turn = c.loop-item in
    let node = c.in_ok-node.node in
    let done = turn.nodes.items in
    let is_pushed : is_ok c.push.result ≡ true = sym c.map_err.ensures.variant ∙ ap is_ok c.in_ok-map_err.was in
    let pushed : c.push.new.self.items ≡ done ++ node ∷ [] = c.push.ensures.items ∙ ap (λ b. cond b (done ++ node ∷ []) done) is_pushed in
    rw (pushed, map-append node_view done (node ∷ []))
    (each_next view node_in c.args.items.now turn.item-index (map node_view done) c.item-item.result (node_view node) turn.invariant c.loop-item-test.true c.item-item.is (found_from_ok _ _ _ c.in_ok-node.ensures))
