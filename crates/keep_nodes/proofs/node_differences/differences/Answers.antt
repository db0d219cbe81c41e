use Rattle.std.proofs.Common.{map, ap, ◌∙◌}
use Rattle.std.proofs.lemmas.Result.{IfOk-weaker}
use Rattle.keep_nodes.specs.Entries.{entry_view}
use Rattle.keep_nodes.specs.Differences as spec
use Rattle.keep_nodes.specs.Lent.{paths_of}
use Rattle.keep_nodes.proofs.Paths.{told}
use Rattle.keep_nodes.proofs.node_differences.differences.Goals as goal

pub returns : goal.returns
returns c =
    let old = map entry_view c.args.old.now in
    let new = map entry_view c.args.new.now in
    let all = c.in_ok-put_all.ensures ∙ ap (λ m. spec.put_all m new) c.in_ok-all.ensures in
    IfOk-weaker c.found_at.result _ _ (λ found is. is ∙ told (paths_of c.in_ok-old_nodes.old_nodes) (paths_of c.in_ok-new_nodes.new_nodes) (paths_of c.put_all.new.nodes) old new c.in_ok-old_nodes.ensures c.in_ok-new_nodes.ensures all) c.found_at.ensures
