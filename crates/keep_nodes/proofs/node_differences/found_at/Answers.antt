use Rattle.std.proofs.Common.{◌≡◌, ℕ, List, [], ◌++◌, map, sym, ap, ◌∙◌, rules}
use Rattle.std.proofs.lemmas.List.{append-nil}
use Rattle.std.specs.List.{filter_map}
use Rattle.keep_nodes.specs.Differences.{difference_at}
use Rattle.keep_nodes.specs.Lent.{difference_view, paths_of}
use Rattle.keep_nodes.proofs.Paths.{path_in, paths_listed}
use Rattle.keep_nodes.proofs.node_differences.found_at.Goals as goal

pub returns : goal.returns
returns c =
    let at = difference_at (paths_of c.args.old.now) (paths_of c.args.new.now) in
    let done : c.loop-path.path-iterator ≡ [] = c.in-None.ensures.steps.0 in
    sym (append-nil (map difference_view c.loop-path.found.items))
    ∙ ap (λ es. map difference_view c.loop-path.found.items ++ filter_map at (map path_in es)) (sym done)
    ∙ c.loop-path.invariant
    ∙ ap (filter_map at) (sym (paths_listed c.args.all.now c.into_iter-path-iterator.ensures.into_iter_gives.5))
