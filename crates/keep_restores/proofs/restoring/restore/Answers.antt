use Rattle.std.proofs.Common.{Bor, List, map, ◌∙◌, ap, subst}
use Rattle.std.specs.List.{AllZip}
use Rattle.keep_nodes.specs.Entries.{entry_view}
use Rattle.keep_nodes.specs.declared.path_node.PathNode.{PathNode}
use Rattle.keep_putting.specs.Putting.{IsRestored}
use Rattle.keep_putting.specs.declared.wanted.Wanted.{Wanted}
use Rattle.keep_repo.specs.Repository.{Repository}
use Rattle.keep_restores.proofs.Lent.{lent, lent_views}
use Rattle.keep_restores.specs.Choosing.{included}
use Rattle.keep_restores.specs.Restoring.{pieces_in}
use Rattle.keep_patterns.specs.Parsing.{pattern_view}
use Rattle.keep_restores.specs.Wanted.{IsWantedOf}
use Rattle.keep_restores.proofs.restoring.restore.Goals as goal

pub returns-clause-restored : goal.returns-clause-restored
returns-clause-restored g c =
    let wanted = c.in_ok-wanted.wanted.items in
    let calls = g.T.Target.calls c.put_back.new.target in
    let told = c.in_ok-restored.restored in
    let caller = c.args.caller in
    let E : List (Bor PathNode) → Type 0 = λ entries. AllZip IsWantedOf (lent entries) wanted in
    let R : Repository → Type 0 = λ r. IsRestored (pieces_in r) caller c.deref-3.result.now calls told in
    let W : List Wanted → Type 0 = λ these. IsRestored (pieces_in c.args.view.now.repo) caller these calls told in
    record {
      nodes = map entry_view c.in_ok-entries.entries.items;
      entries = lent c.in_ok-found.found.items;
      wanted = wanted;
      had = c.in_ok-entries.ensures.nodes;
      chosen = lent_views c.in_ok-found.found.items ∙ c.in_ok-found.ensures
          ∙ ap (λ (entries : List PathNode). included (map pattern_view c.args.include.now) (map entry_view entries)) c.deref.ensures.value;
      meant = subst E c.deref-2.ensures.value c.in_ok-wanted.ensures;
      done = subst W c.deref-3.ensures.value (subst R c.in_ok-catalog.ensures c.in_ok-restored.ensures.restored);
    }
