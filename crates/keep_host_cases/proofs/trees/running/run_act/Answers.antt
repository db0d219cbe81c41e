use Rattle.std.proofs.Common.{◌≡◌, sym, subst}
use Rattle.keep_files.specs.Act.{Seen}
use Rattle.keep_files.specs.Content.{HoldsFiles}
use Rattle.keep_files.specs.Stands.{IsClosed, Stands}
use Rattle.keep_memory_files.specs.Failing.{outside}
use Rattle.keep_memory_files.specs.Memory.{seen_in}
use Rattle.keep_host_cases.proofs.Closed.{stands_kept}
use Rattle.keep_host_cases.proofs.trees.running.run_act.Goals as goal

kept : (c : goal.After-found-2-1) → (outside seen_in c.new-folder.result.files.tree.inner).stands ≡ (seen_in c.in_ok-tree.tree).stands
kept c =
    stands_kept c.in_ok-tree.tree c.read_keys.new.tree c.over.result c.new-tree.result.inner (outside seen_in c.new-folder.result.files.tree.inner)
    c.in_ok-found.ensures.ok c.over.ensures c.new-tree.ensures c.new-folder.ensures.seen

pub perform-requires-clause-closed : goal.perform-requires-clause-closed
perform-requires-clause-closed c = subst IsClosed (sym (kept c)) c.in_ok-tree.ensures

pub perform-requires-clause-found : goal.perform-requires-clause-found
perform-requires-clause-found c = subst (λ (stands : Stands). HoldsFiles stands c.in_ok-found.found) (sym (kept c)) c.in_ok-found.ensures.read

pub end-requires : goal.end-requires
end-requires c = subst (λ (s : Seen). IsClosed s.stands) (sym c.into_tree.ensures) c.perform.ensures
