use Rattle.std.proofs.Common.{◌≡◌, suc, ◌-◌, List, [], ◌∷◌, ◌++◌, map, length, None, Some, refl, sym, ap, subst, ◌∙◌, arith, rules}
use Rattle.std.proofs.lemmas.List.{nil_from_length}
use Rattle.std.proofs.lemmas.Result.{err_from_is_err_and}
use Rattle.std.specs.BTreeMap as tree
use Rattle.std.specs.Str.{chars}
use Rattle.std.specs.Vec.Iter.{into_iter_items}
use Rattle.keep_names.specs.BlobId.{tree_at}
use Rattle.keep_names.specs.declared.id.Id.{Id}
use Rattle.keep_tree.proofs.ReadBack.{has_float-tree_data}
use Rattle.keep_tree.specs.Shape.{IsTree}
use Rattle.keep_tree.specs.Tree.{KindData, dir, kind_view, node_view}
use Rattle.keep_tree.specs.declared.node.Node.{Node}
use Rattle.keep_patterns.specs.Parsing.{pattern_view}
use Rattle.keep_patterns.specs.Rests.{left_at}
use Rattle.keep_patterns.specs.Without.{is_matched}
use Rattle.keep_catalog.specs.Naming.{named_by, named_in, nodes_under}
use Rattle.keep_reach.specs.Reach.{first_of, refusal_at}
use Rattle.keep_build.specs.Blobs.{BlobData}
use Rattle.keep_rewrite.specs.Finishing.{Finishes, HasBlobData}
use Rattle.keep_rewrite.specs.Leaving.{finished, kind_finished, kind_left, nodes_in, path_below, tree_left}
use Rattle.keep_rewrite.specs.Walking.{asked_cmp, trees_of}
use Rattle.keep_rewrite.proofs.Finished.{in_first}
use Rattle.keep_rewrite.proofs.Kept.{left_ids, left_is_tree, under_is_tree}
use Rattle.keep_rewrite.proofs.Nodes.{AreHad, first_had, had_below, nodes_of_had, nodes_read, none_first, one_above}
use Rattle.keep_rewrite.proofs.OneNode.{goes_so, leaves_below, only_memory, stays_finished, stays_left}
use Rattle.keep_rewrite.proofs.Remembered.{known_finishes, known_so, more_right, one_right}
use Rattle.keep_rewrite.proofs.Turned.{IsAt, all_kept, first_turn, next_turn, tree_finished_so, tree_left_so}
use Rattle.keep_rewrite.proofs.rewrite_walk.Walk.+walking.Goals as goal

-- ---- a tree that is remembered

pub leave-returns-in-Some-clause-left : goal.leave-returns-in-Some-clause-left
leave-returns-in-Some-clause-left t c =
    let got : tree.get asked_cmp c.args.walked.now.left (c.args.tree, c.args.rests) ≡ Some c.in-Some.left = search rules in
    (c.requires.before.each (c.args.tree, c.args.rests) c.in-Some.left got).left_so c.args.levels c.requires.had

pub leave-returns-in-Some-clause-trees : goal.leave-returns-in-Some-clause-trees
leave-returns-in-Some-clause-trees t c =
    let got : tree.get asked_cmp c.args.walked.now.left (c.args.tree, c.args.rests) ≡ Some c.in-Some.left = search rules in
    known_finishes c.args.self.now.catalog.now (map pattern_view c.args.self.now.patterns.now) c.args.walked.now c.args.levels c.args.rests c.args.tree c.in-Some.left c.requires.had
    (c.requires.before.each (c.args.tree, c.args.rests) c.in-Some.left got)

-- ---- the nodes of a tree

pub leave-returns-in_err-nodes-clause-refused : goal.leave-returns-in_err-nodes-clause-refused
leave-returns-in_err-nodes-clause-refused t c =
    let r = c.args.self.now.catalog.now in
    let due = err_from_is_err_and c.from_residual.result c.from_residual.ensures.1 in
    let had = nodes_of_had r c.args.levels c.args.tree c.requires.had in
    rw (due.1, due.2) (only_memory (nodes_under r c.args.tree) (nodes_in r c.args.tree) c.in_err-nodes.field-0.0 had c.in_err-nodes.ensures)

pub leave-loop-node-init : goal.leave-loop-node-init
leave-loop-node-init t c =
    let r = c.args.self.now.catalog.now in
    let given = c.into_iter-node-iterator.ensures.into_iter_gives in
    record {
      counted = given.1 ∙ c.in_ok-nodes.nodes.ok.0 ∙ ap length (sym given.0);
      is_at = first_turn r (map pattern_view c.args.self.now.patterns.now) (c.args.levels - 1) c.args.rests (nodes_in r c.args.tree) (trees_of c.args.walked.now)
          (map node_view (into_iter_items c.into_iter-node-iterator.result)) (map node_view c.new-kept.result.items) c.args.walked.now
          (ap (map node_view) given.0 ∙ sym (nodes_read r c.args.tree (map node_view c.in_ok-nodes.nodes.items) c.in_ok-nodes.ensures))
          (ap (map node_view) c.new-kept.ensures.items) refl (had_below r c.args.levels c.args.tree c.requires.had) c.requires.before;
    }

pub leave-leave_node-requires : goal.leave-leave_node-requires
leave-leave_node-requires t c =
    let r = c.args.self.now.catalog.now in
    let n = c.args.levels - 1 in
    let above : suc n ≡ c.args.levels = one_above (named_by r) c.args.levels c.args.tree c.requires.had in
    let had : AreHad r n (node_view c.in-Some-node.node ∷ map node_view (into_iter_items c.next.new.self)) =
    subst (λ (ns : List Node). AreHad r n (map node_view ns)) c.in-Some-node.ensures.steps.0 c.loop-node.invariant.is_at.had in (
      omega (arith, above, c.decreases),
      (
        first_had r n (node_view c.in-Some-node.node) (map node_view (into_iter_items c.next.new.self)) had,
        (c.loop-node.invariant.is_at.right, c.requires.stands),
      ),
    )

pub leave-loop-node-preserved : goal.leave-loop-node-preserved
leave-loop-node-preserved t c =
    let r = c.args.self.now.catalog.now in
    let patterns = map pattern_view c.args.self.now.patterns.now in
    let n = c.args.levels - 1 in
    let steps = c.in-Some-node.ensures.steps in
    let is : IsAt r patterns n c.args.rests (nodes_in r c.args.tree) (trees_of c.args.walked.now) (node_view c.in-Some-node.node ∷ map node_view (into_iter_items c.next.new.self)) (map node_view c.loop-node.kept.items) c.loop-node.loses c.loop-node.walked =
    subst (λ (ns : List Node). IsAt r patterns n c.args.rests (nodes_in r c.args.tree) (trees_of c.args.walked.now) (map node_view ns) (map node_view c.loop-node.kept.items) c.loop-node.loses c.loop-node.walked) steps.0 c.loop-node.invariant.is_at in
    record {
      counted = omega (arith, steps.1, c.loop-node.invariant.counted, ap length steps.0);
      is_at = next_turn r patterns n c.args.rests (nodes_in r c.args.tree) (trees_of c.args.walked.now) (node_view c.in-Some-node.node) (map node_view (into_iter_items c.next.new.self)) (map node_view c.loop-node.kept.items) (map node_view c.leave_node.new.kept.items)
          c.loop-node.loses c.in_ok-lost.lost c.loop-node.walked c.leave_node.new.walked is c.in_ok-lost.ensures.kept c.in_ok-lost.ensures.loses c.in_ok-lost.ensures.trees c.in_ok-lost.ensures.after;
    }

-- ---- at the end

pub leave-finish-requires : goal.leave-finish-requires
leave-finish-requires t c =
    let r = c.args.self.now.catalog.now in
    let patterns = map pattern_view c.args.self.now.patterns.now in
    let n = c.args.levels - 1 in
    let none : length (into_iter_items c.loop-node.node-iterator) ≡ 0 = omega (arith, c.in-None.ensures.steps.0, c.loop-node.invariant.counted) in
    let is : IsAt r patterns n c.args.rests (nodes_in r c.args.tree) (trees_of c.args.walked.now) [] (map node_view c.loop-node.kept.items) c.loop-node.loses c.loop-node.walked =
    subst (λ (ns : List Node). IsAt r patterns n c.args.rests (nodes_in r c.args.tree) (trees_of c.args.walked.now) (map node_view ns) (map node_view c.loop-node.kept.items) c.loop-node.loses c.loop-node.walked) (nil_from_length (into_iter_items c.loop-node.node-iterator) none) c.loop-node.invariant.is_at in
    let kept = all_kept r patterns n c.args.rests (nodes_in r c.args.tree) (trees_of c.args.walked.now) (map node_view c.loop-node.kept.items) c.loop-node.loses c.loop-node.walked is c.requires.stands.0 c.requires.stands.1 in
    let read = under_is_tree r c.args.tree (nodes_in r c.args.tree) (nodes_of_had r c.args.levels c.args.tree c.requires.had) in
    let is_tree : IsTree (map node_view c.loop-node.kept.items) =
    subst IsTree (sym kept) (left_is_tree (tree_left r patterns n) (left_ids r patterns n) c.requires.stands.0 patterns (nodes_in r c.args.tree) read) in
    has_float-tree_data (map node_view c.loop-node.kept.items) is_tree

pub leave-returns-clause-left : goal.leave-returns-clause-left
leave-returns-clause-left t c =
    let r = c.args.self.now.catalog.now in
    let patterns = map pattern_view c.args.self.now.patterns.now in
    let n = c.args.levels - 1 in
    let none : length (into_iter_items c.loop-node.node-iterator) ≡ 0 = omega (arith, c.in-None.ensures.steps.0, c.loop-node.invariant.counted) in
    let is : IsAt r patterns n c.args.rests (nodes_in r c.args.tree) (trees_of c.args.walked.now) [] (map node_view c.loop-node.kept.items) c.loop-node.loses c.loop-node.walked =
    subst (λ (ns : List Node). IsAt r patterns n c.args.rests (nodes_in r c.args.tree) (trees_of c.args.walked.now) (map node_view ns) (map node_view c.loop-node.kept.items) c.loop-node.loses c.loop-node.walked) (nil_from_length (into_iter_items c.loop-node.node-iterator) none) c.loop-node.invariant.is_at in
    tree_left_so r patterns n c.args.rests c.args.tree (trees_of c.args.walked.now) (map node_view c.loop-node.kept.items) c.loop-node.loses c.loop-node.walked is
    c.args.levels (one_above (named_by r) c.args.levels c.args.tree c.requires.had) c.in_ok-left.left c.in_ok-left.ensures.loses c.in_ok-left.ensures.tree

pub leave-returns-clause-trees : goal.leave-returns-clause-trees
leave-returns-clause-trees t c =
    let r = c.args.self.now.catalog.now in
    let patterns = map pattern_view c.args.self.now.patterns.now in
    let n = c.args.levels - 1 in
    let none : length (into_iter_items c.loop-node.node-iterator) ≡ 0 = omega (arith, c.in-None.ensures.steps.0, c.loop-node.invariant.counted) in
    let is : IsAt r patterns n c.args.rests (nodes_in r c.args.tree) (trees_of c.args.walked.now) [] (map node_view c.loop-node.kept.items) c.loop-node.loses c.loop-node.walked =
    subst (λ (ns : List Node). IsAt r patterns n c.args.rests (nodes_in r c.args.tree) (trees_of c.args.walked.now) (map node_view ns) (map node_view c.loop-node.kept.items) c.loop-node.loses c.loop-node.walked) (nil_from_length (into_iter_items c.loop-node.node-iterator) none) c.loop-node.invariant.is_at in
    tree_finished_so r patterns n c.args.rests c.args.tree (trees_of c.args.walked.now) (map node_view c.loop-node.kept.items) c.loop-node.loses c.loop-node.walked is
    c.args.levels (one_above (named_by r) c.args.levels c.args.tree c.requires.had) (trees_of c.finish.new.walked) c.in_ok-left.ensures.finished

pub leave-returns-clause-after : goal.leave-returns-clause-after
leave-returns-clause-after t c =
    let r = c.args.self.now.catalog.now in
    let patterns = map pattern_view c.args.self.now.patterns.now in
    let at = c.requires.stands.0 in
    let leaves = c.requires.stands.1 in
    let left = leave-returns-clause-left t c in
    let trees = leave-returns-clause-trees t c at leaves in
    let kept = λ (b : BlobData) (h : HasBlobData (trees_of c.loop-node.walked) b). subst (λ (ts : List BlobData). HasBlobData ts b) (sym c.in_ok-left.ensures.finished) (in_first (trees_of c.loop-node.walked) _ b h) in
    let right = more_right r patterns c.loop-node.walked c.finish.new.walked c.in_ok-left.ensures.same kept c.loop-node.invariant.is_at.right in
    let known = known_so r patterns c.finish.new.walked c.args.levels c.args.rests c.args.tree c.in_ok-left.left c.requires.had at leaves left trees.there in
    one_right r patterns c.finish.new.walked (record { left = c.insert.new.self; finished = c.finish.new.walked.finished }) (c.args.tree, c.args.rests) c.in_ok-left.left c.in_ok-insert.ensures.updates.0 refl right known

-- ---- one node

pub leave_node-leave-requires : goal.leave_node-leave-requires
leave_node-leave-requires t c =
    let r = c.args.self.now.catalog.now in
    let patterns = map pattern_view c.args.self.now.patterns.now in
    let node = node_view c.args.node in
    let at = c.requires.stands.0 in
    let had : first_of (refusal_at (named_by r) c.args.levels) (tree_at c.in-Dir.subtree ∷ []) ≡ None =
    subst (λ (kind : KindData). first_of (refusal_at (named_by r) c.args.levels) (named_in kind) ≡ None) (ap kind_view c.in-Dir.is) c.requires.had in
    let name = c.in_ok-name.ensures ∙ ap chars c.as_str.ensures.value in (
      omega (arith, c.decreases),
      (
        none_first _ _ had,
        (
          c.requires.before,
          (path_below at node, leaves_below patterns c.in_ok-below.below at node (c.in_ok-below.ensures (map chars at) c.requires.stands.1 ∙ ap (λ letters. left_at patterns (map chars at ++ letters ∷ [])) name)),
        ),
      ),
    )

pub leave_node-returns-clause-kept : goal.leave_node-returns-clause-kept
leave_node-returns-clause-kept t c = λ at leaves.
    let r = c.args.self.now.catalog.now in
    let patterns = map pattern_view c.args.self.now.patterns.now in
    let node = node_view c.args.node in
    let left = tree_left r patterns c.args.levels in
    let name = c.in_ok-name.ensures ∙ ap chars c.as_str.ensures.value in
    let stays = goes_so patterns at node _ (sym c.if-takes.false ∙ c.takes.ensures (map chars at) leaves ∙ ap (λ letters. is_matched patterns (map chars at ++ letters ∷ [])) name) in
    let below = leaves_below patterns c.in_ok-below.below at node (c.in_ok-below.ensures (map chars at) leaves ∙ ap (λ letters. left_at patterns (map chars at ++ letters ∷ [])) name) in
    stays_left patterns at node stays left (map node_view c.args.kept.now.items) (map node_view c.keep_folder.new.kept.items) (record node { kind = dir c.in_ok-left.left.tree })
    c.in_ok-keep_folder.ensures
    (ap (λ (id : Id). record node { kind = dir id }) (c.in_ok-left.ensures.left (path_below at node) below).1
    ∙ ap (λ (kind : KindData). record node { kind = kind_left left (path_below at node) kind }) (sym (ap kind_view c.in-Dir.is)))

pub leave_node-returns-clause-trees : goal.leave_node-returns-clause-trees
leave_node-returns-clause-trees t c = λ at leaves.
    let r = c.args.self.now.catalog.now in
    let patterns = map pattern_view c.args.self.now.patterns.now in
    let node = node_view c.args.node in
    let trees = finished r patterns c.args.levels in
    let name = c.in_ok-name.ensures ∙ ap chars c.as_str.ensures.value in
    let stays = goes_so patterns at node _ (sym c.if-takes.false ∙ c.takes.ensures (map chars at) leaves ∙ ap (λ letters. is_matched patterns (map chars at ++ letters ∷ [])) name) in
    let below = leaves_below patterns c.in_ok-below.below at node (c.in_ok-below.ensures (map chars at) leaves ∙ ap (λ letters. left_at patterns (map chars at ++ letters ∷ [])) name) in
    stays_finished patterns at node stays trees (trees_of c.args.walked.now) (trees_of c.leave.new.walked)
    (subst (λ (kind : KindData). Finishes (trees_of c.args.walked.now) (trees_of c.leave.new.walked) (kind_finished trees (path_below at node) kind)) (sym (ap kind_view c.in-Dir.is))
    (c.in_ok-left.ensures.trees (path_below at node) below))
