use Rattle.std.proofs.Common.{◌≡◌, ℕ, suc, ◌-◌, List, [], ◌∷◌, ◌++◌, map, length, codes, string_bytes, sym, ap, subst, ◌∙◌, arith}
use Rattle.std.proofs.lemmas.List.{append_assoc, nil_from_length}
use Rattle.std.proofs.lemmas.Result.{err_from_is_err_and, on_ok_weaker}
use Rattle.std.specs.List.{AllByRecursion}
use Rattle.std.specs.Vec.Iter.{into_iter_items}
use Rattle.keep_tree.specs.Tree.{NodeData, kind_view, node_view}
use Rattle.keep_tree.specs.declared.node.Node.{Node}
use Rattle.keep_read.specs.Contents.{nodes_in}
use Rattle.keep_nodes.specs.Entries.{at, entries_at, entries_in, entry_view, under}
use Rattle.keep_nodes.proofs.Read.{IsWhole, nodes_whole, read_nodes}
use Rattle.keep_nodes.proofs.Walking.{Turn, all_added, all_had, first_turn, next_turn, node_added, tree_entries, tree_refused, turn_refused}
use Rattle.keep_nodes.proofs.entry_walk.Walk.+walking.Goals as goal

pub add_tree-loop-node-init : goal.add_tree-loop-node-init
add_tree-loop-node-init t c =
    let r = c.args.self.now.catalog.now in
    let given = c.into_iter-node-iterator.ensures.into_iter_gives in
    let read = read_nodes r c.args.tree (map node_view c.in_ok-nodes.nodes.items) c.in_ok-nodes.ensures in
    record {
      counted = given.1 ∙ c.in_ok-nodes.nodes.ok.0 ∙ ap length (sym given.0);
      turn = first_turn r (c.args.levels - 1) c.args.path.now (nodes_in r c.args.tree) (map entry_view c.args.entries.now.items) (map node_view (into_iter_items c.into_iter-node-iterator.result)) (ap (map node_view) given.0 ∙ sym read)
          (subst (λ (ns : List NodeData). AllByRecursion IsWhole ns) (sym read) (nodes_whole r c.args.tree (map node_view c.in_ok-nodes.nodes.items) c.in_ok-nodes.ensures));
    }

pub add_tree-add_node-requires : goal.add_tree-add_node-requires
add_tree-add_node-requires t c =
    let r = c.args.self.now.catalog.now in
    let above : suc (c.args.levels - 1) ≡ c.args.levels = omega arith in
    let turn : Turn r (c.args.levels - 1) c.args.path.now (nodes_in r c.args.tree) (map entry_view c.args.entries.now.items) (map entry_view c.loop-node.entries.items) (node_view c.in-Some.node ∷ map node_view (into_iter_items c.next.new.self)) =
    subst (λ (ns : List Node). Turn r (c.args.levels - 1) c.args.path.now (nodes_in r c.args.tree) (map entry_view c.args.entries.now.items) (map entry_view c.loop-node.entries.items) (map node_view ns)) c.in-Some.ensures.steps.0 c.loop-node.invariant.turn in
    (omega (arith, above, c.requires), turn.whole.0)

pub add_tree-loop-node-preserved : goal.add_tree-loop-node-preserved
add_tree-loop-node-preserved t c =
    let r = c.args.self.now.catalog.now in
    let steps = c.in-Some.ensures.steps in
    let turn : Turn r (c.args.levels - 1) c.args.path.now (nodes_in r c.args.tree) (map entry_view c.args.entries.now.items) (map entry_view c.loop-node.entries.items) (node_view c.in-Some.node ∷ map node_view (into_iter_items c.next.new.self)) =
    subst (λ (ns : List Node). Turn r (c.args.levels - 1) c.args.path.now (nodes_in r c.args.tree) (map entry_view c.args.entries.now.items) (map entry_view c.loop-node.entries.items) (map node_view ns)) steps.0 c.loop-node.invariant.turn in
    record {
      counted = omega (arith, steps.1, c.loop-node.invariant.counted, ap length steps.0);
      turn = next_turn r (c.args.levels - 1) c.args.path.now (nodes_in r c.args.tree) (map entry_view c.args.entries.now.items) (map entry_view c.loop-node.entries.items) (node_view c.in-Some.node) (map node_view (into_iter_items c.next.new.self)) turn
          (map entry_view c.add_node.new.entries.items) c.in_ok-add_node.ensures.added c.in_ok-add_node.ensures.had;
    }

pub add_tree-returns-in_err-add_node-clause-refused : goal.add_tree-returns-in_err-add_node-clause-refused
add_tree-returns-in_err-add_node-clause-refused t c =
    let r = c.args.self.now.catalog.now in
    let above : suc (c.args.levels - 1) ≡ c.args.levels = omega arith in
    let turn : Turn r (c.args.levels - 1) c.args.path.now (nodes_in r c.args.tree) (map entry_view c.args.entries.now.items) (map entry_view c.loop-node.entries.items) (node_view c.in-Some.node ∷ map node_view (into_iter_items c.next.new.self)) =
    subst (λ (ns : List Node). Turn r (c.args.levels - 1) c.args.path.now (nodes_in r c.args.tree) (map entry_view c.args.entries.now.items) (map entry_view c.loop-node.entries.items) (map node_view ns)) c.in-Some.ensures.steps.0 c.loop-node.invariant.turn in
    let due = err_from_is_err_and c.from_residual-in_err-add_node.result c.from_residual-in_err-add_node.ensures.1 in
    rw (due.1, due.2) (λ other.
    tree_refused r c.args.levels (c.args.levels - 1) c.args.tree (map node_view c.in_ok-nodes.nodes.items) above c.in_ok-nodes.ensures
    ∙ turn_refused r (c.args.levels - 1) c.args.path.now (nodes_in r c.args.tree) (map entry_view c.args.entries.now.items) (map entry_view c.loop-node.entries.items) (node_view c.in-Some.node) (map node_view (into_iter_items c.next.new.self)) turn
    c.in_err-add_node.field-0.0 (c.in_err-add_node.ensures.refused other))

pub add_tree-returns-clause-added : goal.add_tree-returns-clause-added
add_tree-returns-clause-added t c =
    let r = c.args.self.now.catalog.now in
    let above : suc (c.args.levels - 1) ≡ c.args.levels = omega arith in
    let none : length (into_iter_items c.loop-node.node-iterator) ≡ 0 = omega (arith, c.in-None.ensures.steps.0, c.loop-node.invariant.counted) in
    let turn : Turn r (c.args.levels - 1) c.args.path.now (nodes_in r c.args.tree) (map entry_view c.args.entries.now.items) (map entry_view c.loop-node.entries.items) [] =
    subst (λ (ns : List Node). Turn r (c.args.levels - 1) c.args.path.now (nodes_in r c.args.tree) (map entry_view c.args.entries.now.items) (map entry_view c.loop-node.entries.items) (map node_view ns)) (nil_from_length (into_iter_items c.loop-node.node-iterator) none) c.loop-node.invariant.turn in
    all_added r (c.args.levels - 1) c.args.path.now (nodes_in r c.args.tree) (map entry_view c.args.entries.now.items) (map entry_view c.loop-node.entries.items) turn
    ∙ ap (λ ys. map entry_view c.args.entries.now.items ++ ys) (tree_entries r c.args.levels (c.args.levels - 1) c.args.path.now c.args.tree above)

pub add_tree-returns-clause-had : goal.add_tree-returns-clause-had
add_tree-returns-clause-had t c =
    let r = c.args.self.now.catalog.now in
    let above : suc (c.args.levels - 1) ≡ c.args.levels = omega arith in
    let none : length (into_iter_items c.loop-node.node-iterator) ≡ 0 = omega (arith, c.in-None.ensures.steps.0, c.loop-node.invariant.counted) in
    let turn : Turn r (c.args.levels - 1) c.args.path.now (nodes_in r c.args.tree) (map entry_view c.args.entries.now.items) (map entry_view c.loop-node.entries.items) [] =
    subst (λ (ns : List Node). Turn r (c.args.levels - 1) c.args.path.now (nodes_in r c.args.tree) (map entry_view c.args.entries.now.items) (map entry_view c.loop-node.entries.items) (map node_view ns)) (nil_from_length (into_iter_items c.loop-node.node-iterator) none) c.loop-node.invariant.turn in
    tree_refused r c.args.levels (c.args.levels - 1) c.args.tree (map node_view c.in_ok-nodes.nodes.items) above c.in_ok-nodes.ensures
    ∙ all_had r (c.args.levels - 1) c.args.path.now (nodes_in r c.args.tree) (map entry_view c.args.entries.now.items) (map entry_view c.loop-node.entries.items) turn

pub add_node-returns-in-Dir-clause-added : goal.add_node-returns-in-Dir-clause-added
add_node-returns-in-Dir-clause-added t c =
    let r = c.args.self.now.catalog.now in
    let node = node_view c.args.node in
    let path = string_bytes c.in_ok-path.path in
    let before = map entry_view c.args.entries.now.items in
    let below = entries_at r c.args.levels c.in-Dir.subtree in
    let same : c.as_str-in-Dir.result.now ≡ path = c.as_str-in-Dir.ensures.value ∙ c.in_ok-below.ensures.cases in
    let stands : path ≡ c.args.path.now ++ (codes "/" ++ node.name) = c.in_ok-path.ensures ∙ ap (λ name. c.args.path.now ++ 47 ∷ name) c.as_str.ensures.value in
    let folder : entries_in (entries_at r c.args.levels) node.kind ≡ below = ap (λ kind. entries_in (entries_at r c.args.levels) (kind_view kind)) c.in-Dir.is in
    on_ok_weaker c.add_tree.result (λ added.
    added ∙ ap (λ es. es ++ map (under c.as_str-in-Dir.result.now) below) c.in_ok-add.ensures
    ∙ append_assoc before (at path node ∷ []) (map (under c.as_str-in-Dir.result.now) below)
    ∙ ap (λ ys. before ++ ys) (ap (λ p. at path node ∷ map (under p) below) same ∙ node_added r c.args.levels c.args.path.now path node below folder stands)) c.add_tree.ensures.added
