-- One leaf after another.
use Rattle.std.proofs.Common.{◌∙◌, List, [], ◌∷◌, length, sym, ap, subst, arith}
use Rattle.std.specs.Vec.Iter.{into_iter_items}
use Rattle.keep_journal.specs.Journal.{Journal}
use Rattle.keep_reading.specs.declared.leaf.Leaf.{Leaf}
use Rattle.keep_opening.proofs.Going.{Goes, goes_first, goes_on, next_comes}
use Rattle.keep_opening.proofs.leaf_history.history_of.Goals as goal

pub loop-leaf-init : goal.loop-leaf-init
loop-leaf-init c =
    let given = c.into_iter-leaf-iterator.ensures.into_iter_gives in
    let f = c.final_in-final_number.result in
    let first = goes_first f c.requires.0 c.args.leaves.items c.requires.1 in
    let all : Goes f c.args.leaves.items (into_iter_items c.into_iter-leaf-iterator.result) (record { base = f; entries = [] }) 0 =
    subst (λ (ls : List Leaf). Goes f c.args.leaves.items ls (record { base = f; entries = [] }) 0) (sym given.0) first in
    record {
      counted = given.1 ∙ c.args.leaves.ok.0 ∙ ap length (sym given.0);
      goes = subst (λ (j : Journal). Goes f c.args.leaves.items (into_iter_items c.into_iter-leaf-iterator.result) j 0) (sym c.new-history.ensures) all;
    }

pub append_leaf-requires : goal.append_leaf-requires
append_leaf-requires c =
    let f = c.final_in-final_number.result in
    let goes : Goes f c.args.leaves.items (c.in-Some.leaf ∷ into_iter_items c.next.new.self) c.loop-leaf.history.journal c.loop-leaf.top =
    subst (λ (ls : List Leaf). Goes f c.args.leaves.items ls c.loop-leaf.history.journal c.loop-leaf.top) c.in-Some.ensures.steps.0 c.loop-leaf.invariant.goes in
    next_comes f c.args.leaves.items c.in-Some.leaf (into_iter_items c.next.new.self) c.loop-leaf.history.journal c.loop-leaf.top goes

pub loop-leaf-preserved : goal.loop-leaf-preserved
loop-leaf-preserved c =
    let f = c.final_in-final_number.result in
    let steps = c.in-Some.ensures.steps in
    let goes : Goes f c.args.leaves.items (c.in-Some.leaf ∷ into_iter_items c.next.new.self) c.loop-leaf.history.journal c.loop-leaf.top =
    subst (λ (ls : List Leaf). Goes f c.args.leaves.items ls c.loop-leaf.history.journal c.loop-leaf.top) steps.0 c.loop-leaf.invariant.goes in
    record {
      counted = omega (arith, steps.1, c.loop-leaf.invariant.counted, ap length steps.0);
      goes = goes_on f c.args.leaves.items c.in-Some.leaf (into_iter_items c.next.new.self) c.loop-leaf.history.journal c.loop-leaf.top c.in_ok-top.top c.append_leaf.new.history.journal goes c.in_ok-top.ensures.taken;
    }
