-- The search goes on with each number that is pending.
use Rattle.std.proofs.Common.{arith}
use Rattle.keep_touch.proofs.Steps.{begins, comes_nearer, first_kept, goes_on, passes_last}
use Rattle.keep_touch.proofs.taken_changes.taken_with.Goals as goal

pub loop-number-init : goal.loop-number-init
loop-number-init c = begins c.args.history.now.journal c.args.n c.new-numbers.result.items c.in_ok-found.found c.new-numbers.ensures.items c.in_ok-found.ensures

pub look_at-requires-clause-kept : goal.look_at-requires-clause-kept
look_at-requires-clause-kept c =
    first_kept c.args.history.now.journal c.args.n c.loop-number.numbers.items c.in-Some.number c.loop-number.found c.pop_least.new.self
    c.last_change-last.ensures.numbered c.requires.change c.requires.kept c.loop-number.invariant c.in-Some.ensures.first

pub loop-number-preserved-in-Continue-branch-3 : goal.loop-number-preserved-in-Continue-branch-3
loop-number-preserved-in-Continue-branch-3 c =
    goes_on c.args.history.now.journal c.args.n c.loop-number.numbers.items c.in-Some.number c.loop-number.found c.pop_least.new.self
    c.push.new.self.items c.in_ok-push.ensures.items c.look_at.new.self
    c.last_change-last.ensures.numbered c.requires.change c.requires.kept c.loop-number.invariant c.in-Some.ensures.first c.in_ok-look_at.ensures

pub loop-number-preserved : goal.loop-number-preserved
loop-number-preserved c =
    passes_last c.args.history.now.journal c.args.n c.loop-number.numbers.items c.in-Some.number c.loop-number.found c.pop_least.new.self
    c.push.new.self.items c.in_ok-push.ensures.items
    c.last_change-last.ensures.numbered c.requires.change c.requires.kept (omega arith) c.loop-number.invariant c.in-Some.ensures.first

pub loop-number-smaller : goal.loop-number-smaller
loop-number-smaller c =
    comes_nearer c.args.history.now.journal c.args.n c.loop-number.numbers.items c.in-Some.number c.loop-number.found c.pop_least.new.self
    c.push.new.self.items c.in_ok-push.ensures.items
    c.last_change-last.ensures.numbered c.requires.change c.requires.kept c.loop-number.invariant c.in-Some.ensures.first

pub loop-number-smaller-in-Continue-branch-3 : goal.loop-number-smaller-in-Continue-branch-3
loop-number-smaller-in-Continue-branch-3 c =
    comes_nearer c.args.history.now.journal c.args.n c.loop-number.numbers.items c.in-Some.number c.loop-number.found c.pop_least.new.self
    c.push.new.self.items c.in_ok-push.ensures.items
    c.last_change-last.ensures.numbered c.requires.change c.requires.kept c.loop-number.invariant c.in-Some.ensures.first
