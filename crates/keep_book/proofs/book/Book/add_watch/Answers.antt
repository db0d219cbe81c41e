-- Its name is none of those that are armed, and no event came since.
use Rattle.std.proofs.Common.{◌∙◌, ap, sym}
use Rattle.keep_hooks.specs.Rules.{armed_at, armed_of, tally_of, watch_of}
use Rattle.keep_journal.specs.History.{length_of}
use Rattle.keep_book.specs.Armed.{hooks_of}
use Rattle.keep_book.proofs.Naming.{behind, once_with_watch}
use Rattle.keep_ledger.proofs.Sums.{sums_armed}
use Rattle.keep_book.proofs.book.Book.add_watch.Goals as goal

pub invariant_of-self : goal.invariant_of-self
invariant_of-self g c = rw c.reserve.ensures.items (record { names = c.args.self.now.hooks.names })

pub invariant_of-self-2 : goal.invariant_of-self-2
invariant_of-self-2 g c =
    let before = c.args.self.now in
    let watch = watch_of c.args.watch in
    let single = rw c.name.ensures at (sym c.is_armed.ensures.exact ∙ c.if-is_armed.false) in
    let now = c.length-since.ensures ∙ ap length_of c.history.ensures.events in
    let armed = behind armed_of before.hooks.watches.items _ _ c.new.result _ c.push_reserved.ensures.items c.reserve.ensures.items (c.new.ensures.armed ∙ ap (λ since. armed_at since watch) now) in
    record {
      names = rw armed (once_with_watch (armed_at (length_of before.ledger.state.events) watch) (hooks_of before) single before.hooks.names);
    }

pub returns-clause-sums : goal.returns-clause-sums
returns-clause-sums g c =
    let before = c.args.self.now in
    let watch = watch_of c.args.watch in
    let now = c.length-since.ensures ∙ ap length_of c.history.ensures.events in
    let armed = behind armed_of before.hooks.watches.items _ _ c.new.result _ c.push_reserved.ensures.items c.reserve.ensures.items (c.new.ensures.armed ∙ ap (λ since. armed_at since watch) now) in
    let told = behind tally_of before.hooks.watches.items _ _ c.new.result _ c.push_reserved.ensures.items c.reserve.ensures.items c.new.ensures.untold in
    rw (armed, told) (sums_armed before.ledger.state.events _ _ watch c.history.ensures.open.numbered c.requires)
