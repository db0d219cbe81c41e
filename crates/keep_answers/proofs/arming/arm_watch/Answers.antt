use Rattle.std.proofs.Common.{◌∙◌, Some, ap, sym}
use Rattle.std.proofs.lemmas.Option.{slice_get-get_or}
use Rattle.keep_book.specs.Armed.{hooks_of, ledger_of}
use Rattle.keep_hooks.specs.Rules.{watch_of}
use Rattle.keep_answers.proofs.ArmingLemmas.{moved}
use Rattle.keep_answers.specs.Arming.{with_watch_now}
use Rattle.keep_answers.proofs.arming.arm_watch.Goals as goal

pub returns-in_default-clause-moves : goal.returns-in_default-clause-moves
returns-in_default-clause-moves g c =
    let place = c.args.place in
    let there = slice_get-get_or c.args.watches.now.items place c.remove-watch.result c.requires.there ∙ ap Some (sym c.remove-watch.ensures.value) in
    let behind = rw c.in_default.is at c.add_watch.ensures.armed in
    moved watch_of (with_watch_now (ledger_of c.args.book.now).events) c.args.watches.now.items c.remove-watch.new.self.items (hooks_of c.args.book.now) (hooks_of c.add_watch.new.self) place c.remove-watch.result there c.remove-watch.ensures.items behind
