-- A change that stands alone finds at its place what the live repository holds.
use Rattle.std.proofs.Common.{◌≡◌, Some, ◌∙◌, refl, sym, ap}
use Rattle.std.specs.Option.{option_and_then}
use Rattle.keep_journal.specs.History.{change_of}
use Rattle.keep_ledger.specs.Dependents.{blocked_at}
use Rattle.keep_ledger.proofs.Alone.{alone_blocked}
use Rattle.keep_ledger.proofs.dependents.blocked_by.Goals as goal

pub returns-then-not-is_followed : goal.returns-then-not-is_followed
returns-then-not-is_followed c =
    let j = c.args.history.now.journal in
    let is : change_of j c.args.n ≡ Some c.in_ok-change.change.now = sym (c.in_ok-change.ensures.exact c.requires.unfinal) in
    c.unmet_alone.ensures
    ∙ sym (alone_blocked j c.args.live.now c.args.n c.in_ok-change.change.now (c.if-not-is_followed.ensures.alone refl) is)
    ∙ ap (option_and_then (blocked_at j c.args.live.now c.args.n)) (sym is)
