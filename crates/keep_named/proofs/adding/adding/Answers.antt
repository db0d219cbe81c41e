use Rattle.std.proofs.Common.{◌≡◌, sym, ap, ◌∙◌, arith}
use Rattle.keep_journal.specs.History.{last_change}
use Rattle.keep_named.specs.Adding.{adding_up_to}
use Rattle.keep_named.proofs.Added.{nothing_final, one_later}
use Rattle.keep_named.proofs.adding.adding.Goals as goal

pub loop-before-init : goal.loop-before-init
loop-before-init c =
    sym (nothing_final c.args.history.now.journal c.args.snapshot c.final_number-before.result (omega (arith, c.final_number-before.ensures)))

pub loop-before-preserved : goal.loop-before-preserved
loop-before-preserved c =
    one_later c.args.history.now.journal c.args.snapshot c.loop-before.before c.loop-before.found _ c.loop-before.invariant c.last_of-found.ensures

pub returns : goal.returns
returns c =
    let same : c.loop-before.before ≡ last_change c.args.history.now.journal = omega (arith, c.last_change-before-end.ensures.exact, c.last_change-before-end.ensures.numbered.last_final, c.final_number-before.ensures) in
    c.loop-before.invariant ∙ ap (adding_up_to c.args.history.now.journal c.args.snapshot) same
