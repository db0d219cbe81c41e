use Rattle.std.proofs.Common.{◌∙◌, Some, ap, sym}
use Rattle.std.proofs.lemmas.Option.{slice_get-get_or}
use Rattle.keep_book.specs.Armed.{hooks_of, with_veto}
use Rattle.keep_hooks.specs.Rules.{rule_of}
use Rattle.keep_answers.proofs.ArmingLemmas.{moved}
use Rattle.keep_answers.proofs.arming.arm_veto.Goals as goal

pub returns-in_default-clause-moves : goal.returns-in_default-clause-moves
returns-in_default-clause-moves g c =
    let place = c.args.place in
    let there = slice_get-get_or c.args.vetoes.now.items place c.remove-veto.result c.requires.there ∙ ap Some (sym c.remove-veto.ensures.value) in
    let behind = rw c.in_default.is at c.add_veto.ensures.armed in
    moved rule_of with_veto c.args.vetoes.now.items c.remove-veto.new.self.items (hooks_of c.args.book.now) (hooks_of c.add_veto.new.self) place c.remove-veto.result there c.remove-veto.ensures.items behind
