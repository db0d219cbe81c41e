use Rattle.std.proofs.Common.{◌∙◌, Some, ap, arith, sym}
use Rattle.keep_hooks.specs.Rules.{rule_of}
use Rattle.keep_book.proofs.Places.{none_refuses, one_refuses}
use Rattle.keep_book.proofs.hooks.HooksGuard.first.Goals as goal

pub returns-in-None : goal.returns-in-None
returns-in-None g c =
    sym (none_refuses rule_of c.args.outline.now c.args.self.now.vetoes.items (rw (sym c.as_slice.ensures.value) (sym c.first_veto.ensures ∙ c.in-None.is)))

pub index-requires : goal.index-requires
index-requires g c =
    let found = one_refuses rule_of c.args.outline.now c.in-Some.place c.args.self.now.vetoes.items (rw (sym c.as_slice.ensures.value) (sym c.first_veto.ensures ∙ c.in-Some.is)) in
    omega (arith, found.0)

pub returns-in_ok-clone-in-Some : goal.returns-in_ok-clone-in-Some
returns-in_ok-clone-in-Some g c =
    let found = one_refuses rule_of c.args.outline.now c.in-Some.place c.args.self.now.vetoes.items (rw (sym c.as_slice.ensures.value) (sym c.first_veto.ensures ∙ c.in-Some.is)) in
    ap Some (c.new.ensures ∙ c.in_ok-clone-in-Some.ensures.cases ∙ ap (λ veto. (rule_of veto).name) c.index.ensures)
    ∙ sym (found.1 c.index.result.now)
