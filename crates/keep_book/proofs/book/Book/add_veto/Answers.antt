-- Its name is none of those that are armed.
use Rattle.std.proofs.Common.{◌∙◌, refl, sym}
use Rattle.keep_hooks.specs.Rules.{rule_of}
use Rattle.keep_book.specs.Armed.{hooks_of}
use Rattle.keep_book.proofs.Naming.{behind, once_with_veto}
use Rattle.keep_book.proofs.book.Book.add_veto.Goals as goal

pub invariant_of-self : goal.invariant_of-self
invariant_of-self g c = rw c.reserve.ensures.items (record { names = c.args.self.now.hooks.names })

pub invariant_of-self-2 : goal.invariant_of-self-2
invariant_of-self-2 g c =
    let before = c.args.self.now in
    let single = rw c.as_str.ensures.value at (sym c.is_armed.ensures.exact ∙ c.if-is_armed.false) in
    record {
      names = rw (behind rule_of before.hooks.vetoes.items _ _ c.args.veto _ c.push_reserved.ensures.items c.reserve.ensures.items refl)
          (once_with_veto (rule_of c.args.veto) (hooks_of before) single before.hooks.names);
    }
