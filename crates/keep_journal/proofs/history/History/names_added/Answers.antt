-- Names stand by number.
use Rattle.std.proofs.Common.{◌-◌, ap, sym, ◌∙◌}
use Rattle.std.specs.Option.{option_copied}
use Rattle.keep_journal.proofs.Standings.{item_copied, names_at, no_names}
use Rattle.keep_journal.proofs.history.History.names_added.Goals as goal

pub returns-then-n-self : goal.returns-then-n-self
returns-then-n-self c = rw (← c.self.view_is) (sym (no_names _ c.args.n c.self.invariant.numbered c.if-n-self.true))

pub returns-in_err-get : goal.returns-in_err-get
returns-in_err-get c =
    let item = item_copied c.self.inside.names.items (c.args.n - c.self.inside.base - 1) c.get.result (rw c.deref.ensures.value at c.get.ensures.lookup) in
    rw (c.from_residual.ensures, ← c.self.view_is)
    (sym (ap option_copied c.in_err-get.was) ∙ item ∙ names_at _ c.self.inside.names.items c.args.n c.self.invariant.numbered c.self.invariant.names c.if-n-self.false)

pub returns : goal.returns
returns c =
    let item = item_copied c.self.inside.names.items (c.args.n - c.self.inside.base - 1) c.get.result (rw c.deref.ensures.value at c.get.ensures.lookup) in
    rw (c.as_slice.ensures, ← c.self.view_is)
    (sym (ap option_copied c.in_ok-get.was) ∙ item ∙ names_at _ c.self.inside.names.items c.args.n c.self.invariant.numbered c.self.invariant.names c.if-n-self.false)
