use Rattle.std.proofs.Common.{sym, ◌∙◌}
use Rattle.keep_catalog.proofs.Relisted.{alike_tells, other_left, same_gone}
use Rattle.keep_catalog.proofs.listings.one_without.Goals as goal

pub returns-then-eq : goal.returns-then-eq
returns-then-eq c = same_gone c.args.first c.args.listing (sym (alike_tells c.args.first c.args.listing) ∙ sym c.eq.ensures ∙ c.if-eq.true)

pub returns : goal.returns
returns c = other_left c.args.first c.args.listing (sym (alike_tells c.args.first c.args.listing) ∙ sym c.eq.ensures ∙ c.if-eq.false)
