-- The sweep follows, or it doesn't.
use Rattle.std.proofs.Common.{◌∙◌, refl, sym}
use Rattle.keep_acts.proofs.pruning.prune.Goals as goal

pub returns-then-is_let_on-clause-prunes : goal.returns-then-is_let_on-clause-prunes
returns-then-is_let_on-clause-prunes g c = record {
  marked = c.change-mark.new.book;
  marks = c.change-mark.ensures.changes;
  follows = sym c.is_let_on.ensures ∙ c.if-is_let_on.true;
  sweeps = c.change-sweep.ensures.changes;
}

pub returns-clause-prunes : goal.returns-clause-prunes
returns-clause-prunes g c = record {
  marked = c.change-mark.new.book;
  marks = c.change-mark.ensures.changes;
  follows = sym c.is_let_on.ensures ∙ c.if-is_let_on.false;
  sweeps = refl;
}
