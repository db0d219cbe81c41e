-- One more part, or nothing is changed.
use Rattle.std.proofs.Common.{Option, sym, subst}
use Rattle.keep_backups.specs.Parts.{IsCauseIfAny}
use Rattle.keep_backups.specs.declared.not_backed_up.NotBackedUp.{NotBackedUp}
use Rattle.keep_backups.proofs.Storing.{kept}
use Rattle.keep_backups.proofs.lent.Lent.commit.Goals as goal

pub invariant_of-self : goal.invariant_of-self
invariant_of-self g c = record {
  same = c.args.self.now.same;
  sums = c.commit.ensures.sums;
  parts = kept g.B.Begun.before (g.K.Keeps.ledger c.args.self.now.book.now) (g.K.Keeps.ledger c.commit.new.self) c.args.planned c.commit.result
      c.commit.ensures.made c.commit.ensures.refused c.args.self.now.parts c.requires.part;
  cause = subst (λ (refusal : Option NotBackedUp). ∥ IsCauseIfAny (g.K.Keeps.ledger c.commit.new.self) refusal ∥₁) (sym c.requires.going) ∣ tt ∣₁;
}
