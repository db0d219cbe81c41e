-- Nothing was committed yet.
use Rattle.keep_backups.proofs.Storing.{none_yet}
use Rattle.keep_backups.proofs.backing_up.filled.Goals as goal

pub invariant_of-lent : goal.invariant_of-lent
invariant_of-lent g c = record {
  same = c.requires.name;
  sums = c.requires.sums;
  parts = ∣ none_yet g.B.Begun.before (g.K.Keeps.ledger c.args.given.book.now) c.requires.before ∣₁;
  cause = ∣ tt ∣₁;
}
