use Rattle.std.proofs.Common.{◌≡◌}
use Rattle.keep_ledger.specs.Sums.{AreSums}
use Rattle.keep_backups.proofs.lent.remember.Given as goal

abbrev pub invariant-loop-held : goal.invariant-loop-held
invariant-loop-held g l =
    (g.K.Keeps.ledger l.book ≡ g.K.Keeps.ledger l.initial.book)
    × AreSums (g.K.Keeps.ledger l.book).events (g.K.Keeps.hooks l.book).watches (g.K.Keeps.tallies l.book)
