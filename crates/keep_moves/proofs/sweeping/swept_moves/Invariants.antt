use Rattle.std.proofs.Common.{◌≡◌, ◌++◌, map}
use Rattle.std.specs.List.{flat_map}
use Rattle.keep_journal.specs.History.{final_number}
use Rattle.keep_moves.specs.Lists.{made_final, trash_of}
use Rattle.keep_moves.specs.declared.moves.Move.TheVariants.{Erase}
use Rattle.keep_moves.proofs.sweeping.swept_moves.Given as goal

abbrev pub invariant-loop-before : goal.invariant-loop-before
invariant-loop-before l =
    l.moves.items ++ map Erase (flat_map (trash_of l.history.journal) (made_final l.history.journal l.before l.n))
    ≡ map Erase (flat_map (trash_of l.history.journal) (made_final l.history.journal (final_number l.history.journal) l.n))
