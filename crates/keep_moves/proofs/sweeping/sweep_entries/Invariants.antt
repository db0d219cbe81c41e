use Rattle.std.proofs.Common.{◌≡◌, ◌++◌, drop, map}
use Rattle.keep_moves.specs.Notices.{silenced_keys}
use Rattle.keep_moves.specs.declared.moves.Move.TheVariants.{Erase}
use Rattle.keep_moves.proofs.sweeping.sweep_entries.Given as goal

abbrev pub invariant-loop-notice : goal.invariant-loop-notice
invariant-loop-notice l =
    l.moves.items ++ map Erase (silenced_keys l.final_number l.n (drop l.notice-index l.notices))
    ≡ l.initial.moves.items ++ map Erase (silenced_keys l.final_number l.n l.notices)
