use Rattle.std.proofs.Common.{◌≡◌, ◌++◌, drop, map}
use Rattle.keep_moves.specs.Lists.{back_of}
use Rattle.keep_moves.proofs.event_moves.push_back.Given as goal

abbrev pub invariant-loop-file : goal.invariant-loop-file
invariant-loop-file l = l.moves.items ++ map (back_of l.n) (drop l.file-index l.files) ≡ l.initial.moves.items ++ map (back_of l.n) l.files
