use Rattle.std.proofs.Common.{◌≡◌, ◌++◌, drop, map}
use Rattle.keep_moves.specs.Lists.{put_of}
use Rattle.keep_moves.proofs.event_moves.first_moves.Given as goal

abbrev pub invariant-loop-file : goal.invariant-loop-file
invariant-loop-file l = l.moves.items ++ map put_of (drop l.file-index l.change.adds) ≡ map put_of l.change.adds
