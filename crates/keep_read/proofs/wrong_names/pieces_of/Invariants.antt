use Rattle.std.proofs.Common.{◌≡◌, ◌++◌, drop, map}
use Rattle.keep_read.specs.Hashed.{bytes_of}
use Rattle.keep_read.proofs.wrong_names.pieces_of.Given as goal

abbrev pub invariant-loop-name : goal.invariant-loop-name
invariant-loop-name l = map (λ piece. piece.now) l.pieces.items ++ map (bytes_of l.repo) (drop l.name-index l.names) ≡ map (bytes_of l.repo) l.names
