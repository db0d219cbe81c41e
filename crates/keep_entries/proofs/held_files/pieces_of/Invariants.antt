use Rattle.std.proofs.Common.{◌≡◌, ◌++◌, drop, map}
use Rattle.keep_entries.proofs.held_files.pieces_of.Given as goal

abbrev pub invariant-loop-file : goal.invariant-loop-file
invariant-loop-file l = map (λ piece. piece.now) l.pieces.items ++ map (λ f. f.bytes) (drop l.file-index l.files) ≡ map (λ f. f.bytes) l.files
