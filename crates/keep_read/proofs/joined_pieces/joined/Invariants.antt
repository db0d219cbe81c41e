use Rattle.std.proofs.Common.{◌≡◌, take}
use Rattle.std.specs.List.{flat_map}
use Rattle.keep_read.specs.Contents.{piece_bytes}
use Rattle.keep_read.proofs.joined_pieces.joined.Given as goal

abbrev pub invariant-loop-piece : goal.invariant-loop-piece
invariant-loop-piece l = l.joined.items ≡ flat_map (piece_bytes l.catalog) (take l.piece-index l.content)
