use Rattle.std.proofs.Common.{◌≡◌, map, take}
use Rattle.keep_names.specs.Sha256.{sha256}
use Rattle.keep_ahead.proofs.hashed.known_ids.Given as goal

abbrev pub invariant-loop-piece : goal.invariant-loop-piece
invariant-loop-piece l = map (λ id. id.0) l.ids.items ≡ map (λ piece. sha256 piece.now) (take l.piece-index l.pieces)
