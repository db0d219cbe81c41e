use Rattle.std.proofs.Common.{◌≡◌, ℕ, map, take}
use Rattle.std.specs.Global.{Vec}
use Rattle.keep_ahead.proofs.hashed.texts_of.Given as goal

abbrev pub invariant-loop-bytes : goal.invariant-loop-bytes
invariant-loop-bytes l =
    map (λ text. text.now) l.texts.items ≡ map (λ (bytes : Vec ℕ). bytes.items) (take l.bytes-index l.pieces)
