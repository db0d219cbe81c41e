use Rattle.std.proofs.Common.{◌≡◌, ◌*◌, length, take, true}
use Rattle.hex.specs.Hex.{encode_lower}
use Rattle.keep_rope.proofs.in_hex.is_hex_of.Given as goal

abbrev pub invariant-loop-pair : goal.invariant-loop-pair
invariant-loop-pair l = l.is_same ≡ true → take (2 * length l.yielded) l.text ≡ encode_lower (take (length l.yielded) l.bytes)
