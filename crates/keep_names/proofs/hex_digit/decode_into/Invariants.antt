use Rattle.keep_names.proofs.HexPairs.{AreRead}
use Rattle.keep_names.proofs.hex_digit.decode_into.Given as goal

abbrev pub invariant-pairs : goal.invariant-pairs
invariant-pairs l = AreRead l.digits l.bytes l.i
