use Rattle.std.proofs.Common.{◌≡◌, ◌<◌, ◌^◌, drop}
use Rattle.keep_quoted.specs.Unquote.{number_in}
use Rattle.keep_quoted.proofs.piece.hex_number.Given as goal

abbrev pub invariant-loop-digit : goal.invariant-loop-digit
invariant-loop-digit l = (l.value < 16 ^ l.digit-index) × (number_in 16 l.value (drop l.digit-index l.digits) ≡ number_in 16 0 l.digits)
