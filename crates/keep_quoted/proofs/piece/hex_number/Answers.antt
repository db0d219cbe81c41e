use Rattle.std.proofs.Common.{◌<◌, arith}
use Rattle.keep_quoted.proofs.Numbers.{one_digit_more}
use Rattle.keep_quoted.proofs.piece.hex_number.Goals as goal

pub overflow_mul-value : goal.overflow_mul-value
overflow_mul-value c =
    let few : c.loop-digit.digit-index < 8 = omega arith in
    omega (arith, one_digit_more c.loop-digit.digit-index c.loop-digit.value few c.loop-digit.invariant.0)

pub overflow_add-value : goal.overflow_add-value
overflow_add-value c =
    let few : c.loop-digit.digit-index < 8 = omega arith in
    omega (arith, one_digit_more c.loop-digit.digit-index c.loop-digit.value few c.loop-digit.invariant.0, c.in_ok-value.ensures.value)
