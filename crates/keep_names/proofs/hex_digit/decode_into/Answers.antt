use Rattle.std.proofs.Common.{◌+◌, ◌*◌, ◌<◌, refl, arith}
use Rattle.keep_names.proofs.HexPairs.{encode_lower-pair, lower_text, pairs_done, pairs_more, pairs_start}
use Rattle.keep_names.proofs.hex_digit.decode_into.Goals as goal

pub pairs-init : goal.pairs-init
pairs-init c = pairs_start c.args.digits.now c.args.bytes.now

pub pairs-preserved : goal.pairs-preserved
pairs-preserved c =
    let high = c.digit_value-high.result in
    let low = c.digit_value-low.result in
    let high_fits : high < 16 = omega arith in
    let low_fits : low < 16 = omega arith in
    let pair = encode_lower-pair high low _ _ high_fits low_fits (c.digit_value-high.ensures.value high_fits) (c.digit_value-low.ensures.value low_fits) in
    pairs_more c.args.digits.now c.pairs.bytes c.pairs.i (high * 16 + low) (omega arith) (omega arith) (omega arith) pair c.pairs.invariant

pub returns-clause-accepted : goal.returns-clause-accepted
returns-clause-accepted c =
    let read = pairs_done c.args.digits.now c.pairs.bytes c.pairs.i (omega arith) (omega arith) c.pairs.invariant in
    (λ _. lower_text c.pairs.bytes c.args.digits.now read.0 read.1, λ _. refl)

pub returns-clause-are_bytes : goal.returns-clause-are_bytes
returns-clause-are_bytes c =
    λ _. (pairs_done c.args.digits.now c.pairs.bytes c.pairs.i (omega arith) (omega arith) c.pairs.invariant).0

pub returns-clause-written : goal.returns-clause-written
returns-clause-written c =
    λ _. (pairs_done c.args.digits.now c.pairs.bytes c.pairs.i (omega arith) (omega arith) c.pairs.invariant).1
