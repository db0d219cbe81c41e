use Rattle.std.proofs.Common.{rules, arith, ◌≡◌, ◌+◌, ◌*◌, ◌/◌, ◌%◌, ◌<◌, ◌≤◌, ◌∙◌, length-append, [], sym, ap, length, get_or, slice_index_or, refl, true}
use Rattle.std.proofs.lemmas.Slice.Zip.{zip_turn}
use Rattle.std.specs.Simd.{first_chunks}
use Rattle.hex.specs.Hex.{encode_with, lower_digits}
use Rattle.keep_rope.proofs.Digits.{byte_more, digit_at}
use Rattle.keep_rope.proofs.in_hex.is_hex_of.Goals as goal

pub loop-pair-init : goal.loop-pair-init
unfolding encode_with
loop-pair-init c = λ _. refl

pub loop-pair-preserved : goal.loop-pair-preserved
loop-pair-preserved c = λ same.
    let text = c.args.text.now in
    let bytes = c.args.bytes.now in
    let k = length text / 2 in
    let i = length c.loop-pair.yielded in
    let sizes : 2 * length bytes ≤ length text = omega arith in
    let turn = zip_turn (first_chunks 2 k text) bytes c.loop-pair.yielded c.into_iter-pair-iterator.result c.loop-pair.pair-iterator c.next.new.self c.next.result
    (search rules) (search rules) c.loop-pair.yielded_by (c.in-Some.pair, c.in-Some.byte) c.in-Some.is c.next.ensures.steps in
    let parts : (c.loop-pair.is_same ≡ true) × ((slice_index_or c.in-Some.pair.now 0 0 ≡ c.digit_of.result) × (slice_index_or c.in-Some.pair.now 1 0 ≡ c.digit_of-in-loop-pair.result)) = search rules in
    let less : i < length bytes = turn.1 in
    let within : i < k = omega arith in
    let byte : c.in-Some.byte.now ≡ get_or bytes i 0 = turn.3 0 in
    rw length-append (byte_more text bytes i sizes less (c.loop-pair.invariant parts.0)
    (sym (digit_at k text i 0 (2 * i) within (omega arith) (omega arith) (turn.2 [])) ∙ parts.1.0 ∙ c.digit_of.ensures ∙ ap (λ b. get_or lower_digits (b / 16) 0) byte)
    (sym (digit_at k text i 1 (2 * i + 1) within (omega arith) (omega arith) (turn.2 [])) ∙ parts.1.1 ∙ c.digit_of-in-loop-pair.ensures ∙ ap (λ b. get_or lower_digits (b % 16) 0) byte))
