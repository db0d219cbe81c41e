use Rattle.std.proofs.Common.{◌≡◌, List, ℕ, ap, length, subst, sym, ◌∙◌, arith}
use Rattle.hex.specs.Hex.{IsBytes, encode_lower}
use Rattle.keep_names.proofs.HexPairs.{lower_text, no_text-odd, written_over}
use Rattle.keep_names.proofs.hex_digit.decode_hex.Goals as goal

pub returns-then-text-ne0 : goal.returns-then-text-ne0
returns-then-text-ne0 c = no_text-odd c.args.text.now c.if-text-ne0.true

pub returns-then-not-decode_into : goal.returns-then-not-decode_into
returns-then-not-decode_into c = λ bytes h e.
    let lower = lower_text bytes c.as_bytes.result.now h (e ∙ sym c.as_bytes.ensures.value) in
    cc (sym c.if-not-decode_into.true ∙ c.decode_into.ensures.accepted.1 lower)

pub returns : goal.returns
returns c =
    let fresh = c.decode_into.new.bytes in
    let items = c.in_ok-bytes.bytes.items in
    let same : length c.as_mut_slice.result.now ≡ length items = ap length c.as_mut_slice.ensures.value in
    let whole = written_over fresh items c.in_ok-bytes.bytes.len
    (omega (arith, same, c.decode_into.auto.bytes, c.in_ok-bytes.bytes.ok.0)) (omega (arith, c.in_ok-bytes.bytes.ok.0)) in
    let good = c.if-not-decode_into.false in
    subst (λ (xs : List ℕ). IsBytes xs × (encode_lower xs ≡ c.args.text.now)) (sym whole)
    (c.decode_into.ensures.are_bytes good, c.decode_into.ensures.written good ∙ c.as_bytes.ensures.value)
