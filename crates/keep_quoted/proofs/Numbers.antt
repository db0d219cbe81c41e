-- Hex digits fit: one more below eight.
use Rattle.std.proofs.Common.{ℕ, ◌+◌, ◌*◌, ◌^◌, ◌<◌, ◌≤◌, arith}
use Rattle.std.proofs.Math.Nat.{pow-le-pow_right}

pub one_digit_more : (i value : ℕ) → i < 8 → value < 16 ^ i → value * 16 + 15 < 2 ^ 32
one_digit_more i value few small =
    let seven : i ≤ 7 = omega arith in
    let most : 16 ^ i ≤ 16 ^ 7 = pow-le-pow_right (omega arith) seven in
    omega (arith, most)
