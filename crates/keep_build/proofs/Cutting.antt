-- Where the first pack ends, and how many blobs it has.
use Rattle.std.proofs.Common.{◌≡◌, ℕ, suc, zero, ◌+◌, ◌-◌, ◌*◌, ◌^◌, ◌<◌, ◌≤◌, ◌==◌, Bool, true, false, cond, nat_le, List, [], ◌∷◌, length, take, drop, ap, ◌∙◌, arith}
use Rattle.std.specs.List.{count_by}
use Rattle.std.proofs.lemmas.Bool.Decides.{nat_tests}
use Rattle.std.proofs.lemmas.List.{length-take-le}
use Rattle.std.proofs.lemmas.List.Sums.{sum_by-cons, sum_by-take-le}
use Rattle.keep_build.specs.Blobs.{BlobData}
use Rattle.keep_build.specs.Packs.{bytes_in, full_pack, packs_from, put_before}

-- no bytes
abbrev pub is_empty : BlobData → Bool
is_empty blob = length blob.1 == 0

abbrev size : BlobData → ℕ
size blob = length blob.1

one_more : (b : BlobData) (bs : List BlobData) → bytes_in (b ∷ bs) ≡ length b.1 + bytes_in bs
one_more b bs = sum_by-cons size b bs

le_true : (a b : ℕ) → a ≤ b → nat_le a b ≡ true
le_true a b h = grind (arith, nat_tests)

le_false : (a b : ℕ) → b < a → nat_le a b ≡ false
le_false a b h = grind (arith, nat_tests)

then_is : {A : Type 0} (t : Bool) (x y : A) → t ≡ true → cond t x y ≡ x
then_is t x y h = ap (λ b. cond b x y) h

else_is : {A : Type 0} (t : Bool) (x y : A) → t ≡ false → cond t x y ≡ y
else_is t x y h = ap (λ b. cond b x y) h

-- the first pack ends where the bytes so far are enough
pub cut_at : (lacks : ℕ) (blobs : List BlobData) (k : ℕ) → k < length blobs → bytes_in (take k blobs) < lacks → lacks ≤ bytes_in (take (suc k) blobs)
    → packs_from lacks blobs ≡ take (suc k) blobs ∷ packs_from full_pack (drop (suc k) blobs)
cut_at lacks [] k within before after = absurd (omega arith)
cut_at lacks (b ∷ bs) zero within before after =
    let all : bytes_in (b ∷ []) ≡ length b.1 + 0 = one_more b [] in
    then_is (nat_le lacks (length b.1)) _ _ (le_true lacks (length b.1) (omega arith))
cut_at lacks (b ∷ bs) (suc k) within before after =
    let front : bytes_in (b ∷ take k bs) ≡ length b.1 + bytes_in (take k bs) = one_more b (take k bs) in
    let all : bytes_in (b ∷ take (suc k) bs) ≡ length b.1 + bytes_in (take (suc k) bs) = one_more b (take (suc k) bs) in
    let here : k < length bs = omega arith in
    let low : bytes_in (take k bs) < lacks - length b.1 = omega arith in
    let high : lacks - length b.1 ≤ bytes_in (take (suc k) bs) = omega arith in
    else_is (nat_le lacks (length b.1)) _ _ (le_false lacks (length b.1) (omega arith))
    ∙ ap (put_before b) (cut_at (lacks - length b.1) bs k here low high)

-- blobs that aren't enough are one pack
pub uncut : (lacks : ℕ) (b : BlobData) (bs : List BlobData) → bytes_in (b ∷ bs) < lacks → packs_from lacks (b ∷ bs) ≡ (b ∷ bs) ∷ []
uncut lacks b [] low =
    let all : bytes_in (b ∷ []) ≡ length b.1 + 0 = one_more b [] in
    else_is (nat_le lacks (length b.1)) _ _ (le_false lacks (length b.1) (omega arith))
uncut lacks b (x ∷ xs) low =
    let all : bytes_in (b ∷ x ∷ xs) ≡ length b.1 + bytes_in (x ∷ xs) = one_more b (x ∷ xs) in
    let rest : bytes_in (x ∷ xs) < lacks - length b.1 = omega arith in
    else_is (nat_le lacks (length b.1)) _ _ (le_false lacks (length b.1) (omega arith))
    ∙ ap (put_before b) (uncut (lacks - length b.1) x xs rest)

-- each blob that isn't empty has a byte at least
byte_each : (n l s k : ℕ) → l ≤ s + k → suc l ≤ (n + s) + (cond (n == 0) 1 0 + k)
byte_each n l s k h = grind (arith, nat_tests)

pub count_bytes : (blobs : List BlobData) → length blobs ≤ bytes_in blobs + count_by is_empty blobs
count_bytes [] = omega arith
count_bytes (b ∷ bs) =
    let step : suc (length bs) ≤ (length b.1 + bytes_in bs) + (cond (length b.1 == 0) 1 0 + count_by is_empty bs) =
    byte_each (length b.1) (length bs) (bytes_in bs) (count_by is_empty bs) (count_bytes bs) in
    let bytes : bytes_in (b ∷ bs) ≡ length b.1 + bytes_in bs = one_more b bs in
    let empties : count_by is_empty (b ∷ bs) ≡ cond (length b.1 == 0) 1 0 + count_by is_empty bs = sum_by-cons (λ x. cond (is_empty x) 1 0) b bs in
    omega arith

-- the header of a pack can say how long it is
pub header_fits : (blobs : List BlobData) → 0 < length blobs → bytes_in (take (length blobs - 1) blobs) < full_pack → count_by is_empty blobs ≤ 1 → 37 * length blobs < 2 ^ 32
header_fits blobs some front few =
    let n : ℕ = length blobs - 1 in
    let count : length (take n blobs) ≡ n = length-take-le n blobs (omega arith) in
    let least : length (take n blobs) ≤ bytes_in (take n blobs) + count_by is_empty (take n blobs) = count_bytes (take n blobs) in
    let fewer : count_by is_empty (take n blobs) ≤ count_by is_empty blobs = sum_by-take-le (λ x. cond (is_empty x) 1 0) blobs n in
    omega arith
