-- Entries of a header: what is written of them is what is read, and the other way round.
use Rattle.std.proofs.Common.{◌≡◌, ℕ, zero, suc, ◌+◌, ◌*◌, ◌<◌, ◌≤◌, ◌^◌, false, ltb, List, []}
use Rattle.std.proofs.Common.{◌∷◌, ◌++◌}
use Rattle.std.proofs.Common.{length, take, drop, map, refl, sym, ap, ◌∙◌, arith, inl, inr}
use Rattle.std.specs.Int.{w32, to_le_bytes, from_le_bytes}
use Rattle.std.specs.List.{AllByRecursion, flat_map, list_any, sum_by}
use Rattle.std.specs.Simd.{first_chunks}
use Rattle.std.proofs.lemmas.Bool.{cases_lt, ltb-false, or_parts}
use Rattle.std.proofs.lemmas.List.{take_at, drop_at, length-append, length-take, length-drop, get_or-take}
use Rattle.std.proofs.lemmas.List.{get_or-drop, get_or_past}
use Rattle.std.proofs.lemmas.List.Sums.{sum_by-cons}
use Rattle.std.proofs.lemmas.Nat.{le_bytes_4, from_le_bytes-to_le_bytes_4}
use Rattle.std.proofs.Math.Seq.{take-add}
use Rattle.keep_names.specs.declared.blob.BlobType.{BlobType}
use Rattle.keep_names.specs.declared.blob.BlobType.TheVariants.{Content, Tree}
use Rattle.keep_pack.specs.Pack.{Entry, type_byte, entry_bytes, HasEntry}
use Rattle.keep_pack.specs.Reading.{IsBytes, type_of, has_bad_type, length_in, listed_in}

-- ---- one entry

pub length-entry_bytes : (l : Entry) → HasEntry l → length (entry_bytes l) ≡ 37
length-entry_bytes l h = omega (arith, h.0)

type_of-type_byte : (t : BlobType) → type_of (type_byte t) ≡ t
type_of-type_byte Content = refl
type_of-type_byte Tree = refl

type_byte-type_of : (byte : ℕ) → ltb 1 byte ≡ false → type_byte (type_of byte) ≡ byte
type_byte-type_of zero h = refl
type_byte-type_of (suc zero) h = refl
type_byte-type_of (suc (suc byte)) h =
    absurd (let le : suc (suc byte) ≤ 1 = ltb-false 1 (suc (suc byte)) h in omega arith)

type_known : (t : BlobType) → ltb 1 (type_byte t) ≡ false
type_known Content = refl
type_known Tree = refl

pub length_in-entry_bytes : (l : Entry) → HasEntry l → length_in (entry_bytes l) ≡ l.length
length_in-entry_bytes l h = from_le_bytes-to_le_bytes_4 l.length h.1

abbrev listed_by : Entry → BlobType → ℕ → Entry
listed_by l t n = record { blob = record { id = l.blob.id; blob_type = t }; length = n }

pub listed_in-entry_bytes : (l : Entry) → HasEntry l → listed_in (entry_bytes l) ≡ l
listed_in-entry_bytes l h =
    ap (λ (t : BlobType). listed_by l t (length_in (entry_bytes l))) (type_of-type_byte l.blob.blob_type)
    ∙ ap (λ (n : ℕ). listed_by l l.blob.blob_type n) (length_in-entry_bytes l h)

-- what an entry's 37 bytes say is written with the same bytes
pub entry_bytes-listed_in : (raw : List ℕ) → length raw ≡ 37 → IsBytes raw → has_bad_type raw ≡ false
    → entry_bytes (listed_in raw) ≡ raw
entry_bytes-listed_in [] len fits known = absurd (omega arith)
entry_bytes-listed_in (a ∷ []) len fits known = absurd (omega arith)
entry_bytes-listed_in (a ∷ b ∷ []) len fits known = absurd (omega arith)
entry_bytes-listed_in (a ∷ b ∷ c ∷ []) len fits known = absurd (omega arith)
entry_bytes-listed_in (a ∷ b ∷ c ∷ d ∷ []) len fits known = absurd (omega arith)
entry_bytes-listed_in (a ∷ b ∷ c ∷ d ∷ e ∷ id) len fits known =
    let number = b ∷ c ∷ d ∷ e ∷ [] in
    let n = from_le_bytes w32 number in
    let same : to_le_bytes w32 n ≡ number =
    le_bytes_4 number n refl (number_fits a b c d e id fits) refl in
    ap (λ (t : ℕ). t ∷ (to_le_bytes w32 n ++ id)) (type_byte-type_of a known)
    ∙ ap (λ (bs : List ℕ). a ∷ (bs ++ id)) same
  where
    number_fits : (a b c d e : ℕ) (id : List ℕ) → IsBytes (a ∷ b ∷ c ∷ d ∷ e ∷ id)
        → IsBytes (b ∷ c ∷ d ∷ e ∷ [])
    number_fits a b c d e id fits zero = fits 1
    number_fits a b c d e id fits (suc zero) = fits 2
    number_fits a b c d e id fits (suc (suc zero)) = fits 3
    number_fits a b c d e id fits (suc (suc (suc zero))) = fits 4
    number_fits a b c d e id fits (suc (suc (suc (suc i)))) = omega arith

-- ---- entries one after the other

pub length-entries : (ls : List Entry) → AllByRecursion HasEntry ls
    → length (flat_map entry_bytes ls) ≡ 37 * length ls
length-entries [] h = refl
length-entries (l ∷ ls) h =
    omega (
      arith,
      length-append (entry_bytes l) (flat_map entry_bytes ls),
      length-entry_bytes l h.0,
      length-entries ls h.1,
    )

first_chunks-cons : (x xs : List ℕ) (n k : ℕ) → length x ≡ n
    → first_chunks n (suc k) (x ++ xs) ≡ x ∷ first_chunks n k xs
first_chunks-cons x xs n k len =
    ap (λ (c : List ℕ). c ∷ first_chunks n k (drop n (x ++ xs))) (take_at x xs n len)
    ∙ ap (λ (ys : List ℕ). x ∷ first_chunks n k ys) (drop_at x xs n len)

pub first_chunks-entries : (ls : List Entry) → AllByRecursion HasEntry ls
    → first_chunks 37 (length ls) (flat_map entry_bytes ls) ≡ map entry_bytes ls
first_chunks-entries [] h = refl
first_chunks-entries (l ∷ ls) h =
    first_chunks-cons (entry_bytes l) (flat_map entry_bytes ls) 37 (length ls) (length-entry_bytes l h.0)
    ∙ ap (λ (cs : List (List ℕ)). entry_bytes l ∷ cs) (first_chunks-entries ls h.1)

pub map-listed_in : (ls : List Entry) → AllByRecursion HasEntry ls → map listed_in (map entry_bytes ls) ≡ ls
map-listed_in [] h = refl
map-listed_in (l ∷ ls) h =
    ap (λ (x : Entry). x ∷ map listed_in (map entry_bytes ls)) (listed_in-entry_bytes l h.0)
    ∙ ap (λ (xs : List Entry). l ∷ xs) (map-listed_in ls h.1)

pub types_known : (ls : List Entry) → list_any has_bad_type (map entry_bytes ls) ≡ false
types_known [] = refl
types_known (l ∷ ls) = rw (type_known l.blob.blob_type) (types_known ls)

pub sum-entries : (ls : List Entry) → AllByRecursion HasEntry ls
    → sum_by length_in (map entry_bytes ls) ≡ sum_by (λ l. l.length) ls
sum-entries [] h = refl
sum-entries (l ∷ ls) h =
    omega (
      arith,
      sum_by-cons length_in (entry_bytes l) (map entry_bytes ls),
      sum_by-cons (λ (l : Entry). l.length) l ls,
      length_in-entry_bytes l h.0,
      sum-entries ls h.1,
    )

-- ---- entries as they stand

pub IsBytes-take : (n : ℕ) (bytes : List ℕ) → IsBytes bytes → IsBytes (take n bytes)
IsBytes-take n bytes fits i =
    elim (cases_lt i n) [
      | inl lt ↦ rw (get_or-take n bytes i 0 lt) (fits i)
      | inr le ↦ rw (get_or_past (take n bytes) i 0 (omega (arith, length-take n bytes))) (omega arith)
    ]

pub IsBytes-drop : (n : ℕ) (bytes : List ℕ) → IsBytes bytes → IsBytes (drop n bytes)
IsBytes-drop n bytes fits i = rw get_or-drop (fits (n + i))

pub length-first_chunks : (n k : ℕ) (xs : List ℕ) → length (first_chunks n k xs) ≡ k
length-first_chunks n zero xs = refl
length-first_chunks n (suc k) xs = ap suc (length-first_chunks n k (drop n xs))

-- whole entries of known types are written again as they stand
pub record Rewritten (k : ℕ) (xs : List ℕ) : Type 0 where
  pub bytes : flat_map entry_bytes (map listed_in (first_chunks 37 k xs)) ≡ take (37 * k) xs
  pub entries : AllByRecursion HasEntry (map listed_in (first_chunks 37 k xs))

pub below_2_32 : (bytes : List ℕ) → IsBytes bytes → from_le_bytes w32 bytes < 2 ^ 32
below_2_32 bytes fits = omega (arith, fits 0, fits 1, fits 2, fits 3)

pub rewritten : (k : ℕ) (xs : List ℕ) → IsBytes xs → 37 * k ≤ length xs
    → list_any has_bad_type (first_chunks 37 k xs) ≡ false → Rewritten k xs
rewritten zero xs fits le known = record { bytes = refl; entries = tt }
rewritten (suc k) xs fits le known =
    let raw = take 37 xs in
    let parts = or_parts (has_bad_type raw) (list_any has_bad_type (first_chunks 37 k (drop 37 xs))) known in
    let len : length raw ≡ 37 = omega (arith, length-take 37 xs) in
    let le_rest : 37 * k ≤ length (drop 37 xs) = omega (arith, length-drop 37 xs) in
    let rest = rewritten k (drop 37 xs) (IsBytes-drop 37 xs fits) le_rest parts.1 in
    let later = flat_map entry_bytes (map listed_in (first_chunks 37 k (drop 37 xs))) in
    let number_fits = IsBytes-take 4 (drop 1 raw) (IsBytes-drop 1 raw (IsBytes-take 37 xs fits)) in
    let first = entry_bytes-listed_in raw len (IsBytes-take 37 xs fits) parts.0 in
    let more : 37 * suc k ≡ 37 + 37 * k = omega arith in
    record {
      bytes = ap (λ (b : List ℕ). b ++ later) first
          ∙ ap (λ (bs : List ℕ). raw ++ bs) rest.bytes ∙ sym (take-add 37 (37 * k) xs)
          ∙ ap (λ (n : ℕ). take n xs) (sym more);
      entries = ((omega (arith, length-drop 5 raw), below_2_32 (take 4 (drop 1 raw)) number_fits), rest.entries);
    }
