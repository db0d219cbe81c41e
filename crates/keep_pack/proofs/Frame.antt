-- Where the blobs, the header and its length stand in a pack.
use Rattle.std.proofs.Common.{◌≡◌, ℕ, ◌+◌, ◌-◌, ◌*◌, ◌/◌, ◌%◌, ◌≤◌, false, eqb, ltb, List, ◌++◌}
use Rattle.std.proofs.Common.{length, take, drop, sym, ap, subst, ◌∙◌, append_assoc, arith}
use Rattle.std.specs.Prelude.{not}
use Rattle.std.specs.Int.{w32, from_le_bytes}
use Rattle.std.proofs.lemmas.Bool.{ltb-false, le-ltb, eqb-true, not-false, or_parts}
use Rattle.std.proofs.lemmas.List.{take_at, drop_at, length-append, length-drop}
use Rattle.std.proofs.lemmas.List.{take-append-drop}
use Rattle.keep_pack.specs.Reading.{is_short, header_length, before_length, has_bad_header_length, blobs_in}
use Rattle.keep_pack.specs.Reading.{header_in}

-- the pack's blobs are in these bytes, and its header is this one
pub record Framed (pack blobs header : List ℕ) : Type 0 where
  pub long : is_short pack ≡ false
  pub said : header_length pack ≡ length header
  pub room : length (before_length pack) ≡ length blobs + length header
  pub front : blobs_in pack ≡ blobs
  pub back : header_in pack ≡ header

framed_so : (blobs header tail : List ℕ) → length tail ≡ 4 → from_le_bytes w32 tail ≡ length header
    → Framed ((blobs ++ header) ++ tail) blobs header
framed_so blobs header tail four says =
    let before = blobs ++ header in
    let pack = before ++ tail in
    let len : length pack ≡ length before + 4 = omega (arith, length-append before tail) in
    let end : length before ≡ length pack - 4 = omega arith in
    let tail_is : drop (length pack - 4) pack ≡ tail = drop_at before tail (length pack - 4) end in
    let before_is : before_length pack ≡ before = take_at before tail (length pack - 4) end in
    let said : header_length pack ≡ length header = ap (from_le_bytes w32) tail_is ∙ says in
    let room : length (before_length pack) ≡ length blobs + length header =
    ap length before_is ∙ length-append blobs header in
    let cut = length (before_length pack) - header_length pack in
    let cut_is : length blobs ≡ cut = omega (arith, said, room) in
    record {
      long = le-ltb (length pack) 4 (omega arith);
      said = said;
      room = room;
      front = ap (take cut) before_is ∙ take_at blobs header cut cut_is;
      back = ap (drop cut) before_is ∙ drop_at blobs header cut cut_is;
    }

pub framed : (pack blobs header tail : List ℕ) → pack ≡ blobs ++ (header ++ tail) → length tail ≡ 4
    → from_le_bytes w32 tail ≡ length header → Framed pack blobs header
framed pack blobs header tail whole four says =
    subst (λ (bytes : List ℕ). Framed bytes blobs header) (append_assoc blobs header tail ∙ sym whole)
    (framed_so blobs header tail four says)

-- a pack whose header's length is sound is its blobs, its header and that length
pub record Sound (pack : List ℕ) : Type 0 where
  pub whole : pack ≡ blobs_in pack ++ (header_in pack ++ drop (length pack - 4) pack)
  pub tail : length (drop (length pack - 4) pack) ≡ 4
  pub said : header_length pack ≡ length (header_in pack)
  pub entries : length (header_in pack) ≡ 37 * (length (header_in pack) / 37)

pub sound : (pack : List ℕ) → is_short pack ≡ false → has_bad_header_length pack ≡ false → Sound pack
sound pack long fine =
    let before = before_length pack in
    let n = header_length pack in
    let m = length before - n in
    let four : 4 ≤ length pack = ltb-false (length pack) 4 long in
    let parts = or_parts (not (eqb (n % 37) 0)) (ltb (length before) n) fine in
    let whole_entries : n % 37 ≡ 0 = eqb-true (n % 37) 0 (not-false (eqb (n % 37) 0) parts.0) in
    let room : n ≤ length before = ltb-false (length before) n parts.1 in
    let said : n ≡ length (header_in pack) = omega (arith, length-drop m before) in
    let split : before ≡ blobs_in pack ++ header_in pack = sym (take-append-drop m before) in
    record {
      whole = sym (take-append-drop (length pack - 4) pack)
          ∙ ap (λ (bytes : List ℕ). bytes ++ drop (length pack - 4) pack) split
          ∙ append_assoc (blobs_in pack) (header_in pack) (drop (length pack - 4) pack);
      tail = omega (arith, length-drop (length pack - 4) pack);
      said = said;
      entries = rw (← said) (omega arith);
    }
