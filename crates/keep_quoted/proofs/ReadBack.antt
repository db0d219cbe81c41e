-- A quoted name reads back, chunk by chunk.
use Rattle.std.proofs.Common.{◌≡◌, ℕ, zero, suc, ◌+◌, ◌≤◌, Bool, true, false, cond, List, [], ◌++◌, length, take, drop, Some, refl, sym, ap, ◌∙◌, subst, append-nil, arith, nat_lt}
use mathlib.Core.Logic.{⊎_elim}
use lib.Seq.{take-length}
use Rattle.core.proofs.str.Laws.{order}
use Rattle.core.proofs.str.Lossy.{length-after_first_chunk}
use Rattle.std.proofs.lemmas.Bool.{and_parts}
use Rattle.std.proofs.lemmas.List.{drop-drop, take-append-drop}
use Rattle.std.proofs.lemmas.List.Folds.{list_all-append}
use Rattle.std.proofs.lemmas.Str.{IsUtf8-from_is_utf8, IsUtf8-nil, utf8_valid_len_le}
use Rattle.std.specs.Str.{IsUtf8, is_utf8}
use Rattle.std.specs.Str.Lossy.{after_first_chunk, utf8_invalid_len, utf8_valid_len, valid_len_up_to}
use Rattle.keep_quoted.specs.Quote.{are_bytes, bytes_quoted, quoted, quoted_within, text_quoted}
use Rattle.keep_quoted.specs.Unquote.{unquoted}
use Rattle.keep_quoted.proofs.Chunks.{within_fault, within_text}
use Rattle.keep_quoted.proofs.Pieces.{bytes_back, text_back}
use Rattle.keep_quoted.proofs.Skipped.{before}

front_at : (b : Bool) (bs : List ℕ) (m : ℕ) → is_utf8 (take (suc m) bs) ≡ b → IsUtf8 (take (valid_len_up_to bs m) bs)
    → IsUtf8 (take (cond b (suc m) (valid_len_up_to bs m)) bs)
front_at true bs m is below = IsUtf8-from_is_utf8 _ is
front_at false bs m is below = below

front_up_to : (bs : List ℕ) (m : ℕ) → IsUtf8 (take (valid_len_up_to bs m) bs)
front_up_to bs zero = IsUtf8-nil
front_up_to bs (suc m) = front_at (is_utf8 (take (suc m) bs)) bs m refl (front_up_to bs m)

-- the front of bytes up to where they aren't UTF-8 is
pub front_text : (bs : List ℕ) → IsUtf8 (take (utf8_valid_len bs) bs)
unfolding utf8_valid_len
front_text bs = front_up_to bs (length bs)

pub whole_text : (bs : List ℕ) → utf8_valid_len bs ≡ length bs → IsUtf8 bs
whole_text bs whole = subst IsUtf8 (ap (λ n. take n bs) whole ∙ take-length bs) (front_text bs)

as_text : (bs : List ℕ) → utf8_valid_len bs ≡ length bs → unquoted (text_quoted bs) ≡ Some bs
as_text bs whole =
    ap unquoted (sym (append-nil (text_quoted bs))) ∙ text_back bs [] (whole_text bs whole) ∙ ap (λ t. Some t) (append-nil bs)

-- what stands before some bytes and behind them is of bytes
behind_bytes : (n : ℕ) (bs : List ℕ) → are_bytes bs ≡ true → (are_bytes (take n bs) ≡ true) × (are_bytes (drop n bs) ≡ true)
behind_bytes n bs ok =
    and_parts (are_bytes (take n bs)) (are_bytes (drop n bs))
    (sym (list_all-append (λ b. nat_lt b 256) (take n bs) (drop n bs)) ∙ ap are_bytes (take-append-drop n bs) ∙ ok)

pieces : (one other rest bs text : List ℕ) → bs ≡ one ++ (other ++ rest) → unquoted text ≡ Some rest
    → before one (before other (unquoted text)) ≡ Some bs
pieces one other rest bs text parts is = ap (λ found. before one (before other found)) is ∙ ap (λ t. Some t) (sym parts)

parted : (bs : List ℕ) → bs ≡ take (utf8_valid_len bs) bs
    ++ (take (utf8_invalid_len (drop (utf8_valid_len bs) bs)) (drop (utf8_valid_len bs) bs) ++ after_first_chunk bs)
parted bs =
    let n = utf8_valid_len bs in
    let behind = drop n bs in
    let k = utf8_invalid_len behind in
    sym (take-append-drop n bs)
    ∙ ap (λ t. take n bs ++ t) (sym (take-append-drop k behind) ∙ ap (λ t. take k behind ++ t) (drop-drop k n bs))

within_back : (k : ℕ) (bs : List ℕ) → length bs ≤ k → are_bytes bs ≡ true → unquoted (quoted_within k bs) ≡ Some bs
within_back zero bs few ok = let within = utf8_valid_len_le bs in as_text bs (omega arith)
within_back (suc k) bs few ok = ⊎_elim
    (λ short.
    let faulty : ¬ (utf8_valid_len bs ≡ length bs) = omega arith in
    let less = length-after_first_chunk bs faulty in
    let n = utf8_valid_len bs in
    let behind = drop n bs in
    let inv = take (utf8_invalid_len behind) behind in
    let rest = after_first_chunk bs in
    let tail = behind_bytes n bs ok in
    let inv_ok = (behind_bytes (utf8_invalid_len behind) behind tail.1).0 in
    let rest_ok = (behind_bytes (n + utf8_invalid_len behind) bs ok).1 in
    let text = quoted_within k rest in
    ap unquoted (within_fault k bs faulty)
    ∙ text_back (take n bs) (bytes_quoted inv ++ text) (front_text bs)
    ∙ ap (before (take n bs)) (bytes_back inv text inv_ok)
    ∙ pieces (take n bs) inv rest bs text (parted bs) (within_back k rest (omega arith) rest_ok))
    (λ whole. let within = utf8_valid_len_le bs in let full : utf8_valid_len bs ≡ length bs = omega arith in
    ap unquoted (within_text (suc k) bs full) ∙ as_text bs full)
    (order (utf8_valid_len bs) (length bs))

pub name_back : (bs : List ℕ) → are_bytes bs ≡ true → unquoted (quoted bs) ≡ Some bs
unfolding quoted
name_back bs ok = within_back (length bs) bs (omega arith) ok

-- a text that stands for itself is quoted of itself alone
pub quoted_of_itself : (bs text : List ℕ) → are_bytes bs ≡ true → unquoted text ≡ Some text → quoted bs ≡ text → bs ≡ text
quoted_of_itself bs text ok itself is =
    let back = name_back bs ok in
    let same : Some bs ≡ Some text = sym back ∙ ap unquoted is ∙ itself in
    cc
