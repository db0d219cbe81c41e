-- Each byte of a SHA-256 is a byte.
use Rattle.std.proofs.Common.{ℕ, zero, suc, ◌<◌, List, slice_index, arith}
use Rattle.std.specs.Int.{byte_at, bytes_high_first, to_be_bytes, w32}
use Rattle.hex.specs.Hex.{IsBytes}
use Rattle.sha2.proofs.Facts256.{length-sha256}
use Rattle.sha2.specs.Sha256.{digest_bytes, sha256}
use Rattle.keep_names.proofs.HexText.{IsBytes-append, IsBytes-cons}
use Rattle.keep_names.specs.Laws.{DigestsAreIds}

byte_at-small : (k n : ℕ) → byte_at k n < 256
byte_at-small zero n = omega arith
byte_at-small (suc k) n = omega arith

IsBytes-bytes_high_first : (k n : ℕ) → IsBytes (bytes_high_first k n)
IsBytes-bytes_high_first zero n = λ i. omega arith
IsBytes-bytes_high_first (suc k) n = IsBytes-cons (byte_at k n) (bytes_high_first k n) (byte_at-small k n) (IsBytes-bytes_high_first k n)

IsBytes-digest_bytes : (h : List ℕ) (n : ℕ) → IsBytes (digest_bytes h n)
unfolding digest_bytes
IsBytes-digest_bytes h zero = λ i. omega arith
IsBytes-digest_bytes h (suc n) =
    IsBytes-append (digest_bytes h n) (to_be_bytes w32 (slice_index h n)) (IsBytes-digest_bytes h n) (IsBytes-bytes_high_first 4 (slice_index h n))

pub digests_are_ids_lem : DigestsAreIds
unfolding sha256
digests_are_ids_lem bytes = (length-sha256 bytes, IsBytes-digest_bytes _ 8)
