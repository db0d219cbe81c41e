-- The pieces of a file, one by one.
use Rattle.std.proofs.Common.{◌≡◌, ℕ, zero, suc, ◌+◌, ◌-◌, ◌*◌, ◌/◌, ◌<◌, ◌≤◌, min, List, [], ◌∷◌, ◌++◌, length, map, take, drop, sym, ap, ap₂, ◌∙◌, append_assoc, append-nil, le-mul_of_pos_right, ⊎_elim, arith}
use Rattle.std.proofs.Math.Nat.{add-div_right}
use Rattle.std.proofs.lemmas.List.{drop_all, drop_at, length-append, nil_from_length, take_at, take_all}
use Rattle.std.proofs.lemmas.Bool.{cases_lt}
use Rattle.std.proofs.lemmas.Nat.{div_below, le-div}
use Rattle.std.specs.Simd.{first_chunks}
use Rattle.std.specs.Slice.Iter.{chunk_count}
use Rattle.keep_names.specs.declared.blob.BlobType.TheVariants.{Content}
use Rattle.keep_build.specs.Blobs.{BlobData, id_of}
use Rattle.keep_names.specs.declared.id.Id.{Id}
use Rattle.keep_backup.specs.Walk.{pieces_of}

-- ---- how many there are

grown : (n k : ℕ) → 0 < k → suc n + k - 1 < (suc n + 1) * k
grown n k pos =
    let one : n + 1 ≤ (n + 1) * k = le-mul_of_pos_right (n + 1) pos in
    let e : (suc n + 1) * k ≡ (n + 1) * k + k = omega arith in
    omega arith

-- so many items make at most as many parts
few : (n k : ℕ) → 0 < k → (n + k - 1) / k ≤ n
few zero k pos = let below : (zero + k - 1) / k < 1 = div_below (zero + k - 1) k 1 pos (omega arith) in omega arith
few (suc n) k pos =
    let nk : suc n + k - 1 < (suc n + 1) * k = grown n k pos in
    let below : (suc n + k - 1) / k < suc n + 1 = div_below (suc n + k - 1) k (suc n + 1) pos nk in omega arith

-- a whole part more
whole_more : (m k : ℕ) → 0 < k → chunk_count (m + k) k ≡ suc (chunk_count m k)
whole_more m k pos =
    let e : m + k + k - 1 ≡ (m + k - 1) + k = omega arith in
    let q : (m + k + k - 1) / k ≡ (m + k - 1) / k + 1 = ap (λ n. n / k) e ∙ add-div_right (m + k - 1) pos in
    let f : (m + k - 1) / k ≤ m = few m k pos in
    omega arith

-- a last part that is short
short_more : (n k : ℕ) → 0 < n → n < k → chunk_count n k ≡ suc (chunk_count 0 k)
short_more n k pos lt =
    let low : 1 ≤ (n + k - 1) / k = le-div 1 (n + k - 1) k (omega arith) (omega arith) in
    let high : (n + k - 1) / k < 2 = div_below (n + k - 1) k 2 (omega arith) (omega arith) in
    omega arith

count_more : (n m k l : ℕ) → 0 < k → 0 < n → n ≡ l + m → l ≡ min k n → chunk_count n k ≡ suc (chunk_count m k)
count_more n m k l pos some e is = ⊎_elim short whole (cases_lt n k) where
  short : n < k → chunk_count n k ≡ suc (chunk_count m k)
  short lt = let none : 0 ≡ m = omega arith in short_more n k some lt ∙ ap (λ x. suc (chunk_count x k)) none

  whole : k ≤ n → chunk_count n k ≡ suc (chunk_count m k)
  whole le = let full : n ≡ m + k = omega arith in ap (λ x. chunk_count x k) full ∙ whole_more m k pos

-- ---- the first

pub no_pieces : (cut : ℕ) (bytes : List ℕ) → length bytes ≡ 0 → pieces_of cut bytes ≡ []
unfolding pieces_of
no_pieces cut bytes none =
    ap (λ xs. map (λ piece. (Content, piece)) (first_chunks cut (chunk_count (length xs) cut) xs)) (nil_from_length bytes none)
    ∙ ap (λ n. map (λ piece. (Content, piece)) (first_chunks cut n [])) (zero_count cut) where
      zero_count : (k : ℕ) → chunk_count 0 k ≡ 0
      zero_count k = omega arith

pub piece_more : (cut : ℕ) (all x rest : List ℕ) → 0 < cut → all ≡ x ++ rest → length x ≡ min cut (length all) → 0 < length all → pieces_of cut all ≡ (Content, x) ∷ pieces_of cut rest
unfolding pieces_of
piece_more cut all x rest pos e is some =
    ap (λ n. map (λ piece. (Content, piece)) (first_chunks cut n all)) (count_more (length all) (length rest) cut (length x) pos some (ap length e ∙ length-append x rest) is)
    ∙ ap₂ (λ front back. (Content, front) ∷ map (λ piece. (Content, piece)) (first_chunks cut (chunk_count (length rest) cut) back)) front back
  where
    front : take cut all ≡ x
    front = ⊎_elim short whole (cases_lt (length all) cut) where
      short : length all < cut → take cut all ≡ x
      short lt =
          let n : length all ≡ length x + length rest = ap length e ∙ length-append x rest in
          let none : rest ≡ [] = nil_from_length rest (omega arith) in
          take_all cut all (omega arith) ∙ e ∙ ap (λ ys. x ++ ys) none ∙ append-nil x

      whole : cut ≤ length all → take cut all ≡ x
      whole le = let len : length x ≡ cut = omega arith in ap (take cut) e ∙ take_at x rest cut len

    back : drop cut all ≡ rest
    back = ⊎_elim short whole (cases_lt (length all) cut) where
      short : length all < cut → drop cut all ≡ rest
      short lt =
          let n : length all ≡ length x + length rest = ap length e ∙ length-append x rest in
          let none : rest ≡ [] = nil_from_length rest (omega arith) in
          drop_all cut all (omega arith) ∙ sym none

      whole : cut ≤ length all → drop cut all ≡ rest
      whole le = let len : length x ≡ cut = omega arith in ap (drop cut) e ∙ drop_at x rest cut len

-- the ids of the pieces so far, with one more
pub ids_more : (all done pushed : List Id) (left rest : List BlobData) (b : BlobData) (id : Id) → all ≡ done ++ map id_of left → left ≡ b ∷ rest → id ≡ id_of b → pushed ≡ done ++ id ∷ [] → all ≡ pushed ++ map id_of rest
ids_more all done pushed left rest b id so_far e is push =
    so_far ∙ ap (λ bs. done ++ map id_of bs) e ∙ sym (append_assoc done (id_of b ∷ []) (map id_of rest))
    ∙ ap (λ i. (done ++ i ∷ []) ++ map id_of rest) (sym is) ∙ ap (λ p. p ++ map id_of rest) (sym push)
