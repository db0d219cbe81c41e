-- What is built of new blobs that are kept.
use Rattle.std.proofs.Common.{◌≡◌, ℕ, suc, ◌+◌, ◌-◌, ◌*◌, ◌^◌, ◌<◌, ◌≤◌, ◌==◌, false, List, [], ◌∷◌, ◌++◌, length, map, take, drop, get_or, refl, sym, ap, subst, ◌∙◌, add-one, append_assoc, arith}
use Rattle.std.specs.Global.{Vec}
use Rattle.std.specs.Vec.{vec_len}
use Rattle.std.specs.List.{count_by, drop-map, take-map}
use Rattle.std.proofs.lemmas.Bool.Decides.{nat_tests}
use Rattle.std.proofs.lemmas.List.{append-nil, drop-drop, drop_all, length-drop, length-map, length-take-le, map_more, take-take, take_all, take_rest}
use Rattle.std.proofs.lemmas.List.Elements.{All-get_or}
use Rattle.std.proofs.Math.Seq.{drop-cons}
use Rattle.std.proofs.lemmas.List.Sums.{sum_by-take-le, sum_by_push}
use Rattle.keep_names.specs.declared.blob.BlobId.{BlobId}
use Rattle.keep_names.specs.declared.file_name.Kind.TheVariants.{Index}
use Rattle.keep_change.specs.NamedBytes.{NamedBytes, file_of}
use Rattle.keep_index.specs.Index.{pack_view}
use Rattle.keep_index.specs.Writing.{index_text}
use Rattle.keep_names.specs.declared.blob.Blob.{Blob}
use Rattle.keep_index.specs.declared.index.IndexedPack.{IndexedPack}
use Rattle.keep_pack.specs.Pack.{HasOwnId, IsHonestPackOf, entries_from, listing, stored}
use Rattle.keep_build.specs.Blobs.{BlobData}
use Rattle.keep_build.specs.NewPacks.{new_pack_of}
use Rattle.keep_build.specs.Packs.{bytes_in, full_pack, packs_from, packs_of}
use Rattle.keep_build.specs.Stored.{packs_and_index, index_file, pack_file, pack_listed}
use Rattle.keep_build.specs.Storing.{CanBePacked, Text, blob_view, text_bytes}
use Rattle.keep_build.proofs.Cutting.{cut_at, header_fits, is_empty, uncut}
use Rattle.keep_build.proofs.Packable.{can_drop, can_same, empties_kept}

abbrev Kept : Type 0
Kept = List (BlobId × Text)

abbrev bytes_kept : Kept → ℕ
bytes_kept kept = bytes_in (map blob_view kept)

abbrev size : BlobData → ℕ
size blob = length blob.1

-- the bytes of one more
pub bytes_more : (kept : Kept) (k : ℕ) (d : BlobId × Text) → k < length kept → bytes_in (map blob_view (take (k + 1) kept)) ≡ bytes_in (map blob_view (take k kept)) + length (text_bytes (get_or kept k d).1)
bytes_more kept k d lt = ap bytes_in (map_more blob_view kept k d lt) ∙ sum_by_push size (map blob_view (take k kept)) (blob_view (get_or kept k d))

-- the first pack, where it is full
pub first_full : (kept : Kept) (k : ℕ) → k < length kept → bytes_in (map blob_view (take k kept)) < full_pack → full_pack ≤ bytes_in (map blob_view (take (k + 1) kept))
    → packs_of (map blob_view kept) ≡ map blob_view (take (k + 1) kept) ∷ packs_of (map blob_view (drop (k + 1) kept))
unfolding packs_of
first_full kept k lt before after =
    let bs : List BlobData = map blob_view kept in
    let within : k < length bs = omega (arith, length-map kept blob_view) in
    let low : bytes_in (take k bs) < full_pack = subst Below (sym (take-map blob_view k kept)) before in
    let high : full_pack ≤ bytes_in (take (suc k) bs) = subst Above (sym (ap (λ n. take n bs) (sym (add-one k)) ∙ take-map blob_view (k + 1) kept)) after in
    cut_at full_pack bs k within low high
    ∙ (λ i. (ap (λ n. take n bs) (sym (add-one k)) ∙ take-map blob_view (k + 1) kept) i ∷ packs_from full_pack ((ap (λ n. drop n bs) (sym (add-one k)) ∙ drop-map blob_view (k + 1) kept) i)) where
      Below : List BlobData → Type 0
      Below bs = bytes_in bs < full_pack

      Above : List BlobData → Type 0
      Above bs = full_pack ≤ bytes_in bs

-- and where all blobs aren't enough
pub first_last : (kept : Kept) → 0 < length kept → bytes_in (map blob_view kept) < full_pack → packs_of (map blob_view kept) ≡ map blob_view kept ∷ []
unfolding packs_of
first_last [] some low = absurd (omega arith)
first_last (k ∷ ks) some low = uncut full_pack (blob_view k) (map blob_view ks) low

pub none_packed : packs_of [] ≡ []
unfolding packs_of
none_packed = refl

-- one pack fewer in what is left is one more in what is done
pub one_done : {A B : Type 0} (f : A → B) (done done' all : List B) (rest others : List A) (one : A) → rest ≡ one ∷ others → done' ≡ done ++ f one ∷ [] → done ++ map f rest ≡ all → done' ++ map f others ≡ all
one_done f done done' all rest others one splits step so =
    ap (λ xs. xs ++ map f others) step ∙ append_assoc done (f one ∷ []) (map f others)
    ∙ ap (λ xs. done ++ map f xs) (sym splits) ∙ so

pub all_done : {A B : Type 0} (f : A → B) (done all : List B) (rest : List A) → rest ≡ [] → done ++ map f rest ≡ all → done ≡ all
all_done f done all rest none so = sym (append-nil done) ∙ ap (λ xs. done ++ map f xs) (sym none) ∙ so

-- a pack that is built
pub new_pack_built : (kept : Kept) (pack : List ℕ) (blobs : List Blob) → IsHonestPackOf pack (map (stored text_bytes) kept)
    → blobs ≡ entries_from 0 (map listing (map blob_view kept))
    → (pack, blobs) ≡ new_pack_of (map blob_view kept)
unfolding new_pack_of
new_pack_built kept pack blobs honest says = (λ i. (honest.bytes i, says i))

pub header_short : (kept : Kept) → CanBePacked kept → 0 < length kept → bytes_in (map blob_view (take (length kept - 1) kept)) < full_pack → 37 * length kept < 2 ^ 32
header_short kept can some front =
    let bs : List BlobData = map blob_view kept in
    let count : length bs ≡ length kept = length-map kept blob_view in
    let here : 0 < length bs = omega arith in
    let few : count_by is_empty bs ≤ 1 = subst One (sym (empties_kept kept)) can.few in
    let low : bytes_in (take (length bs - 1) bs) < full_pack = subst Below (sym (ap (λ n. take (n - 1) bs) count ∙ take-map blob_view (length kept - 1) kept)) front in
    let fits : 37 * length bs < 2 ^ 32 = header_fits bs here low few in
    omega arith where
      One : ℕ → Type 0
      One n = n ≤ 1

      Below : List BlobData → Type 0
      Below bs = bytes_in bs < full_pack

-- the packs with their index behind them
pub with_index : (files : List NamedBytes) (listed : List IndexedPack) (text : List ℕ) (file : NamedBytes) (packs : List (List BlobData))
    → 0 < length listed → text ≡ index_text (map pack_view listed) → file ≡ file_of Index text
    → files ≡ map pack_file packs → map pack_view listed ≡ map pack_listed packs → files ++ file ∷ [] ≡ packs_and_index packs
unfolding index_file
with_index files [] text file packs some text_is file_is files_are listed_are = absurd (omega arith)
with_index files (l ∷ ls) text file [] some text_is file_is files_are listed_are =
    let count : length (map pack_view (l ∷ ls)) ≡ 0 = ap length listed_are in
    absurd (omega (arith, count, length-map (l ∷ ls) pack_view))
with_index files (l ∷ ls) text file (p ∷ ps) some text_is file_is files_are listed_are =
    let same : text ≡ index_text (map pack_listed (p ∷ ps)) = text_is ∙ ap index_text listed_are in
    let last : file ≡ index_file (p ∷ ps) = file_is ∙ ap (file_of Index) same in
    (λ i. files_are i ++ last i ∷ [])

-- how long a vector is
pub vec_length : {X : Type 0} (v : Vec X) → vec_len v ≡ length v.items
vec_length v = v.ok.0

some_of : (n m : ℕ) → n ≡ m → (n == 0) ≡ false → 0 < m
some_of n m is some = grind (arith, nat_tests)

pub some_items : {X : Type 0} (v : Vec X) → (vec_len v == 0) ≡ false → 0 < length v.items
some_items v some = some_of (vec_len v) (length v.items) (vec_length v) some

-- all of a list
pub all_taken : (kept : Kept) → 0 < length kept → bytes_in (map blob_view (take (length kept) kept)) < full_pack
    → packs_of (map blob_view kept) ≡ map blob_view (take (length kept) kept) ∷ packs_of (map blob_view (drop (length kept) kept))
all_taken kept some low =
    let all : take (length kept) kept ≡ kept = take_all (length kept) kept (omega arith) in
    let none : drop (length kept) kept ≡ [] = drop_all (length kept) kept (omega arith) in
    first_last kept some (subst Below all low)
    ∙ (λ i. map blob_view ((sym all) i) ∷ (sym (ap (λ (ks : Kept). packs_of (map blob_view ks)) none ∙ none_packed)) i) where
      Below : Kept → Type 0
      Below ks = bytes_in (map blob_view ks) < full_pack

-- a front of what is not enough isn't
pub front_low : (kept : Kept) (k n : ℕ) → length kept ≤ n → bytes_in (map blob_view (take n kept)) < full_pack → bytes_in (map blob_view (take k kept)) < full_pack
front_low kept k n whole low =
    let all : take n kept ≡ kept = take_all n kept whole in
    let total : bytes_in (map blob_view (take n kept)) ≡ bytes_in (map blob_view kept) = ap (λ (ks : Kept). bytes_in (map blob_view ks)) all in
    let part : bytes_in (take k (map blob_view kept)) ≤ bytes_in (map blob_view kept) = sum_by-take-le size (map blob_view kept) k in
    let same : bytes_in (take k (map blob_view kept)) ≡ bytes_in (map blob_view (take k kept)) = ap bytes_in (take-map blob_view k kept) in
    omega arith

-- the blobs from one on, as a slice has them
abbrev pub from_start : ℕ → Kept → Kept
from_start start kept = take (length kept - start) (drop start kept)

pub some_rest : (start : ℕ) (kept : Kept) → start < length kept → 0 < length (from_start start kept)
some_rest start kept lt = omega (arith, ap length (take_rest kept start), length-drop start kept)

pub can_rest : (start : ℕ) (kept : Kept) → CanBePacked kept → CanBePacked (from_start start kept)
can_rest start kept can = can_same _ _ (sym (take_rest kept start)) (can_drop start kept can)

pub some_front : (n : ℕ) (kept : Kept) → 0 < n → n ≤ length kept → 0 < length (take n kept)
some_front n kept some within = omega (arith, length-take-le n kept within)

pub front_front : (n : ℕ) (kept : Kept) → n ≤ length kept → bytes_in (map blob_view (take (n - 1) kept)) < full_pack
    → bytes_in (map blob_view (take (length (take n kept) - 1) (take n kept))) < full_pack
front_front n kept within low =
    let same : take (length (take n kept) - 1) (take n kept) ≡ take (n - 1) kept =
    ap (λ m. take (m - 1) (take n kept)) (length-take-le n kept within) ∙ take-take (n - 1) n kept (omega arith) in
    subst Below (sym same) low where
      Below : Kept → Type 0
      Below ks = bytes_in (map blob_view ks) < full_pack

-- no blobs are left, and so no packs
pub no_rest : (start : ℕ) (kept : Kept) → length kept ≤ start → packs_of (map blob_view (drop start kept)) ≡ []
no_rest start kept past = ap (λ (ks : Kept). packs_of (map blob_view ks)) (drop_all start kept past) ∙ none_packed

-- the first pack of those that are left, and the others
pub cut_rest : (start n : ℕ) (kept : Kept)
    → packs_of (map blob_view (from_start start kept)) ≡ map blob_view (take n (from_start start kept)) ∷ packs_of (map blob_view (drop n (from_start start kept)))
    → packs_of (map blob_view (drop start kept)) ≡ map blob_view (take n (from_start start kept)) ∷ packs_of (map blob_view (drop (start + n) kept))
cut_rest start n kept cut =
    let same : from_start start kept ≡ drop start kept = take_rest kept start in
    let later : drop n (from_start start kept) ≡ drop (start + n) kept = ap (drop n) same ∙ drop-drop n start kept in
    ap (λ (ks : Kept). packs_of (map blob_view ks)) (sym same) ∙ cut
    ∙ ap (λ (ks : Kept). map blob_view (take n (from_start start kept)) ∷ packs_of (map blob_view ks)) later

-- each blob is short, and stands under its own name
pub short_at : (kept : Kept) (k : ℕ) (d : BlobId × Text) → k < length kept → CanBePacked kept → length (text_bytes (get_or kept k d).1) < 2 ^ 32
short_at kept k d lt can = All-get_or (λ (blob : BlobId × Text). length (text_bytes blob.1) < 2 ^ 32) kept k d lt can.lengths

own_listing : (one : BlobId × Text) → HasOwnId text_bytes one → (listing (blob_view one)).blob ≡ one.0
own_listing one own = ap (λ (digest : List ℕ). record { id = record { 0 = digest }; blob_type = one.0.blob_type }) (sym own)

-- what an index says of the first of some blobs, and of the others behind it
pub first_listed : (offset : ℕ) (kept : Kept) (k : ℕ) (d : BlobId × Text) → k < length kept → CanBePacked kept
    → entries_from offset (map listing (map blob_view (drop k kept)))
    ≡ record { blob = (get_or kept k d).0; offset = offset; length = length (text_bytes (get_or kept k d).1) }
    ∷ entries_from (offset + length (text_bytes (get_or kept k d).1)) (map listing (map blob_view (drop (k + 1) kept)))
first_listed offset kept k d lt can =
    let one = get_or kept k d in
    let own : HasOwnId text_bytes one = All-get_or (HasOwnId text_bytes) kept k d lt can.ids in
    let splits : drop k kept ≡ one ∷ drop (k + 1) kept = drop-cons kept k d lt ∙ ap (λ n. one ∷ drop n kept) (sym (add-one k)) in
    ap (λ (rest : Kept). entries_from offset (map listing (map blob_view rest))) splits
    ∙ ap (λ (blob : BlobId). record { blob = blob; offset = offset; length = length (text_bytes one.1) }
    ∷ entries_from (offset + length (text_bytes one.1)) (map listing (map blob_view (drop (k + 1) kept))))
    (own_listing one own)

-- one more that is listed
pub listed_more : (all done done' : List Blob) (one : Blob) (rest others : List Blob) → all ≡ done ++ rest → rest ≡ one ∷ others → done' ≡ done ++ one ∷ [] → all ≡ done' ++ others
listed_more all done done' one rest others so splits step =
    so ∙ ap (λ xs. done ++ xs) splits ∙ sym (ap (λ xs. xs ++ others) step ∙ append_assoc done (one ∷ []) others)

pub all_listed : (kept : Kept) (offset k : ℕ) (all done : List Blob) → length kept ≤ k → all ≡ done ++ entries_from offset (map listing (map blob_view (drop k kept))) → all ≡ done
all_listed kept offset k all done whole so =
    so ∙ ap (λ (rest : Kept). done ++ entries_from offset (map listing (map blob_view rest))) (drop_all k kept whole) ∙ append-nil done
