-- What is written, blobs first and entries behind, is the honest pack of the blobs.
use Rattle.std.proofs.Common.{◌≡◌, ℕ, ◌*◌, ◌<◌, ◌^◌, List, [], ◌∷◌, ◌++◌, length, map, All}
use Rattle.std.proofs.Common.{refl, sym, ap, ◌∙◌, append_assoc, arith}
use Rattle.std.specs.Int.{w32, to_le_bytes}
use Rattle.std.specs.List.{AllByRecursion, concat, flat_map}
use Rattle.std.proofs.lemmas.List.{length-map}
use Rattle.std.proofs.lemmas.List.Elements.{recursion_from_All}
use Rattle.sha2.proofs.Facts256.{length-sha256}
use Rattle.keep_names.specs.declared.blob.BlobId.{BlobId}
use Rattle.keep_names.specs.declared.blob.BlobType.{BlobType}
use Rattle.keep_pack.specs.Pack.{HasEntry, HasOwnId, IsHonestPackOf, Entry, entry_bytes, listing, stored}

-- whose length four bytes hold
abbrev pub IsShortBlob : {B : Type 0} → (B → List ℕ) → BlobId × B → Type 0
IsShortBlob bytes blob = length (bytes blob.1) < 2 ^ 32

-- what is written of a blob
abbrev pub given : {B : Type 0} → (B → List ℕ) → BlobId × B → Entry
given bytes blob = record { blob = blob.0; length = length (bytes blob.1) }

blobs_joined : {B : Type 0} (bytes : B → List ℕ) (bs : List (BlobId × B))
    → flat_map (λ b. bytes b.1) bs ≡ concat (map (λ b. b.1) (map (stored bytes) bs))
blobs_joined bytes [] = refl
blobs_joined bytes (b ∷ bs) = ap (λ (xs : List ℕ). bytes b.1 ++ xs) (blobs_joined bytes bs)

-- under its own id it is what an honest header lists
own : {B : Type 0} (bytes : B → List ℕ) (b : BlobId × B) → HasOwnId bytes b → given bytes b ≡ listing (stored bytes b)
own bytes b h =
    ap (λ (digest : List ℕ). record {
      blob = record { id = record { 0 = digest }; blob_type = b.0.blob_type };
      length = length (bytes b.1);
    }) h

entries_joined : {B : Type 0} (bytes : B → List ℕ) (bs : List (BlobId × B))
    → AllByRecursion (HasOwnId bytes) bs
    → flat_map (λ b. entry_bytes (given bytes b)) bs ≡ flat_map entry_bytes (map listing (map (stored bytes) bs))
entries_joined bytes [] h = refl
entries_joined bytes (b ∷ bs) h =
    ap (λ (xs : List ℕ). entry_bytes (given bytes b) ++ xs) (entries_joined bytes bs h.1)
    ∙ ap (λ listed. entry_bytes listed ++ flat_map entry_bytes (map listing (map (stored bytes) bs))) (own bytes b h.0)

lengths_told : (bs : List (BlobType × List ℕ))
    → map (λ l. l.length) (map listing bs) ≡ map length (map (λ b. b.1) bs)
lengths_told [] = refl
lengths_told (b ∷ bs) = ap (λ (ns : List ℕ). length b.1 ∷ ns) (lengths_told bs)

have_entries : {B : Type 0} (bytes : B → List ℕ) (bs : List (BlobId × B))
    → AllByRecursion (IsShortBlob bytes) bs
    → AllByRecursion HasEntry (map listing (map (stored bytes) bs))
have_entries bytes [] h = tt
have_entries bytes (b ∷ bs) h = ((length-sha256 (bytes b.1), h.0), have_entries bytes bs h.1)

pub built : {B : Type 0} (bytes : B → List ℕ) (bs : List (BlobId × B)) (pack : List ℕ)
    → All (HasOwnId bytes) bs → All (IsShortBlob bytes) bs → 37 * length bs < 2 ^ 32
    → pack ≡ (flat_map (λ b. bytes b.1) bs ++ flat_map (λ b. entry_bytes (given bytes b)) bs)
    ++ to_le_bytes w32 (37 * length bs)
    → IsHonestPackOf pack (map (stored bytes) bs)
built bytes bs pack ids lengths header written =
    let listed = map listing (map (stored bytes) bs) in
    let blobs = concat (map (λ b. b.1) (map (stored bytes) bs)) in
    let entries = flat_map (λ b. entry_bytes (given bytes b)) bs in
    let tail = to_le_bytes w32 (37 * length bs) in
    let count : length listed ≡ length bs =
    length-map (map (stored bytes) bs) listing ∙ length-map bs (stored bytes) in
    record {
      bytes = written
          ∙ ap (λ (xs : List ℕ). (xs ++ entries) ++ tail) (blobs_joined bytes bs)
          ∙ ap (λ (xs : List ℕ). (blobs ++ xs) ++ tail) (entries_joined bytes bs (recursion_from_All (HasOwnId bytes) bs ids))
          ∙ append_assoc blobs (flat_map entry_bytes listed) tail
          ∙ ap (λ (n : ℕ). blobs ++ (flat_map entry_bytes listed ++ to_le_bytes w32 (37 * n))) (sym count);
      lengths = lengths_told (map (stored bytes) bs);
      entries = have_entries bytes bs (recursion_from_All (IsShortBlob bytes) bs lengths);
      header = omega (arith, count, header);
    }
