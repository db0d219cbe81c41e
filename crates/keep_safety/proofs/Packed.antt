-- The packs that are built are honest, and an index can say what is in them.
use Rattle.std.proofs.Common.{◌≡◌, ◌≢◌, ℕ, ◌+◌, ◌*◌, ◌-◌, ◌^◌, ◌<◌, ◌≤◌, false, List, [], ◌∷◌, ◌++◌, length, map, take, refl, sym, ap, subst, ◌∙◌, arith, cond}
use Rattle.std.proofs.lemmas.List.{length-map}
use Rattle.std.proofs.lemmas.List.Elements.{recursion_from_All}
use Rattle.std.proofs.lemmas.List.Folds.{list_any-append}
use Rattle.std.proofs.lemmas.List.Sums.{sum_by-append}
use Rattle.std.specs.List.{AllByRecursion, count_by, flat_map, list_any}
use Rattle.keep_names.specs.Laws.{DigestsAreIds}
use Rattle.keep_names.specs.declared.blob.BlobType.{BlobType}
use Rattle.keep_names.specs.declared.blob.BlobType.TheVariants.{Content, Tree}
use Rattle.keep_repo.specs.Repository.{Repository}
use Rattle.keep_pack.specs.Pack.{Entry, HasEntry, IsHonestPackOf, entries_from, listing}
use Rattle.keep_index.specs.Index.{Fits, FitsBlob, FitsPack}
use Rattle.keep_build.specs.Blobs.{BlobData, is_full, new_of}
use Rattle.keep_build.specs.Packs.{bytes_in, full_pack, packs_of}
use Rattle.keep_build.specs.Stored.{pack_file, pack_listed, packs_built}
use Rattle.keep_safety.proofs.CutPacks.{are_cut}
use Rattle.keep_build.proofs.Cutting.{header_fits, is_empty}
use Rattle.keep_build.proofs.Packable.{few_new, is_short, no_or, none_full}
use Rattle.keep_safety.proofs.Positions.{both_so}

-- ---- each pack can be built

-- no blob is too long, and the header isn't
pub record IsPackable (pack : List BlobData) : Type 0 where
  pub short : list_any is_full pack ≡ false
  pub header : 37 * length pack < 2 ^ 32

some_length : (pack : List BlobData) → pack ≢ [] → 0 < length pack
some_length [] some = absurd (some refl)
some_length (b ∷ bs) some = omega arith

-- parts of blobs none of which is too long and one of which is empty at most
each_packable : (packs : List (List BlobData)) → list_any is_full (flat_map (λ pack. pack) packs) ≡ false → count_by is_empty (flat_map (λ pack. pack) packs) ≤ 1
    → AllByRecursion (λ pack. pack ≢ []) packs → AllByRecursion (λ pack. (count : ℕ) → count < length pack → bytes_in (take count pack) < full_pack) packs
    → AllByRecursion IsPackable packs
each_packable [] none few some fronts = tt
each_packable (p ∷ ps) none few some fronts =
    let rest : List BlobData = flat_map (λ pack. pack) ps in
    let parts = no_or (list_any is_full p) (list_any is_full rest) (sym (list_any-append is_full p rest) ∙ none) in
    let both : count_by is_empty (p ++ rest) ≡ count_by is_empty p + count_by is_empty rest = sum_by-append (λ b. cond (is_empty b) 1 0) p rest in
    let here : count_by is_empty p ≤ 1 = omega arith in
    let there : count_by is_empty rest ≤ 1 = omega arith in
    let long : 0 < length p = some_length p some.0 in (
      record { short = parts.0; header = header_fits p long (fronts.0 (length p - 1) (omega arith)) here },
      each_packable ps parts.1 there some.1 fronts.1,
    )

-- the packs of the new blobs of a type
of_new : (t : BlobType) (r : Repository) (blobs : List BlobData) → list_any is_full blobs ≡ false → AllByRecursion IsPackable (packs_of (new_of t r blobs))
of_new t r blobs none =
    let new : List BlobData = new_of t r blobs in
    let cut = are_cut new in
    each_packable (packs_of new) (ap (list_any is_full) cut.joined ∙ none_full t r blobs none)
    (subst One (sym (ap (count_by is_empty) cut.joined)) (few_new t r blobs))
    (recursion_from_All (λ pack. pack ≢ []) (packs_of new) cut.some)
    (recursion_from_All (λ pack. (count : ℕ) → count < length pack → bytes_in (take count pack) < full_pack) (packs_of new) cut.fronts) where
      One : ℕ → Type 0
      One n = n ≤ 1

-- each built pack can be built
pub packs_packable : (r : Repository) (blobs : List BlobData) → list_any is_full blobs ≡ false → AllByRecursion IsPackable (packs_built r blobs)
packs_packable r blobs none = both_so IsPackable (packs_of (new_of Content r blobs)) (packs_of (new_of Tree r blobs)) (of_new Content r blobs none) (of_new Tree r blobs none)

-- ---- it is honest

module _ (digests : DigestsAreIds) where
  same_lengths : (pack : List BlobData) → map (λ (e : Entry). e.length) (map listing pack) ≡ map length (map (λ (b : BlobData). b.1) pack)
  same_lengths [] = refl
  same_lengths (b ∷ bs) = ap (λ ns. length b.1 ∷ ns) (same_lengths bs)

  -- a header can say each of its entries
  each_entry : (pack : List BlobData) → list_any is_full pack ≡ false → AllByRecursion HasEntry (map listing pack)
  each_entry [] none = tt
  each_entry (b ∷ bs) none =
      let parts = no_or (is_full b) (list_any is_full bs) none in
      (((digests b.1).0, is_short (length b.1) parts.0), each_entry bs parts.1)

  -- the built file is the honest pack of its blobs
  pub honest_pack : (pack : List BlobData) → IsPackable pack → IsHonestPackOf (pack_file pack).bytes pack
  unfolding pack_file
  honest_pack pack can =
      let count : length (map listing pack) ≡ length pack = length-map pack listing in
      record { bytes = refl; lengths = same_lengths pack; entries = each_entry pack can.short; header = subst Short (sym count) can.header } where
        Short : ℕ → Type 0
        Short n = 37 * n < 2 ^ 32

  -- ---- an index can say what is in it

  -- each of its entries fits, from an offset on that leaves 2 ^ 32 bytes for each of the blobs
  each_fits : (offset : ℕ) (pack : List BlobData) → list_any is_full pack ≡ false → offset + 2 ^ 32 * length pack ≤ 2 ^ 64 → AllByRecursion FitsBlob (entries_from offset (map listing pack))
  each_fits offset [] none room = tt
  each_fits offset (b ∷ bs) none room =
      let parts = no_or (is_full b) (list_any is_full bs) none in
      let short : length b.1 < 2 ^ 32 = is_short (length b.1) parts.0 in
      ((digests b.1, omega arith, short), each_fits (offset + length b.1) bs parts.1 (omega arith))

  fits_listed : (pack : List BlobData) → IsPackable pack → FitsPack (pack_listed pack)
  unfolding pack_listed pack_file
  fits_listed pack can =
      let header : 37 * length pack < 2 ^ 32 = can.header in
      (digests (pack_file pack).bytes, each_fits 0 pack can.short (omega arith))

  -- and so do all packs
  pub fits_all : (packs : List (List BlobData)) → AllByRecursion IsPackable packs → Fits (map pack_listed packs)
  fits_all [] can = tt
  fits_all (p ∷ ps) can = (fits_listed p can.0, fits_all ps can.1)
