-- The orders of spots, places and listings are total, and only a spot ties with itself.
use Rattle.std.proofs.Common.{◌≡◌, ◌↔◌, ◌<◌, ℕ, true, refl, sym, ap, ◌∙◌, inl, inr, arith, Ordering, Less, Equal, Greater}
use Rattle.std.proofs.lemmas.Cmp.{ranked}
use Rattle.std.specs.Cmp.{IsTotalOrder, tied_itself}
use Rattle.std.specs.FinMap.{IsAntisymmetric, nat_cmp-IsAntisymmetric}
use Rattle.std.specs.Ordering.{is_eq, nat_cmp, ordering_then}
use Rattle.std.proofs.lemmas.Map.Lookups.{exact_pairs}
use Rattle.std.proofs.lemmas.Map.Views.{tells_apart}
use Rattle.keep_names.proofs.Orders.{blob_exact, blob_total, id_exact, id_total}
use Rattle.keep_names.specs.Orders.{id_cmp, blob_cmp}
use Rattle.keep_names.specs.declared.blob.BlobId.{BlobId}
use Rattle.keep_names.specs.declared.id.Id.{Id}
use Rattle.keep_catalog.specs.Orders.{IsLessSpot, listing_cmp, spot_cmp, packed_blob_cmp, blob_eq, packed_blob_eq, spot_eq}
use Rattle.keep_catalog.specs.declared.spot.PackedBlob.{PackedBlob}
use Rattle.keep_catalog.specs.declared.spot.Spot.{Spot}
use Rattle.keep_catalog.specs.contracts.spot.ListingOrd.TheImpl.Laws as the_listing_laws
use Rattle.keep_catalog.specs.contracts.spot.PackedBlobOrd.TheImpl.Laws as the_packed_blob_laws
use Rattle.keep_catalog.specs.contracts.spot.SpotOrd.TheImpl.Laws as the_spot_laws

pub spot_total : IsTotalOrder spot_cmp
spot_total = the_spot_laws.total-law

pub packed_blob_total : IsTotalOrder packed_blob_cmp
packed_blob_total = the_packed_blob_laws.total-law

pub spot_exact : IsAntisymmetric spot_cmp
spot_exact a b tied =
    ap (λ (p : Id × (ℕ × ℕ)). record { pack = p.0; offset = p.1.0; length = p.1.1 })
    (exact_pairs id_cmp (λ (x y : ℕ × ℕ). ordering_then (nat_cmp x.0 y.0) (nat_cmp x.1 y.1)) id_exact (exact_pairs nat_cmp nat_cmp nat_cmp-IsAntisymmetric nat_cmp-IsAntisymmetric) (a.pack, (a.offset, a.length)) (b.pack, (b.offset, b.length)) tied)

pub packed_blob_exact : IsAntisymmetric packed_blob_cmp
packed_blob_exact a b tied =
    ap (λ (p : BlobId × Spot). record { blob = p.0; spot = p.1 })
    (exact_pairs blob_cmp spot_cmp blob_exact spot_exact (a.blob, a.spot) (b.blob, b.spot) tied)

pub listing_total : IsTotalOrder listing_cmp
listing_total = the_listing_laws.total-law

pub listing_exact : IsAntisymmetric listing_cmp
listing_exact a b tied =
    ap (λ (p : Spot × Id). record { spot = p.0; index = p.1 })
    (exact_pairs spot_cmp id_cmp spot_exact id_exact (a.spot, a.index) (b.spot, b.index) tied)

pub blob_eq_same : (a b : BlobId) → blob_eq a b ≡ true → a ≡ b
blob_eq_same = tells_apart blob_exact

pub blob_eq_refl : (a : BlobId) → blob_eq a a ≡ true
blob_eq_refl a = ap is_eq (tied_itself blob_total a)

pub packed_blob_eq_same : (a b : PackedBlob) → packed_blob_eq a b ≡ true → a ≡ b
packed_blob_eq_same = tells_apart packed_blob_exact

pub spot_eq_same : (a b : Spot) → spot_eq a b ≡ true → a ≡ b
spot_eq_same = tells_apart spot_exact

-- ---- the order of spots in plain words

abbrev rest_cmp : Spot → Spot → Ordering
rest_cmp a b = ordering_then (nat_cmp a.offset b.offset) (nat_cmp a.length b.length)

below : (x y : ℕ) → nat_cmp x y ≡ Less → x < y
below x y h = ranked x y Less (sym h)

tied : (x y : ℕ) → nat_cmp x y ≡ Equal → x ≡ y
tied x y h = ranked x y Equal (sym h)

is_below : (x y : ℕ) → x < y → nat_cmp x y ≡ Less
is_below x y h = cases (nat_cmp x y) refl where
  cases : (o : Ordering) → nat_cmp x y ≡ o → o ≡ Less
  cases Less is = refl
  cases Equal is = let e : x ≡ y = ranked x y Equal (sym is) in absurd (omega arith)
  cases Greater is = let e : y < x = ranked x y Greater (sym is) in absurd (omega arith)

is_tied : (x y : ℕ) → x ≡ y → nat_cmp x y ≡ Equal
is_tied x y e = cases (nat_cmp x y) refl where
  cases : (o : Ordering) → nat_cmp x y ≡ o → o ≡ Equal
  cases Less is = let lt : x < y = ranked x y Less (sym is) in absurd (omega arith)
  cases Equal is = refl
  cases Greater is = let lt : y < x = ranked x y Greater (sym is) in absurd (omega arith)

module _ (a b : Spot) where
  by_length : (o : Ordering) → nat_cmp a.length b.length ≡ o → o ≡ Less → a.pack ≡ b.pack → a.offset ≡ b.offset → IsLessSpot a b
  by_length o is h pack offset = inr (inr (pack, offset, below a.length b.length (is ∙ h)))

  by_offset : (o : Ordering) → nat_cmp a.offset b.offset ≡ o → ordering_then o (nat_cmp a.length b.length) ≡ Less → a.pack ≡ b.pack → IsLessSpot a b
  by_offset Less is h pack = inr (inl (pack, below a.offset b.offset is))
  by_offset Equal is h pack = by_length (nat_cmp a.length b.length) refl h pack (tied a.offset b.offset is)
  by_offset Greater is h pack = cc h

  by_pack : (o : Ordering) → id_cmp a.pack b.pack ≡ o → ordering_then o (rest_cmp a b) ≡ Less → IsLessSpot a b
  by_pack Less is h = inl is
  by_pack Equal is h = by_offset (nat_cmp a.offset b.offset) refl h (id_exact a.pack b.pack is)
  by_pack Greater is h = cc h

  same_pack : a.pack ≡ b.pack → id_cmp a.pack b.pack ≡ Equal
  same_pack is = ap (λ p. id_cmp p b.pack) is ∙ tied_itself id_total b.pack

  from_plain : IsLessSpot a b → spot_cmp a b ≡ Less
  from_plain (inl pack) = ap (λ o. ordering_then o (rest_cmp a b)) pack
  from_plain (inr (inl at)) =
      ap (λ o. ordering_then o (rest_cmp a b)) (same_pack at.0)
      ∙ ap (λ o. ordering_then o (nat_cmp a.length b.length)) (is_below a.offset b.offset at.1)
  from_plain (inr (inr at)) =
      ap (λ o. ordering_then o (rest_cmp a b)) (same_pack at.0)
      ∙ ap (λ o. ordering_then o (nat_cmp a.length b.length)) (is_tied a.offset b.offset at.1)
      ∙ is_below a.length b.length at.2

  pub spot_less : (spot_cmp a b ≡ Less) ↔ IsLessSpot a b
  spot_less = (by_pack (id_cmp a.pack b.pack) refl, from_plain)
