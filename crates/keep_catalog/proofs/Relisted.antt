-- Listings of a place that come into what is kept of the indexes, or go.
use Rattle.std.proofs.Common.{◌≡◌, ℕ, ◌+◌, ◌<◌, ◌==◌, inl, inr, Bool, true, false, ◌&&◌, ◌||◌, cond, List, [], ◌∷◌, ◌++◌, map, take, length, get_or, Option, None, Some, refl, sym, ap, subst, ◌∙◌}
use Rattle.std.proofs.Math.Bool.{and-false, or-false}
use Rattle.std.proofs.lemmas.Bool.Decides.{eqb_tells}
use Rattle.std.proofs.lemmas.Grind.{flat_map-append}
use Rattle.std.proofs.lemmas.List.{append-nil}
use Rattle.std.proofs.lemmas.List.Folds.{list_any-append}
use Rattle.std.proofs.lemmas.Map.Views.{tells_apart}
use Rattle.std.proofs.lemmas.Slice.Eq.{bytes_eq-Decides}
use Rattle.std.specs.BTreeMap.{is_at}
use Rattle.std.specs.BTreeMap as tree
use Rattle.std.specs.Cmp.{tied_itself}
use Rattle.std.specs.List.{flat_map}
use Rattle.std.specs.Ordering.{is_eq}
use Rattle.std.specs.Str.{bytes_eq}
use Rattle.keep_index.specs.Index.{pack_view}
use Rattle.keep_index.specs.declared.index.IndexedPack.{IndexedPack}
use Rattle.keep_names.proofs.Orders.{id_exact}
use Rattle.keep_names.specs.Orders.{blob_cmp}
use Rattle.keep_names.specs.declared.blob.BlobId.{BlobId}
use Rattle.keep_names.specs.declared.id.Id.{Id}
use Rattle.keep_catalog.specs.Kept.{Listed, has, lists_at}
use Rattle.keep_catalog.specs.Orders.{blob_eq, listing_cmp, listing_eq, packed_blob_eq, same_id}
use Rattle.keep_catalog.specs.Places.{at, is_among, listed_of}
use Rattle.keep_catalog.specs.declared.listings.Listings.{Listings}
use Rattle.keep_catalog.specs.declared.listings.Listings.TheVariants.{One}
use Rattle.keep_catalog.specs.declared.spot.Listing.{Listing}
use Rattle.keep_catalog.specs.declared.spot.PackedBlob.{PackedBlob}
use Rattle.keep_catalog.proofs.Growing.{map_taken}
use Rattle.keep_catalog.proofs.Ids.{id_refl}
use Rattle.keep_catalog.proofs.Least.{both_true}
use Rattle.keep_catalog.proofs.Ordered.{same_test}
use Rattle.keep_catalog.proofs.SpotOrders.{blob_eq_refl, blob_eq_same, listing_exact, listing_total, packed_blob_eq_same, packed_blob_total}

refuted : (b : Bool) → (b ≡ true → ⊥) → b ≡ false
refuted true h = absurd (h refl)
refuted false h = refl

module _ (place : PackedBlob) (index : Id) where
  abbrev pub listing : Listing
  listing = record { spot = place.spot; index = index }

  abbrev pub is_its : BlobId → Listing → Bool
  is_its blob l = same_id index l.index && packed_blob_eq (at blob l.spot) place

  itself : listing_eq listing listing ≡ true
  itself = ap is_eq (tied_itself listing_total listing)

  same_place : (l : Listing) → is_its place.blob l ≡ listing_eq listing l
  same_place l = same_test _ _ there back where
    there : is_its place.blob l ≡ true → listing_eq listing l ≡ true
    there h =
        let both = both_true (same_id index l.index) (packed_blob_eq (at place.blob l.spot) place) h in
        let index_is : index ≡ l.index = tells_apart id_exact index l.index both.0 in
        let place_is : at place.blob l.spot ≡ place = packed_blob_eq_same (at place.blob l.spot) place both.1 in
        let is : listing ≡ l = λ i. record { spot = (sym place_is i).spot; index = index_is i } in
        ap (listing_eq listing) (sym is) ∙ itself

    back : listing_eq listing l ≡ true → is_its place.blob l ≡ true
    back h =
        let is : listing ≡ l = tells_apart listing_exact listing l h in
        let P : Listing → Type 0 = λ x. is_its place.blob x ≡ true in
        subst P is (ap (λ b. b && packed_blob_eq place place) (id_refl index) ∙ ap is_eq (tied_itself packed_blob_total place))

  other_blob : (blob : BlobId) (l : Listing) → blob_eq place.blob blob ≡ false → is_its blob l ≡ false
  other_blob blob l other =
      ap (λ b. same_id index l.index && b) (refuted (packed_blob_eq (at blob l.spot) place) (λ same.
      cc (other, ap (blob_eq place.blob) (ap (λ (p : PackedBlob). p.blob) (packed_blob_eq_same (at blob l.spot) place same)) ∙ blob_eq_refl place.blob)))
      ∙ and-false (same_id index l.index)

  -- what is kept of the place's blob has the listing, or hasn't, and else is as it was
  pub replaced : (v : Bool) (old new : Listed) (after : Option Listings) → ((q : BlobId) → tree.get blob_cmp new q ≡ cond (is_at (blob_cmp place.blob) q) after (tree.get blob_cmp old q)) → ((l : Listing) → has after l ≡ cond (listing_eq listing l) v (has (tree.get blob_cmp old place.blob) l)) → (blob : BlobId) (l : Listing) → lists_at new blob l ≡ cond (is_its blob l) v (lists_at old blob l)
  replaced v old new after put there blob l = cases (blob_eq place.blob blob) refl where
    here : lists_at new place.blob l ≡ cond (is_its place.blob l) v (lists_at old place.blob l)
    here =
        ap (λ s. has s l) (put place.blob ∙ ap (λ b. cond b after (tree.get blob_cmp old place.blob)) (blob_eq_refl place.blob))
        ∙ there l ∙ ap (λ b. cond b v (lists_at old place.blob l)) (sym (same_place l))

    cases : (b : Bool) → blob_eq place.blob blob ≡ b → lists_at new blob l ≡ cond (is_its blob l) v (lists_at old blob l)
    cases true same =
        let P : BlobId → Type 0 = λ x. lists_at new x l ≡ cond (is_its x l) v (lists_at old x l) in
        subst P (blob_eq_same place.blob blob same) here
    cases false other =
        ap (λ s. has s l) (put blob ∙ ap (λ b. cond b after (tree.get blob_cmp old blob)) other)
        ∙ ap (λ b. cond b v (lists_at old blob l)) (sym (other_blob blob l other))

  module _ (old removed new : Listed) (took : (q : BlobId) → tree.get blob_cmp removed q ≡ cond (is_at (blob_cmp place.blob) q) None (tree.get blob_cmp old q)) where
    put_back : (after : Option Listings) → ((q : BlobId) → tree.get blob_cmp new q ≡ cond (is_at (blob_cmp place.blob) q) after (tree.get blob_cmp removed q)) → (q : BlobId) → tree.get blob_cmp new q ≡ cond (is_at (blob_cmp place.blob) q) after (tree.get blob_cmp old q)
    put_back after put q = put q ∙ ap (cond (is_at (blob_cmp place.blob) q) after) (took q) ∙ twice (is_at (blob_cmp place.blob) q) (tree.get blob_cmp old q) where
      twice : (b : Bool) (o : Option Listings) → cond b after (cond b None o) ≡ cond b after o
      twice true o = refl
      twice false o = refl

    -- the listing comes
    pub listed_one : (after : Listings) → ((q : BlobId) → tree.get blob_cmp new q ≡ cond (is_at (blob_cmp place.blob) q) (Some after) (tree.get blob_cmp removed q))
        → ((l : Listing) → has (Some after) l ≡ cond (listing_eq listing l) true (has (tree.get blob_cmp old place.blob) l)) → (blob : BlobId) (l : Listing) → lists_at new blob l ≡ cond (is_its blob l) true (lists_at old blob l)
    listed_one after put added = replaced true old new (Some after) (put_back (Some after) put) added

    module _ (listings : Listings) (after : Option Listings) (was : tree.get blob_cmp old place.blob ≡ Some listings) (left : (l : Listing) → has after l ≡ cond (listing_eq listing l) false (has (Some listings) l)) where
      gone : (l : Listing) → has after l ≡ cond (listing_eq listing l) false (has (tree.get blob_cmp old place.blob) l)
      gone l = left l ∙ ap (λ o. cond (listing_eq listing l) false (has o l)) (sym was)

      -- the listing goes, and others are left
      pub unlisted_one : ((q : BlobId) → tree.get blob_cmp new q ≡ cond (is_at (blob_cmp place.blob) q) after (tree.get blob_cmp removed q)) → (blob : BlobId) (l : Listing) → lists_at new blob l ≡ cond (is_its blob l) false (lists_at old blob l)
      unlisted_one put = replaced false old new after (put_back after put) gone

      -- the listing goes, and none is left
      pub unlisted_last : after ≡ None → (blob : BlobId) (l : Listing) → lists_at removed blob l ≡ cond (is_its blob l) false (lists_at old blob l)
      unlisted_last none = replaced false old removed None took (λ l. ap (λ o. has o l) (sym none) ∙ gone l)

    -- there was none
    pub unlisted_none : tree.get blob_cmp old place.blob ≡ None → (blob : BlobId) (l : Listing) → lists_at removed blob l ≡ cond (is_its blob l) false (lists_at old blob l)
    unlisted_none was = replaced false old removed None took (λ l. nothing (listing_eq listing l) ∙ ap (λ o. cond (listing_eq listing l) false (has o l)) (sym was)) where
      nothing : (b : Bool) → false ≡ cond b false false
      nothing true = refl
      nothing false = refl

-- ---- a listing alone

same_number : (n : ℕ) → (n == n) ≡ true
same_number n = elim (eqb_tells n n) [ inl is ↦ is.0 | inr other ↦ absurd (other.1 refl) ]

equal_number : (a b : ℕ) → (a == b) ≡ true → a ≡ b
equal_number a b h = elim (eqb_tells a b) [ inl is ↦ is.1 | inr other ↦ cc (other.0, h) ]

-- whether two have the same parts
abbrev alike : Listing → Listing → Bool
alike a b =
    (bytes_eq a.spot.pack.0 b.spot.pack.0 && ((a.spot.offset == b.spot.offset) && (a.spot.length == b.spot.length)))
    && bytes_eq a.index.0 b.index.0

alike_itself : (a : Listing) → alike a a ≡ true
alike_itself a =
    rw ((bytes_eq-Decides a.spot.pack.0 a.spot.pack.0).1 refl, same_number a.spot.offset, same_number a.spot.length, (bytes_eq-Decides a.index.0 a.index.0).1 refl) refl

alike_same : (a b : Listing) → alike a b ≡ true → a ≡ b
alike_same a b h =
    let both = both_true _ (bytes_eq a.index.0 b.index.0) h in
    let spot = both_true (bytes_eq a.spot.pack.0 b.spot.pack.0) _ both.0 in
    let ends = both_true (a.spot.offset == b.spot.offset) (a.spot.length == b.spot.length) spot.1 in
    let pack = (bytes_eq-Decides a.spot.pack.0 b.spot.pack.0).0 spot.0 in
    let offset = equal_number a.spot.offset b.spot.offset ends.0 in
    let long = equal_number a.spot.length b.spot.length ends.1 in
    let index = (bytes_eq-Decides a.index.0 b.index.0).0 both.1 in
    λ i. record { spot = record { pack = record { 0 = pack i }; offset = offset i; length = long i }; index = record { 0 = index i } }

pub alike_tells : (a b : Listing) → alike a b ≡ listing_eq a b
alike_tells a b = same_test _ _ there back where
  there : alike a b ≡ true → listing_eq a b ≡ true
  there h = ap (listing_eq a) (sym (alike_same a b h)) ∙ ap is_eq (tied_itself listing_total a)

  back : listing_eq a b ≡ true → alike a b ≡ true
  back h = subst (λ (x : Listing). alike a x ≡ true) (tells_apart listing_exact a b h) (alike_itself a)

is_first : (l k : Listing) → is_at (listing_cmp l) k ≡ listing_eq k l
is_first l k = same_test _ _ (λ h. turned l k (tells_apart listing_exact l k h)) (λ h. turned k l (tells_apart listing_exact k l h)) where
  turned : (a b : Listing) → a ≡ b → listing_eq b a ≡ true
  turned a b same = ap (listing_eq b) same ∙ ap is_eq (tied_itself listing_total b)

has_alone : (l first : Listing) → has (Some (One first)) l ≡ listing_eq first l
has_alone l first = or-false (is_at (listing_cmp l) first) ∙ is_first l first

-- where it is the one that goes none is left
pub same_gone : (first listing : Listing) → listing_eq first listing ≡ true
    → (l : Listing) → false ≡ cond (listing_eq listing l) false (has (Some (One first)) l)
same_gone first listing same l =
    cases (listing_eq listing l) refl (has (Some (One first)) l)
    (has_alone l first ∙ ap (λ (x : Listing). listing_eq x l) (tells_apart listing_exact first listing same)) where
      cases : (b : Bool) → listing_eq listing l ≡ b → (h : Bool) → h ≡ listing_eq listing l → false ≡ cond b false h
      cases true eq h had = refl
      cases false eq h had = sym (had ∙ eq)

-- and else it stays
pub other_left : (first listing : Listing) → listing_eq first listing ≡ false
    → (l : Listing) → has (Some (One first)) l ≡ cond (listing_eq listing l) false (has (Some (One first)) l)
other_left first listing other l = cases (listing_eq listing l) refl where
  cases : (b : Bool) → listing_eq listing l ≡ b → has (Some (One first)) l ≡ cond b false (has (Some (One first)) l)
  cases true eq = has_alone l first ∙ ap (listing_eq first) (sym (tells_apart listing_exact listing l eq)) ∙ other
  cases false eq = refl

module _ (place : PackedBlob) (index : Id) (old : Listed) where
  -- the first one of a blob
  pub first_one : (after : Listings) → tree.get blob_cmp old place.blob ≡ None → after ≡ One (listing place index)
      → (l : Listing) → has (Some after) l ≡ cond (listing_eq (listing place index) l) true (has (tree.get blob_cmp old place.blob) l)
  first_one after none is l =
      ap (λ (ls : Listings). has (Some ls) l) is ∙ has_alone l (listing place index)
      ∙ alone (listing_eq (listing place index) l)
      ∙ ap (λ o. cond (listing_eq (listing place index) l) true (has o l)) (sym none) where
        alone : (b : Bool) → b ≡ cond b true false
        alone true = refl
        alone false = refl

  -- one beside others
  pub one_more : (listings after : Listings) → tree.get blob_cmp old place.blob ≡ Some listings
      → ((l : Listing) → has (Some after) l ≡ cond (listing_eq (listing place index) l) true (has (Some listings) l))
      → (l : Listing) → has (Some after) l ≡ cond (listing_eq (listing place index) l) true (has (tree.get blob_cmp old place.blob) l)
  one_more listings after was added l =
      added l ∙ ap (λ o. cond (listing_eq (listing place index) l) true (has o l)) (sym was)

-- ---- one place after another, one pack after another

more : (b a e v before now later : Bool) → now ≡ cond (b && a) v before → later ≡ cond (b && e) v now → later ≡ cond (b && (a || e)) v before
more true true true v before now later so step = step
more true true false v before now later so step = step ∙ so
more true false e v before now later so step = step ∙ ap (cond e v) so
more false a e v before now later so step = step ∙ so

-- a place behind others
pub one_place : (index : Id) (blob : BlobId) (l : Listing) (v before now later : Bool) (places : List PackedBlob) (p : PackedBlob) → now ≡ cond (same_id index l.index && is_among places (at blob l.spot)) v before → later ≡ cond (same_id index l.index && packed_blob_eq (at blob l.spot) p) v now → later ≡ cond (same_id index l.index && is_among (places ++ p ∷ []) (at blob l.spot)) v before
one_place index blob l v before now later places p so step =
    more (same_id index l.index) (is_among places (at blob l.spot)) (packed_blob_eq (at blob l.spot) p) v before now later so step
    ∙ ap (λ b. cond (same_id index l.index && b) v before)
    (ap (λ b. is_among places (at blob l.spot) || b) (sym (or-false (packed_blob_eq (at blob l.spot) p))) ∙ sym (list_any-append (packed_blob_eq (at blob l.spot)) places (p ∷ [])))

-- places behind others
pub all_places : (index : Id) (blob : BlobId) (l : Listing) (v before now later : Bool) (places others : List PackedBlob) → now ≡ cond (same_id index l.index && is_among places (at blob l.spot)) v before → later ≡ cond (same_id index l.index && is_among others (at blob l.spot)) v now → later ≡ cond (same_id index l.index && is_among (places ++ others) (at blob l.spot)) v before
all_places index blob l v before now later places others so step =
    more (same_id index l.index) (is_among places (at blob l.spot)) (is_among others (at blob l.spot)) v before now later so step
    ∙ ap (λ b. cond (same_id index l.index && b) v before) (sym (list_any-append (packed_blob_eq (at blob l.spot)) places others))

-- what is listed of the packs that were taken
pub packs-taken : (packs : List IndexedPack) (i : ℕ) (pack d : IndexedPack) → i < length packs → pack ≡ get_or packs i d → flat_map listed_of (map pack_view (take (i + 1) packs)) ≡ flat_map listed_of (map pack_view (take i packs)) ++ listed_of (pack_view pack)
packs-taken packs i pack d lt is =
    ap (flat_map listed_of) (map_taken packs i pack d lt is pack_view)
    ∙ flat_map-append listed_of (map pack_view (take i packs)) (pack_view pack ∷ [])
    ∙ ap (λ ps. flat_map listed_of (map pack_view (take i packs)) ++ ps) (append-nil (listed_of (pack_view pack)))
