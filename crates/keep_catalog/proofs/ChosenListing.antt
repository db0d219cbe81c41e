-- The first listing of a blob that is stored and open is its chosen one, and why it has none.
use Rattle.std.proofs.Common.{◌≡◌, ◌≢◌, ◌||◌, ◌&&◌, Bool, true, false, cond, List, [], ◌∷◌, Option, None, Some, option_map, refl, sym, ap, subst, ◌∙◌, Ordering, Less, Equal, Greater}
use Rattle.std.specs.BTreeMap.{is_at}
use Rattle.std.specs.Cmp.{IsTotalOrder, tied_itself}
use Rattle.std.specs.FinMap.{IsAntisymmetric}
use Rattle.std.specs.List.{AllByRecursion, find, list_any}
use Rattle.std.specs.List.Sorted.{IsStrictlySortedBy}
use Rattle.std.specs.Ordering.{is_eq, ordering_reverse, ordering_then}
use Rattle.keep_names.proofs.Orders.{id_exact, id_total}
use Rattle.keep_names.specs.Orders.{id_cmp}
use Rattle.keep_names.specs.declared.blob.BlobId.{BlobId}
use Rattle.keep_names.specs.declared.id.Id.{Id}
use Rattle.keep_repo.specs.Repository.{Repository}
use Rattle.keep_catalog.specs.Chosen.{IsChosen, IsListed, IsUsablePlace, IsStored}
use Rattle.keep_catalog.specs.Kept.{lists_in}
use Rattle.keep_catalog.specs.Naming.{missing}
use Rattle.keep_catalog.specs.Orders.{IsLessSpot, listing_cmp, spot_cmp}
use Rattle.keep_catalog.specs.Places.{at, chosen_listing, is_honest, is_usable, is_stored, is_unmarked}
use Rattle.keep_catalog.specs.declared.reach_error.ReachError.TheVariants.{MissingBlob, WrongHash}
use Rattle.keep_catalog.specs.declared.spot.Listing.{Listing}
use Rattle.keep_catalog.specs.declared.spot.Spot.{Spot}
use Rattle.keep_catalog.proofs.Least.{both_true, chosen_so}
use Rattle.keep_catalog.proofs.Missing.{missing_honest, missing_unlisted, missing_wrong}
use Rattle.keep_catalog.proofs.SpotOrders.{listing_exact, listing_total, spot_exact, spot_less, spot_total}

-- ---- the first key that passes a test

module _ {K : Type 0} (cmp : K → K → Ordering) (total : IsTotalOrder cmp) (exact : IsAntisymmetric cmp) (p : K → Bool) where
  abbrev among : K → List K → Bool
  among k ks = list_any (is_at (cmp k)) ks

  same_key : (a b : K) → is_at (cmp a) b ≡ true → a ≡ b
  same_key a b h = exact a b (tied (cmp a b) h) where
    tied : (o : Ordering) → is_eq o ≡ true → o ≡ Equal
    tied Less e = cc e
    tied Equal e = refl
    tied Greater e = cc e

  found_among : (ks : List K) (x : K) → find p ks ≡ Some x → among x ks ≡ true
  found_among [] x h = cc h
  found_among (k ∷ ks) x h = cases (found_among ks x) (p k) h where
    or_later : (a b : Bool) → b ≡ true → (a || b) ≡ true
    or_later true b e = refl
    or_later false b e = e

    cases : (find p ks ≡ Some x → among x ks ≡ true) → (b : Bool) → cond b (Some k) (find p ks) ≡ Some x → among x (k ∷ ks) ≡ true
    cases later true is =
        let e : k ≡ x = cc is in
        ap (λ y. is_eq (cmp x y) || among x ks) e ∙ ap (λ o. is_eq o || among x ks) (tied_itself total x)
    cases later false there = or_later (is_at (cmp x) k) (among x ks) (later there)

  found_passes : (ks : List K) (x : K) → find p ks ≡ Some x → p x ≡ true
  found_passes [] x h = cc h
  found_passes (k ∷ ks) x h = cases (found_passes ks x) (p k) refl h where
    cases : (find p ks ≡ Some x → p x ≡ true) → (b : Bool) → p k ≡ b → cond b (Some k) (find p ks) ≡ Some x → p x ≡ true
    cases later true passes is = let e : k ≡ x = cc is in ap p (sym e) ∙ passes
    cases later false other there = later there

  above_all : (x : K) (ks : List K) (y : K) → AllByRecursion (λ k. cmp x k ≡ Less) ks → among y ks ≡ true → cmp x y ≡ Less
  above_all x [] y below h = cc h
  above_all x (k ∷ ks) y below h = cases (above_all x ks y below.1) (is_at (cmp y) k) refl h where
    cases : (among y ks ≡ true → cmp x y ≡ Less) → (b : Bool) → is_at (cmp y) k ≡ b → (b || among y ks) ≡ true → cmp x y ≡ Less
    cases later true same _ = ap (cmp x) (same_key y k same) ∙ below.0
    cases later false other rest = later rest

  not_below : (x y : K) → cmp x y ≡ Less → cmp y x ≢ Less
  not_below x y h below = cc (total.antisymm y x ∙ ap ordering_reverse h, below)

  -- no key among them that passes is below it
  first_least : (ks : List K) (x y : K) → IsStrictlySortedBy cmp ks → find p ks ≡ Some x → among y ks ≡ true → p y ≡ true → cmp y x ≢ Less
  unfolding IsStrictlySortedBy
  first_least [] x y sorted h is_among passes = cc h
  first_least (k ∷ ks) x y sorted h is_among passes = cases (λ f a. first_least ks x y sorted.1 f a passes) (p k) refl (is_at (cmp y) k) refl h is_among where
    cases : (find p ks ≡ Some x → among y ks ≡ true → cmp y x ≢ Less) → (b : Bool) → p k ≡ b → (s : Bool) → is_at (cmp y) k ≡ s → cond b (Some k) (find p ks) ≡ Some x → (s || among y ks) ≡ true → cmp y x ≢ Less
    cases later true here true same f a =
        let e : k ≡ x = cc f in
        λ below. cc (below, ap (λ z. cmp z x) (same_key y k same ∙ e) ∙ tied_itself total x)
    cases later true here false other f a =
        let e : k ≡ x = cc f in
        let P : K → Type 0 = λ z. cmp y z ≢ Less in
        subst P e (not_below k y (above_all k ks y sorted.0 a))
    cases later false here true same f a = cc (here, passes, ap p (same_key y k same))
    cases later false here false other f a = later f a

  -- where none is found, none among them passes
  none_passes : (ks : List K) (y : K) → find p ks ≡ None → among y ks ≡ true → p y ≡ false
  none_passes [] y h a = cc a
  none_passes (k ∷ ks) y h a = cases (none_passes ks y) (p k) refl (is_at (cmp y) k) refl h a where
    cases : (find p ks ≡ None → among y ks ≡ true → p y ≡ false) → (b : Bool) → p k ≡ b → (s : Bool) → is_at (cmp y) k ≡ s → cond b (Some k) (find p ks) ≡ None → (s || among y ks) ≡ true → p y ≡ false
    cases later true here s same f a = cc f
    cases later false here true same f a = ap p (same_key y k same) ∙ here
    cases later false here false other f a = later f a

  any_found : (ks : List K) → list_any p ks ≡ true → (x : K) × (find p ks ≡ Some x)
  any_found [] h = cc h
  any_found (k ∷ ks) h = cases (any_found ks) (p k) h where
    cases : (list_any p ks ≡ true → (x : K) × (find p ks ≡ Some x)) → (b : Bool) → (b || list_any p ks) ≡ true → (x : K) × (cond b (Some k) (find p ks) ≡ Some x)
    cases later true h = (k, refl)
    cases later false h = later h

  none_found : (ks : List K) → list_any p ks ≡ false → find p ks ≡ None
  none_found [] h = refl
  none_found (k ∷ ks) h = cases (none_found ks) (p k) h where
    cases : (list_any p ks ≡ false → find p ks ≡ None) → (b : Bool) → (b || list_any p ks) ≡ false → cond b (Some k) (find p ks) ≡ None
    cases later true h = cc h
    cases later false h = later h

-- ---- a blob has one chosen listing

module _ (r : Repository) (blob : BlobId) where
  abbrev Pair : Type 0
  Pair = Spot × Id

  not_less : (a b : Spot) → ¬ IsLessSpot a b → spot_cmp a b ≢ Less
  not_less a b not below = not ((spot_less a b).0 below)

  equal : {K : Type 0} (cmp : K → K → Ordering) → IsTotalOrder cmp → IsAntisymmetric cmp → (a b : K) → cmp a b ≢ Less → cmp b a ≢ Less → a ≡ b
  equal cmp total exact a b ab ba = exact a b (cases (cmp a b) refl) where
    cases : (o : Ordering) → cmp a b ≡ o → cmp a b ≡ Equal
    cases Less is = absurd (ab is)
    cases Equal is = is
    cases Greater is = absurd (ba (total.antisymm b a ∙ ap ordering_reverse is))

  pub one_chosen : (a b : Option Pair) → IsChosen r blob a → IsChosen r blob b → a ≡ b
  one_chosen None None ha hb = refl
  one_chosen None (Some d) ha hb = absurd (ha d.0 d.1 hb.place)
  one_chosen (Some c) None ha hb = absurd (hb c.0 c.1 ha.place)
  one_chosen (Some c) (Some d) ha hb =
      let spots : c.0 ≡ d.0 =
      equal spot_cmp spot_total spot_exact c.0 d.0 (not_less c.0 d.0 (hb.least_spot c.0 c.1 ha.place)) (not_less d.0 c.0 (ha.least_spot d.0 d.1 hb.place)) in
      let L : Id → Spot → Type 0 = λ index spot. IsListed r blob spot index in
      let indexes : c.1 ≡ d.1 =
      equal id_cmp id_total id_exact c.1 d.1 (hb.least_index c.1 (subst (L c.1) spots ha.place.listed)) (ha.least_index d.1 (subst (L d.1) (sym spots) hb.place.listed)) in
      λ i. Some (spots i, indexes i)

  -- ---- the listings that are kept of it

  abbrev usable : Listing → Bool
  usable l = is_stored r (at blob l.spot) && is_usable r blob l.spot

  abbrev pair : Listing → Pair
  pair l = (l.spot, l.index)

  module _ (listings : List Listing) (kept : (l : Listing) → list_any (is_at (listing_cmp l)) listings ≡ lists_in r blob l) (ordered : IsStrictlySortedBy listing_cmp listings) where
    listed : (l : Listing) → list_any (is_at (listing_cmp l)) listings ≡ true → IsListed r blob l.spot l.index
    listed l h = sym (kept l) ∙ h

    listing_of : (spot : Spot) (index : Id) → IsListed r blob spot index → list_any (is_at (listing_cmp (record { spot = spot; index = index }))) listings ≡ true
    listing_of spot index h = kept (record { spot = spot; index = index }) ∙ h

    passes : (spot : Spot) (index : Id) → IsUsablePlace r blob spot index → usable (record { spot = spot; index = index }) ≡ true
    passes spot index place =
        ap (λ b. b && is_usable r blob spot) place.stored
        ∙ ap (λ b. b && is_honest r blob spot) place.unmarked ∙ place.honest

    open_place : (l : Listing) → list_any (is_at (listing_cmp l)) listings ≡ true → usable l ≡ true → IsUsablePlace r blob l.spot l.index
    open_place l h fits =
        let both = both_true (is_stored r (at blob l.spot)) (is_usable r blob l.spot) fits in
        let parts = both_true (is_unmarked r l.spot.pack) (is_honest r blob l.spot) both.1 in
        record { listed = listed l h; stored = both.0; honest = parts.1; unmarked = parts.0 }

    by_first : (o : Option Listing) → find usable listings ≡ o → IsChosen r blob (option_map pair o)
    by_first None none = λ spot index place.
        let l : Listing = record { spot = spot; index = index } in
        cc (none_passes listing_cmp listing_total listing_exact usable listings l none (listing_of spot index place.listed), passes spot index place)
    by_first (Some l) is =
        let least : (spot : Spot) (index : Id) → IsListed r blob spot index → usable (record { spot = spot; index = index }) ≡ true → listing_cmp (record { spot = spot; index = index }) l ≢ Less =
        λ spot index h fits. first_least listing_cmp listing_total listing_exact usable listings l (record { spot = spot; index = index }) ordered is (listing_of spot index h) fits in
        let fits : usable l ≡ true = found_passes listing_cmp listing_total listing_exact usable listings l is in
        record {
          place = open_place l (found_among listing_cmp listing_total listing_exact usable listings l is) fits;
          least_spot = λ spot index place lesser.
              least spot index place.listed (passes spot index place)
              (ap (λ o. ordering_then o (id_cmp index l.index)) ((spot_less spot l.spot).1 lesser));
          least_index = λ other h below.
              least l.spot other h fits
              (ap (λ o. ordering_then o (id_cmp other l.index)) (tied_itself spot_total l.spot) ∙ below);
        }

    pub first_chosen : option_map pair (find usable listings) ≡ chosen_listing r blob
    first_chosen = one_chosen _ _ (by_first (find usable listings) refl) (chosen_so r blob)

    -- ---- why it has no chosen one

    abbrev stored_at : Listing → Bool
    stored_at l = is_stored r (at blob l.spot)

    abbrev honest_at : Listing → Bool
    honest_at l = stored_at l && is_honest r blob l.spot

    pub missing_all : list_any stored_at listings ≡ false → MissingBlob blob.id ≡ missing r blob
    missing_all none = sym (missing_unlisted r blob (λ spot index h stored.
        let l : Listing = record { spot = spot; index = index } in
        cc (none_passes listing_cmp listing_total listing_exact stored_at listings l (none_found listing_cmp listing_total listing_exact stored_at listings none) (listing_of spot index h), stored)))

    pub missing_marked : list_any honest_at listings ≡ true → MissingBlob blob.id ≡ missing r blob
    missing_marked some =
        let found = any_found listing_cmp listing_total listing_exact honest_at listings some in
        let l = found.0 in
        let both = both_true (stored_at l) (is_honest r blob l.spot) (found_passes listing_cmp listing_total listing_exact honest_at listings l found.1) in
        sym (missing_honest r blob l.spot l.index (listed l (found_among listing_cmp listing_total listing_exact honest_at listings l found.1)) both.0 both.1)

    pub missing_hashed : list_any stored_at listings ≡ true → list_any honest_at listings ≡ false → WrongHash blob.id ≡ missing r blob
    missing_hashed some none =
        let found = any_found listing_cmp listing_total listing_exact stored_at listings some in
        let l = found.0 in
        sym (missing_wrong r blob l.spot l.index (listed l (found_among listing_cmp listing_total listing_exact stored_at listings l found.1)) (found_passes listing_cmp listing_total listing_exact stored_at listings l found.1) dishonest) where
          dishonest : (other : Spot) (by : Id) → IsListed r blob other by → IsStored r blob other → is_honest r blob other ≡ false
          dishonest other by h stored =
              let l : Listing = record { spot = other; index = by } in
              sym (ap (λ b. b && is_honest r blob other) stored)
              ∙ none_passes listing_cmp listing_total listing_exact honest_at listings l (none_found listing_cmp listing_total listing_exact honest_at listings none) (listing_of other by h)

  -- ---- a blob that isn't kept

  module _ (kept : (l : Listing) → false ≡ lists_in r blob l) where
    pub none_chosen : None ≡ chosen_listing r blob
    none_chosen = one_chosen None (chosen_listing r blob) (λ spot index place. cc (kept (record { spot = spot; index = index }), place.listed)) (chosen_so r blob)

    pub none_missing : MissingBlob blob.id ≡ missing r blob
    none_missing = sym (missing_unlisted r blob (λ spot index h _. cc (kept (record { spot = spot; index = index }), h)))
