-- What `find` finds among the entries of a map is the least that passes the test, and so the chosen place the
-- least of the open ones.
use Rattle.std.proofs.Common.{◌≡◌, ◌≢◌, ◌&&◌, Bool, true, false, cond, List, [], ◌∷◌, Option, None, Some, is_some, refl, sym, ap, subst, ◌∙◌, T, Ordering, Less, Equal, Greater}
use Rattle.std.specs.Cmp.{tied_itself}
use Rattle.std.specs.FinMap as finite
use Rattle.std.specs.FinMap.Entries.{below_all}
use Rattle.std.specs.List.{find}
use Rattle.std.specs.Ordering.{eq_by_cmp, is_eq, is_lt, ordering_reverse}
use Rattle.std.proofs.lemmas.Map.Views.{tells_apart}
use Rattle.keep_names.specs.declared.blob.BlobId.{BlobId}
use Rattle.keep_names.specs.declared.id.Id.{Id}
use Rattle.keep_repo.specs.Repository.{Repository}
use Rattle.keep_catalog.specs.Chosen.{IsChosen, IsUsablePlace}
use Rattle.keep_catalog.specs.Orders.{spot_cmp}
use Rattle.keep_catalog.specs.Places.{chosen_listing, is_honest, is_usable, is_unmarked, spots_of}
use Rattle.keep_catalog.specs.declared.spot.Spot.{Spot}
use Rattle.keep_repo.proofs.Rising.{first_of_both, less, second_of_both}
use Rattle.keep_catalog.proofs.SpotOrders.{spot_exact, spot_less, spot_total}
use Rattle.keep_catalog.proofs.Spots.{spot_kept, spot_least, spot_listed, spot_stored}

both_of : (a b : Bool) → T a → T b → T (a && b)
both_of true b g h = h
both_of false b g h = g

-- a spot that is above another isn't below it, and isn't it
above : (a b : Spot) → spot_cmp a b ≡ Less → spot_cmp b a ≡ Greater
above a b h = spot_total.antisymm b a ∙ ap ordering_reverse h

not_below : (a b : Spot) → spot_cmp a b ≡ Less → spot_cmp b a ≢ Less
not_below a b h below = cc (above a b h, below)

not_itself : (a : Spot) → spot_cmp a a ≢ Less
not_itself a below = cc (tied_itself spot_total a, below)

abbrev pub Entries : Type 0
Entries = List (Spot × Id)

-- the spot after the first are above it
after_first : (x : Spot × Id) (es : Entries) (q : Spot) (w : Id) → T (finite.is_sorted spot_cmp (x ∷ es)) → finite.find spot_cmp q es ≡ Some w → spot_cmp x.0 q ≡ Less
after_first x [] q w sorted h = cc h
after_first x (y ∷ es) q w sorted h = cases (after_first x es q w rest) (eq_by_cmp spot_cmp q y.0) refl h where
  below : T (below_all spot_cmp x.0 (y ∷ es))
  below = first_of_both (below_all spot_cmp x.0 (y ∷ es)) (finite.is_sorted spot_cmp (y ∷ es)) sorted

  rest : T (finite.is_sorted spot_cmp (x ∷ es))
  rest =
      both_of (below_all spot_cmp x.0 es) (finite.is_sorted spot_cmp es)
      (second_of_both (is_lt (spot_cmp x.0 y.0)) (below_all spot_cmp x.0 es) below)
      (second_of_both (below_all spot_cmp y.0 es) (finite.is_sorted spot_cmp es)
      (second_of_both (below_all spot_cmp x.0 (y ∷ es)) (finite.is_sorted spot_cmp (y ∷ es)) sorted))

  cases : (finite.find spot_cmp q es ≡ Some w → spot_cmp x.0 q ≡ Less) → (b : Bool) → eq_by_cmp spot_cmp q y.0 ≡ b → cond b (Some y.1) (finite.find spot_cmp q es) ≡ Some w → spot_cmp x.0 q ≡ Less
  cases later true same _ = ap (spot_cmp x.0) (tells_apart spot_exact q y.0 same) ∙ less (spot_cmp x.0 y.0) (first_of_both (is_lt (spot_cmp x.0 y.0)) (below_all spot_cmp x.0 es) below)
  cases later false _ there = later there

module _ (p : Spot × Id → Bool) where
  -- where some entry passes, find finds one that it is not below
  pub picks : (es : Entries) (q : Spot) (w : Id) → T (finite.is_sorted spot_cmp es) → finite.find spot_cmp q es ≡ Some w → p (q, w) ≡ true → (e : Spot × Id) × (find p es ≡ Some e) × (spot_cmp q e.0 ≢ Less)
  picks [] q w sorted h passes = cc h
  picks (x ∷ es) q w sorted h passes =
      cases (λ there. picks es q w (second_of_both (below_all spot_cmp x.0 es) (finite.is_sorted spot_cmp es) sorted) there passes) (eq_by_cmp spot_cmp q x.0) refl (p x) refl h where
        cases : (finite.find spot_cmp q es ≡ Some w → (e : Spot × Id) × (find p es ≡ Some e) × (spot_cmp q e.0 ≢ Less)) → (same : Bool) → eq_by_cmp spot_cmp q x.0 ≡ same → (picked : Bool) → p x ≡ picked → cond same (Some x.1) (finite.find spot_cmp q es) ≡ Some w → (e : Spot × Id) × (cond picked (Some x) (find p es) ≡ Some e) × (spot_cmp q e.0 ≢ Less)
        cases later true same true picked there =
            let S : Spot → Type 0 = λ s. spot_cmp s x.0 ≢ Less in
            (x, refl, subst S (sym (tells_apart spot_exact q x.0 same)) (not_itself x.0))
        cases later true same false picked there =
            let at : q ≡ x.0 = tells_apart spot_exact q x.0 same in
            let is : w ≡ x.1 = cc there in
            let passes_here : p x ≡ true = ap p (λ i. ((sym at) i, (sym is) i)) ∙ passes in
            cc (picked, passes_here)
        cases later false other true picked there = (x, refl, not_below x.0 q (after_first x es q w sorted there))
        cases later false other false picked there = later there

  -- what find finds is an entry that passes
  pub finds : (es : Entries) (e : Spot × Id) → T (finite.is_sorted spot_cmp es) → find p es ≡ Some e → (finite.find spot_cmp e.0 es ≡ Some e.1) × (p e ≡ true)
  finds [] e sorted h = cc h
  finds (x ∷ es) e sorted h = cases (finds es e (second_of_both (below_all spot_cmp x.0 es) (finite.is_sorted spot_cmp es) sorted)) (p x) refl h where
    here : Spot × Id → Type 0
    here y = (finite.find spot_cmp y.0 (x ∷ es) ≡ Some y.1) × (p y ≡ true)

    apart : (o : Ordering) → o ≡ Greater → is_eq o ≡ false
    apart Less h = cc h
    apart Equal h = cc h
    apart Greater h = refl

    cases : (find p es ≡ Some e → (finite.find spot_cmp e.0 es ≡ Some e.1) × (p e ≡ true)) → (b : Bool) → p x ≡ b → cond b (Some x) (find p es) ≡ Some e → (finite.find spot_cmp e.0 (x ∷ es) ≡ Some e.1) × (p e ≡ true)
    cases later true picked is =
        let same : x ≡ e = cc is in
        subst here same (ap (λ o. cond (is_eq o) (Some x.1) (finite.find spot_cmp x.0 es)) (tied_itself spot_total x.0), picked)
    cases later false _ there =
        let found = later there in
        let other : is_eq (spot_cmp e.0 x.0) ≡ false = apart _ (above x.0 e.0 (after_first x es e.0 e.1 sorted found.0)) in
        (ap (λ b. cond b (Some x.1) (finite.find spot_cmp e.0 es)) other ∙ found.0, found.1)

abbrev open_at : Repository → BlobId → Spot × Id → Bool
open_at r blob e = is_usable r blob e.0

-- a spot that is kept and open, and the first of those
abbrev IsUsableSpot : Repository → BlobId → Spot → Id → Type 0
IsUsableSpot r blob spot index =
    (finite.get (spots_of r blob) spot ≡ Some index) × (is_usable r blob spot ≡ true)

abbrev IsFirstUsable : Repository → BlobId → Option (Spot × Id) → Type 0
IsFirstUsable r blob None = (spot : Spot) (index : Id) → ¬ IsUsableSpot r blob spot index
IsFirstUsable r blob (Some c) =
    IsUsableSpot r blob c.0 c.1
    × ((spot : Spot) (index : Id) → IsUsableSpot r blob spot index → spot_cmp spot c.0 ≢ Less)

first_chosen : (r : Repository) (blob : BlobId) → IsFirstUsable r blob (chosen_listing r blob)
unfolding chosen_listing
first_chosen r blob = cases (find (open_at r blob) es) refl where
  es : Entries
  es = finite.entries (spots_of r blob)

  sorted : T (finite.is_sorted spot_cmp es)
  sorted = finite.entries_sorted (spots_of r blob)

  listed : (q : Spot) (w : Id) → finite.get (spots_of r blob) q ≡ Some w → finite.find spot_cmp q es ≡ Some w
  listed q w h = sym (finite.get-entries (spots_of r blob) q) ∙ h

  cases : (o : Option (Spot × Id)) → find (open_at r blob) es ≡ o → IsFirstUsable r blob o
  cases None none = λ q w at_spot.
      let found = picks (open_at r blob) es q w sorted (listed q w at_spot.0) at_spot.1 in
      cc (none, found.1)
  cases (Some e) is =
      let found = finds (open_at r blob) es e sorted is in (
        (finite.get-entries (spots_of r blob) e.0 ∙ found.0, found.1),
        λ q w at_spot.
            let least = picks (open_at r blob) es q w sorted (listed q w at_spot.0) at_spot.1 in
            let same : least.0 ≡ e = cc (is, least.1) in
            let P : Spot × Id → Type 0 = λ x. spot_cmp q x.0 ≢ Less in
            subst P same least.2,
      )

-- ---- in the words of indexes, headers and bytes

pub both_true : (a b : Bool) → (a && b) ≡ true → (a ≡ true) × (b ≡ true)
both_true true b h = (refl, h)
both_true false b h = cc h

pub some_index : (o : Option Id) → is_some o ≡ true → (x : Id) × (o ≡ Some x)
some_index None h = cc h
some_index (Some x) h = (x, refl)

module _ (r : Repository) (blob : BlobId) where
  -- an open spot is an open place
  open_place : (spot : Spot) (index : Id) → IsUsableSpot r blob spot index → IsUsablePlace r blob spot index
  open_place spot index is =
      let parts = both_true (is_unmarked r spot.pack) (is_honest r blob spot) is.1 in
      record {
        listed = spot_listed r blob spot index is.0;
        stored = spot_stored r blob spot index is.0;
        honest = parts.1;
        unmarked = parts.0;
      }

  -- an open place is an open spot, by the index that is kept
  open_spot : (spot : Spot) (index : Id) → IsUsablePlace r blob spot index → (kept : Id) × IsUsableSpot r blob spot kept
  open_spot spot index place =
      let kept = some_index (finite.get (spots_of r blob) spot) (spot_kept r blob spot index place.listed place.stored) in
      (kept.0, (kept.1, ap (λ b. b && is_honest r blob spot) place.unmarked ∙ place.honest))

  by_places : (o : Option (Spot × Id)) → IsFirstUsable r blob o → IsChosen r blob o
  by_places None none = λ spot index place. let kept = open_spot spot index place in none spot kept.0 kept.1
  by_places (Some c) first = record {
    place = open_place c.0 c.1 first.0;
    least_spot = λ spot index place lesser.
        let kept = open_spot spot index place in
        first.1 spot kept.0 kept.1 ((spot_less spot c.0).1 lesser);
    least_index = spot_least r blob c.0 c.1 first.0.0;
  }

  -- the chosen place is the least of the open ones
  pub chosen_so : IsChosen r blob (chosen_listing r blob)
  chosen_so = by_places (chosen_listing r blob) (first_chosen r blob)
