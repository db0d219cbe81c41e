-- What a loop over a list has gathered, one turn later.
use Rattle.std.proofs.Common.{◌≡◌, ℕ, ◌+◌, ◌<◌, Bool, true, false, ◌||◌, cond, List, [], ◌∷◌, ◌++◌, map, take, length, get_or, Option, None, Some, option_map, option_to_list, refl, sym, ap, ◌∙◌}
use Rattle.std.proofs.Math.Bool.{or-false}
use Rattle.std.proofs.lemmas.List.{append_assoc, append-nil, map-append, map_more, take_more}
use Rattle.std.proofs.lemmas.List.Elements.{filter_map-append}
use Rattle.std.proofs.lemmas.List.Folds.{list_any-append}
use Rattle.std.proofs.lemmas.Grind.{flat_map-append}
use Rattle.std.specs.Cmp.{eq_by_cmp_equiv}
use Rattle.std.specs.FinMap.{find}
use Rattle.std.specs.List.{cons_option, filter_map, flat_map, list_any}
use Rattle.std.specs.Option.{option_or}
use Rattle.keep_names.specs.declared.blob.BlobId.{BlobId}
use Rattle.keep_names.specs.declared.blob.BlobType.TheVariants.{Content}
use Rattle.keep_names.specs.declared.id.Id.{Id}
use Rattle.keep_names.specs.declared.blob.Blob.{Blob}
use Rattle.keep_catalog.specs.Orders.{spot_cmp, packed_blob_eq}
use Rattle.keep_catalog.specs.Places.{candidate, is_among}
use Rattle.keep_catalog.specs.declared.spot.PackedBlob.{PackedBlob}
use Rattle.keep_catalog.specs.declared.spot.Spot.{Spot}
use Rattle.keep_catalog.proofs.Ordered.{find_append}
use Rattle.keep_catalog.proofs.SpotOrders.{packed_blob_total}

module _ {X : Type 0} (xs : List X) (i : ℕ) (x d : X) (lt : i < length xs) (is : x ≡ get_or xs i d) where
  pub taken_more : take (i + 1) xs ≡ take i xs ++ x ∷ []
  taken_more = take_more xs i d lt ∙ ap (λ y. take i xs ++ y ∷ []) (sym is)

  pub map_taken : {Y : Type 0} (f : X → Y) → map f (take (i + 1) xs) ≡ map f (take i xs) ++ f x ∷ []
  map_taken f = map_more f xs i d lt ∙ ap (λ y. map f (take i xs) ++ f y ∷ []) (sym is)

  pub flat_map_taken : {Y : Type 0} (f : X → List Y) → flat_map f (take (i + 1) xs) ≡ flat_map f (take i xs) ++ f x
  flat_map_taken f =
      ap (flat_map f) taken_more ∙ flat_map-append f (take i xs) (x ∷ [])
      ∙ ap (λ ys. flat_map f (take i xs) ++ ys) (append-nil (f x))

  pub filter_map_taken : {Y : Type 0} (h : X → Option Y) → filter_map h (take (i + 1) xs) ≡ filter_map h (take i xs) ++ option_to_list (h x)
  filter_map_taken {Y = Y} h =
      ap (filter_map h) taken_more ∙ filter_map-append h (take i xs) (x ∷ [])
      ∙ ap (λ ys. filter_map h (take i xs) ++ ys) (one_found (h x)) where
        one_found : (o : Option Y) → cons_option o [] ≡ option_to_list o
        one_found None = refl
        one_found (Some y) = refl

  -- a list that had these items behind it has one more
  pub more_noted : {Y : Type 0} (h : X → Option Y) (before now later : List Y) → now ≡ before ++ filter_map h (take i xs) → later ≡ now ++ option_to_list (h x) → later ≡ before ++ filter_map h (take (i + 1) xs)
  more_noted h before now later so step =
      step ∙ ap (λ ys. ys ++ option_to_list (h x)) so ∙ append_assoc before _ _
      ∙ ap (λ ys. before ++ ys) (sym (filter_map_taken h))

-- what was found, if something was, is mapped as the rest is
pub map-found : {X Y : Type 0} (f : X → Y) (xs : List X) (found : Option X) → map f (xs ++ option_to_list found) ≡ map f xs ++ option_to_list (option_map f found)
map-found f xs None = map-append f xs []
map-found f xs (Some x) = map-append f xs (x ∷ [])

put_last : {V : Type 0} (k a : Bool) (v before : V) → cond k v (cond a v before) ≡ cond (a || k) v before
put_last true true v before = refl
put_last true false v before = refl
put_last false true v before = refl
put_last false false v before = refl

-- places that were all given one value, and then one more
pub one_stored : {V : Type 0} (v before now later : V) (places : List PackedBlob) (p q : PackedBlob) → now ≡ cond (is_among places q) v before → later ≡ cond (packed_blob_eq p q) v now → later ≡ cond (is_among (places ++ p ∷ []) q) v before
one_stored v before now later places p q so step =
    step ∙ ap (cond (packed_blob_eq p q) v) so
    ∙ ap (λ b. cond b v (cond (is_among places q) v before)) ((eq_by_cmp_equiv packed_blob_total).symm p q)
    ∙ put_last (packed_blob_eq q p) (is_among places q) v before
    ∙ ap (λ b. cond b v before) (ap (λ b. is_among places q || b) (sym (or-false (packed_blob_eq q p))) ∙ sym (list_any-append (packed_blob_eq q) places (p ∷ [])))

-- the first listing of the blob at the spot
abbrev pub found_among : (PackedBlob → Bool) → BlobId → Spot → List (PackedBlob × Id) → Option Id
found_among stored blob spot listings = find spot_cmp spot (filter_map (candidate stored blob) listings)

module _ (stored : PackedBlob → Bool) (blob : BlobId) (spot : Spot) where
  pub found-append : (xs ys : List (PackedBlob × Id)) → found_among stored blob spot (xs ++ ys) ≡ option_or (found_among stored blob spot xs) (found_among stored blob spot ys)
  found-append xs ys = ap (find spot_cmp spot) (filter_map-append (candidate stored blob) xs ys) ∙ find_append spot_cmp spot _ _

-- what plain data is where a list has none
abbrev pub no_id : Id
no_id = record { 0 = [] }

abbrev pub no_entry : Blob
no_entry = record { blob = record { id = no_id; blob_type = Content }; offset = 0; length = 0 }

abbrev pub by_index : Id → PackedBlob → PackedBlob × Id
by_index index p = (p, index)

abbrev pub no_blob : BlobId
no_blob = record { id = no_id; blob_type = Content }

-- whether a test finds one more among the items taken
pub taken_any : {X : Type 0} (p : X → Bool) (xs : List X) (i : ℕ) (x d : X) → i < length xs → x ≡ get_or xs i d → list_any p (take (i + 1) xs) ≡ (list_any p (take i xs) || p x)
taken_any p xs i x d lt is =
    ap (list_any p) (taken_more xs i x d lt is) ∙ list_any-append p (take i xs) (x ∷ [])
    ∙ ap (λ b. list_any p (take i xs) || b) (or-false (p x))
