-- Which spots a blob has: those at which an index lists it and the header of the pack has it.
use Rattle.std.proofs.Common.{◌≡◌, Bool, true, false, ◌&&◌, ◌||◌, cond, List, [], ◌∷◌, map, Option, None, Some, option_map, is_some, refl, sym, ap, subst, ◌∙◌, ℕ}
use Rattle.std.proofs.lemmas.Map.Views.{tells_apart}
use Rattle.std.specs.Cmp.{tied_itself}
use Rattle.std.specs.FinMap as finite
use Rattle.std.specs.List.{cons_option, filter_map, find, flat_map, list_any}
use Rattle.std.specs.Option.{option_or}
use Rattle.std.specs.Ordering.{is_eq}
use Rattle.keep_names.proofs.Orders.{id_exact}
use Rattle.keep_names.specs.declared.blob.BlobId.{BlobId}
use Rattle.keep_names.specs.declared.file_name.Kind.TheVariants.{Index}
use Rattle.keep_names.specs.declared.id.Id.{Id}
use Rattle.keep_repo.specs.Repository.{Repository}
use Rattle.keep_catalog.specs.Chosen.{IsLeastIndex, IsListed, IsStored}
use Rattle.keep_catalog.specs.Files.{file_in, ids_in, index_of, what_is_read}
use Rattle.keep_catalog.specs.Orders.{blob_eq, packed_blob_eq, same_id, spot_cmp, spot_eq}
use Rattle.keep_catalog.specs.Places.{at, candidate, is_among, is_stored, listed_in, listed_of, listings_in, listings_of, spots_of}
use Rattle.keep_catalog.specs.declared.spot.PackedBlob.{PackedBlob}
use Rattle.keep_catalog.specs.declared.spot.Spot.{Spot}
use Rattle.keep_catalog.proofs.Growing.{by_index, found-append, found_among}
use Rattle.keep_catalog.proofs.Ids.{first_is_least, id_there}
use Rattle.keep_catalog.proofs.SpotOrders.{blob_eq_refl, blob_eq_same, packed_blob_eq_same, packed_blob_total, spot_eq_same, spot_total}

-- ---- what is found among the listings of indexes

abbrev index_or_none : Bool → Id → Option Id
index_or_none b index = cond b (Some index) None

module _ (stored : PackedBlob → Bool) (blob : BlobId) (spot : Spot) where
  nothing : (s : Bool) (index : Id) → None ≡ index_or_none (s && false) index
  nothing true index = refl
  nothing false index = refl

  spot_eq_refl : spot_eq spot spot ≡ true
  spot_eq_refl = ap is_eq (tied_itself spot_total spot)

  -- where the first listing is of the blob at the spot
  first_here : (s any : Bool) (index : Id) (rest : List (Spot × Id)) → finite.find spot_cmp spot rest ≡ index_or_none (s && any) index → finite.find spot_cmp spot (cons_option (cond s (Some (spot, index)) None) rest) ≡ index_or_none (s && (true || any)) index
  first_here true any index rest later = ap (λ b. cond b (Some index) (finite.find spot_cmp spot rest)) spot_eq_refl
  first_here false any index rest later = later

  -- where it is of another blob, or elsewhere
  first_passed : (b s : Bool) (other : Spot) (index : Id) (rest : List (Spot × Id)) → (b ≡ true → spot_eq spot other ≡ false) → finite.find spot_cmp spot (cons_option (cond (b && s) (Some (other, index)) None) rest) ≡ finite.find spot_cmp spot rest
  first_passed true true other index rest apart = ap (λ q. cond q (Some index) (finite.find spot_cmp spot rest)) (apart refl)
  first_passed true false other index rest apart = refl
  first_passed false s other index rest apart = refl

  same_place : (p : PackedBlob) → blob_eq blob p.blob ≡ true → spot_eq spot p.spot ≡ true → packed_blob_eq (at blob spot) p ≡ true
  same_place p one other =
      let is : at blob spot ≡ p = λ i. at (blob_eq_same blob p.blob one i) (spot_eq_same spot p.spot other i) in
      let E : PackedBlob → Type 0 = λ x. packed_blob_eq (at blob spot) x ≡ true in
      subst E is (ap is_eq (tied_itself packed_blob_total (at blob spot)))

  elsewhere : (p : PackedBlob) → packed_blob_eq (at blob spot) p ≡ false → blob_eq blob p.blob ≡ true → spot_eq spot p.spot ≡ false
  elsewhere p other one = cases (spot_eq spot p.spot) refl where
    cases : (b : Bool) → spot_eq spot p.spot ≡ b → b ≡ false
    cases true same = cc (same_place p one same, other)
    cases false _ = refl

  -- one index: it is found just where it lists the blob there and a header has it
  one_index : (index : Id) (ps : List PackedBlob) → found_among stored blob spot (map (by_index index) ps) ≡ index_or_none (stored (at blob spot) && is_among ps (at blob spot)) index
  one_index index [] = nothing (stored (at blob spot)) index
  one_index index (p ∷ ps) = cases (one_index index ps) (packed_blob_eq (at blob spot) p) refl where
    rest : List (Spot × Id)
    rest = filter_map (candidate stored blob) (map (by_index index) ps)

    Found : PackedBlob → Bool → Type 0
    Found x b =
        finite.find spot_cmp spot (cons_option (candidate stored blob (x, index)) rest)
        ≡ index_or_none (stored (at blob spot) && (b || is_among ps (at blob spot))) index

    here : finite.find spot_cmp spot rest ≡ index_or_none (stored (at blob spot) && is_among ps (at blob spot)) index → Found (at blob spot) true
    here later =
        ap (λ b. finite.find spot_cmp spot (cons_option (cond (b && stored (at blob spot)) (Some (spot, index)) None) rest)) (blob_eq_refl blob)
        ∙ first_here (stored (at blob spot)) (is_among ps (at blob spot)) index rest later

    cases : finite.find spot_cmp spot rest ≡ index_or_none (stored (at blob spot) && is_among ps (at blob spot)) index → (b : Bool) → packed_blob_eq (at blob spot) p ≡ b → Found p b
    cases later true same = let F : PackedBlob → Type 0 = λ x. Found x true in subst F (packed_blob_eq_same (at blob spot) p same) (here later)
    cases later false other = first_passed (blob_eq blob p.blob) (stored p) p.spot index rest (elsewhere p other) ∙ later

  merged : (s a : Bool) (index : Id) (o : Option Id) → option_or (index_or_none (s && a) index) (cond s o None) ≡ cond s (cond a (Some index) o) None
  merged true true index o = refl
  merged true false index o = refl
  merged false a index o = refl

  without : (s : Bool) → None ≡ cond s (find {X = Id} (λ _. true) []) None
  without true = refl
  without false = refl

  -- all indexes: the first that lists it there
  all_indexes : (r : Repository) (ids : List Id) → found_among stored blob spot (flat_map (listings_of r) ids) ≡ cond (stored (at blob spot)) (find (λ index. is_among (listed_in r index) (at blob spot)) ids) None
  all_indexes r [] = without (stored (at blob spot))
  all_indexes r (index ∷ ids) =
      found-append stored blob spot (listings_of r index) (flat_map (listings_of r) ids)
      ∙ ap (λ o. option_or o (found_among stored blob spot (flat_map (listings_of r) ids))) (one_index index (listed_in r index))
      ∙ ap (option_or (index_or_none (stored (at blob spot) && is_among (listed_in r index) (at blob spot)) index)) (all_indexes r ids)
      ∙ merged (stored (at blob spot)) (is_among (listed_in r index) (at blob spot)) index (find (λ x. is_among (listed_in r x) (at blob spot)) ids)

-- what is kept of a blob's spot: the first index by name that lists it there, where the header has it
spot_index : (r : Repository) (blob : BlobId) (spot : Spot) → finite.get (spots_of r blob) spot ≡ cond (is_stored r (at blob spot)) (find (λ index. is_among (listed_in r index) (at blob spot)) (ids_in r Index)) None
unfolding spots_of
spot_index r blob spot =
    finite.get-from_entries spot_total (filter_map (candidate (is_stored r) blob) (listings_in r)) spot
    ∙ all_indexes (is_stored r) blob spot r (ids_in r Index)

-- ---- what that says

find_passes : {X : Type 0} (p : X → Bool) (xs : List X) (x : X) → find p xs ≡ Some x → p x ≡ true
find_passes p [] x h = cc h
find_passes {X = X} p (y ∷ xs) x h = cases (find_passes p xs x) (p y) refl h where
  cases : (find p xs ≡ Some x → p x ≡ true) → (b : Bool) → p y ≡ b → cond b (Some y) (find p xs) ≡ Some x → p x ≡ true
  cases later true passes is = let same : y ≡ x = cc is in ap p (sym same) ∙ passes
  cases later false other there = later there

find_there : (p : Id → Bool) (ids : List Id) (x : Id) → p x ≡ true → list_any (same_id x) ids ≡ true → is_some (find p ids) ≡ true
find_there p [] x passes among = cc among
find_there p (id ∷ ids) x passes among = cases (find_there p ids x passes) (p id) refl (same_id x id) refl among where
  cases : (list_any (same_id x) ids ≡ true → is_some (find p ids) ≡ true) → (b : Bool) → p id ≡ b → (s : Bool) → same_id x id ≡ s → (s || list_any (same_id x) ids) ≡ true → is_some (cond b (Some id) (find p ids)) ≡ true
  cases later true is s same _ = refl
  cases later false is true same _ = let e : p x ≡ p id = ap p (tells_apart id_exact x id same) in cc (e, passes, is)
  cases later false is false other rest = later rest

-- an index that lists something is there
lists_nothing : (p : PackedBlob) (o : Option (List ℕ)) → is_among (flat_map listed_of (what_is_read (option_map index_of o))) p ≡ true → is_some o ≡ true
lists_nothing p None h = cc h
lists_nothing p (Some bytes) h = refl

index_is_there : (r : Repository) (index : Id) (p : PackedBlob) → is_among (listed_in r index) p ≡ true → is_some (file_in r Index index) ≡ true
unfolding listed_in
index_is_there r index p h = lists_nothing p (file_in r Index index) h

module _ (r : Repository) (blob : BlobId) (spot : Spot) where
  abbrev lists : Id → Bool
  lists index = is_among (listed_in r index) (at blob spot)

  cases_of : (s : Bool) (o : Option Id) (index : Id) → cond s o None ≡ Some index → (s ≡ true) × (o ≡ Some index)
  cases_of true o index h = (refl, h)
  cases_of false o index h = cc h

  parts : (index : Id) → finite.get (spots_of r blob) spot ≡ Some index → (is_stored r (at blob spot) ≡ true) × (find lists (ids_in r Index) ≡ Some index)
  parts index h = cases_of (is_stored r (at blob spot)) (find lists (ids_in r Index)) index (sym (spot_index r blob spot) ∙ h)

  pub spot_listed : (index : Id) → finite.get (spots_of r blob) spot ≡ Some index → IsListed r blob spot index
  spot_listed index h = find_passes lists (ids_in r Index) index (parts index h).1

  pub spot_stored : (index : Id) → finite.get (spots_of r blob) spot ≡ Some index → IsStored r blob spot
  spot_stored index h = (parts index h).0

  pub spot_least : (index : Id) → finite.get (spots_of r blob) spot ≡ Some index → IsLeastIndex r blob spot index
  spot_least index h other listed =
      first_is_least Index r lists index other (parts index h).1 listed (id_there Index r other (index_is_there r other (at blob spot) listed))

  pub spot_kept : (index : Id) → IsListed r blob spot index → IsStored r blob spot → is_some (finite.get (spots_of r blob) spot) ≡ true
  spot_kept index listed stored =
      ap is_some (spot_index r blob spot)
      ∙ ap (λ s. is_some (cond s (find lists (ids_in r Index)) None)) stored
      ∙ find_there lists (ids_in r Index) index listed (id_there Index r index (index_is_there r index (at blob spot) listed))
