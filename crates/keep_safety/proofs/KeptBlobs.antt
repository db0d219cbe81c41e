-- Each blob that is offered is in a built pack, or is used where it is.
use Rattle.std.proofs.Common.{◌≡◌, ◌⊎◌, inl, inr, Bool, true, false, ◌||◌, not, cond, List, [], ◌∷◌, map, filter, Option, None, Some, is_none, refl, sym, ap, ◌∙◌}
use Rattle.std.specs.List.{flat_map, list_any}
use Rattle.std.proofs.lemmas.List.Folds.{list_any-append}
use Rattle.std.proofs.lemmas.Map.Views.{tells_apart}
use Rattle.keep_catalog.specs.Orders.{blob_eq}
use Rattle.keep_catalog.specs.Places.{chosen_listing}
use Rattle.keep_index.specs.Joining.{first_of_each}
use Rattle.keep_catalog.specs.declared.spot.Spot.{Spot}
use Rattle.keep_names.proofs.Orders.{blob_exact}
use Rattle.keep_names.specs.declared.blob.BlobId.{BlobId}
use Rattle.keep_names.specs.declared.blob.BlobType.{BlobType}
use Rattle.keep_names.specs.declared.blob.BlobType.TheVariants.{Content, Tree}
use Rattle.keep_names.specs.declared.id.Id.{Id}
use Rattle.keep_repo.specs.Repository.{Repository}
use Rattle.keep_plan.proofs.Recorded.{use_recorded}
use Rattle.keep_build.specs.Blobs.{BlobData, blob_id_of, is_new, is_of, is_same, is_tree_type, names_once, new_of}
use Rattle.keep_safety.specs.Kept.{IsKept, is_built}
use Rattle.keep_build.specs.Packs.{packs_of}
use Rattle.keep_build.specs.Stored.{built, stored_of}
use Rattle.keep_safety.proofs.CutPacks.{are_cut}

module _ (name : BlobId) where
  abbrev is_it : BlobData → Bool
  is_it b = blob_eq name (blob_id_of b)

  pub named_any : (bs : List BlobData) → list_any (blob_eq name) (map blob_id_of bs) ≡ list_any is_it bs
  named_any [] = refl
  named_any (b ∷ bs) = ap (λ t. is_it b || t) (named_any bs)

  -- those that are like an earlier one go, which isn't it
  still_there : (b : BlobData) (bs : List BlobData) → is_it b ≡ false → list_any is_it (filter (λ y. not (is_same b y)) bs) ≡ list_any is_it bs
  still_there b [] other = refl
  still_there b (y ∷ ys) other = cases (still_there b ys other) (is_same b y) refl where
    rest : List BlobData
    rest = filter (λ z. not (is_same b z)) ys

    cases : list_any is_it rest ≡ list_any is_it ys → (t : Bool) → is_same b y ≡ t → list_any is_it (cond (not t) (y ∷ rest) rest) ≡ (is_it y || list_any is_it ys)
    cases later true same =
        let isnt : is_it y ≡ false = ap (λ (n : BlobId). blob_eq name n) (sym (tells_apart blob_exact (blob_id_of b) (blob_id_of y) same)) ∙ other in
        later ∙ ap (λ t. t || list_any is_it ys) (sym isnt)
    cases later false apart = ap (λ t. is_it y || t) later

  once_any : (bs : List BlobData) → list_any is_it (first_of_each is_same bs) ≡ list_any is_it bs
  once_any [] = refl
  once_any (b ∷ bs) = cases (once_any bs) (is_it b) refl where
    cases : list_any is_it (first_of_each is_same bs) ≡ list_any is_it bs → (t : Bool) → is_it b ≡ t → (t || list_any is_it (filter (λ y. not (is_same b y)) (first_of_each is_same bs))) ≡ (t || list_any is_it bs)
    cases later true is = refl
    cases later false other = still_there b (first_of_each is_same bs) other ∙ later

  offered_once : (bs : List BlobData) → list_any (blob_eq name) (map blob_id_of bs) ≡ true → list_any (blob_eq name) (names_once bs) ≡ true
  offered_once bs h = named_any (first_of_each is_same bs) ∙ once_any bs ∙ sym (named_any bs) ∙ h

  -- ---- where it has no place, it is new

  module _ (r : Repository) (none : chosen_listing r name ≡ None) where
    new_any : (bs : List BlobData) → list_any is_it (filter (is_new r) bs) ≡ list_any is_it bs
    new_any [] = refl
    new_any (b ∷ bs) = cases (new_any bs) (is_it b) refl (is_new r b) refl where
      rest : List BlobData
      rest = filter (is_new r) bs

      cases : list_any is_it rest ≡ list_any is_it bs → (t : Bool) → is_it b ≡ t → (n : Bool) → is_new r b ≡ n → list_any is_it (cond n (b ∷ rest) rest) ≡ (t || list_any is_it bs)
      cases later t is true new = (λ i. is i || later i)
      cases later true same false there =
          let new : is_new r b ≡ true = ap (λ (n : BlobId). is_none (chosen_listing r n)) (sym (tells_apart blob_exact name (blob_id_of b) same)) ∙ ap is_none none in
          cc (new, there)
      cases later false other false there = later

  either_type : (u : BlobType) → (is_tree_type u ≡ true) ⊎ (not (is_tree_type u) ≡ true)
  either_type Content = inr refl
  either_type Tree = inl refl

  -- of one type or the other
  type_any : (bs : List BlobData) → list_any is_it bs ≡ true → (list_any is_it (filter (is_of Content) bs) || list_any is_it (filter (is_of Tree) bs)) ≡ true
  type_any [] h = cc h
  type_any (b ∷ bs) h = cases (type_any bs) (is_it b) refl h b.0 refl where
    pieces : List BlobData
    pieces = filter (is_of Content) bs

    trees : List BlobData
    trees = filter (is_of Tree) bs

    cases : (list_any is_it bs ≡ true → (list_any is_it pieces || list_any is_it trees) ≡ true) → (t : Bool) → is_it b ≡ t → (t || list_any is_it bs) ≡ true → (u : BlobType) → b.0 ≡ u
        → (list_any is_it (cond (not (is_tree_type b.0)) (b ∷ pieces) pieces) || list_any is_it (cond (is_tree_type b.0) (b ∷ trees) trees)) ≡ true
    cases later t is found Content of =
        ap (λ u. list_any is_it (cond (not (is_tree_type u)) (b ∷ pieces) pieces) || list_any is_it (cond (is_tree_type u) (b ∷ trees) trees)) of ∙ here t is found where
          here : (t : Bool) → is_it b ≡ t → (t || list_any is_it bs) ≡ true → ((is_it b || list_any is_it pieces) || list_any is_it trees) ≡ true
          here true same _ = ap (λ x. (x || list_any is_it pieces) || list_any is_it trees) same
          here false other rest = ap (λ x. (x || list_any is_it pieces) || list_any is_it trees) other ∙ later rest
    cases later t is found Tree of =
        ap (λ u. list_any is_it (cond (not (is_tree_type u)) (b ∷ pieces) pieces) || list_any is_it (cond (is_tree_type u) (b ∷ trees) trees)) of ∙ here t is found where
          swapped : (a b c : Bool) → (a || (b || c)) ≡ (b || (a || c))
          swapped true true c = refl
          swapped true false c = refl
          swapped false b c = refl

          here : (t : Bool) → is_it b ≡ t → (t || list_any is_it bs) ≡ true → (list_any is_it pieces || (is_it b || list_any is_it trees)) ≡ true
          here true same _ = swapped (list_any is_it pieces) (is_it b) (list_any is_it trees) ∙ ap (λ x. x || (list_any is_it pieces || list_any is_it trees)) same
          here false other rest = swapped (list_any is_it pieces) (is_it b) (list_any is_it trees) ∙ ap (λ x. x || (list_any is_it pieces || list_any is_it trees)) other ∙ later rest

  -- ---- what is new is in the packs

  joined_any : (packs : List (List BlobData)) → list_any is_it (flat_map (λ pack. pack) packs) ≡ list_any (list_any is_it) packs
  joined_any [] = refl
  joined_any (p ∷ ps) = list_any-append is_it p (flat_map (λ pack. pack) ps) ∙ ap (λ t. list_any is_it p || t) (joined_any ps)

  packed_any : (bs : List BlobData) → list_any (list_any is_it) (packs_of bs) ≡ list_any is_it bs
  packed_any bs = sym (joined_any (packs_of bs)) ∙ ap (list_any is_it) (are_cut bs).joined

  built_any : (r : Repository) (bs : List BlobData) → list_any is_it bs ≡ true → chosen_listing r name ≡ None → is_built r bs name ≡ true
  unfolding new_of
  built_any r bs among none =
      list_any-append (list_any is_it) (packs_of (new_of Content r bs)) (packs_of (new_of Tree r bs))
      ∙ (λ i. packed_any (new_of Content r bs) i || packed_any (new_of Tree r bs) i)
      ∙ type_any (filter (is_new r) (first_of_each is_same bs)) (new_any r none (first_of_each is_same bs) ∙ once_any bs ∙ among)

pub kept_so : (r : Repository) (blobs : List BlobData) (name : BlobId) → list_any (blob_eq name) (map blob_id_of blobs) ≡ true → IsKept r blobs name
unfolding stored_of
kept_so r blobs name offered = cases (chosen_listing r name) refl where
  cases : (o : Option (Spot × Id)) → chosen_listing r name ≡ o → IsKept r blobs name
  cases None none = inl (built_any name r blobs (sym (named_any name blobs) ∙ offered) none)
  cases (Some place) some = inr (place, some, use_recorded r (names_once blobs) (built r blobs) name place (offered_once name blobs offered) some)
