-- The list of used blobs is what snapshots reach, in order.
use Rattle.std.proofs.Common.{◌≡◌, ◌↔◌, ◌⊎◌, inl, inr, ℕ, zero, suc, Bool, true, false, ◌||◌, cond, List, [], ◌∷◌, ◌++◌, map, Option, None, Some, Result, Ok, Err, option_map, unwrap_or, is_some, refl, sym, ap, subst, ◌∙◌}
use Rattle.std.proofs.Math.Bool.{or-true}
use Rattle.std.proofs.lemmas.Map.Keys.{IsDistinct-from_sorted}
use Rattle.std.proofs.lemmas.Map.Made.{keys_of-map_values, lookup-map_values}
use Rattle.std.specs.BTreeMap.{IsOrdered, is_at}
use Rattle.std.specs.BTreeMap as tree
use Rattle.std.specs.FinMap as finite
use Rattle.std.specs.List.{IsDistinct, flat_map, list_any}
use Rattle.std.specs.List.Sorted.{IsStrictlySortedBy}
use Rattle.std.specs.Map.{keys_of}
use Rattle.std.specs.Option.{IsSomeAnd, option_map_or}
use Rattle.std.specs.Result.{IfOk, result_ok}
use Rattle.keep_names.proofs.Orders.{blob_exact, blob_total}
use Rattle.keep_names.specs.Orders.{blob_cmp}
use Rattle.keep_names.specs.declared.blob.BlobId.{BlobId}
use Rattle.keep_names.specs.declared.id.Id.{Id}
use Rattle.keep_repo.proofs.Maps.{get_made, keys_made}
use Rattle.keep_repo.specs.Repository.{Repository}
use Rattle.keep_snap.specs.Snap.{SnapData}
use Rattle.keep_catalog.specs.Files.{snap_in, snaps_in}
use Rattle.keep_catalog.specs.Naming.{named_by}
use Rattle.keep_catalog.specs.Ordered.{in_order, keyed}
use Rattle.keep_catalog.specs.Orders.{blob_eq}
use Rattle.keep_reach.specs.Reach.{HasBlob, Naming, Names, Reaches, has_type_tree, most_levels}
use Rattle.keep_reach.specs.Snapshots.{IsUsed, Owes, root_of}
use Rattle.keep_reach.specs.Used.{names_or_none, reached_by, reached_from, reached_in, used_in}
use Rattle.keep_reach.specs.Walk.{Knows, Walked}
use Rattle.keep_reach.specs.declared.reached_blobs.ReachedBlob.{ReachedBlob}
use Rattle.keep_catalog.specs.declared.reach_error.ReachError.{ReachError}
use Rattle.keep_repo.proofs.Rising.{keys_in_order}
use Rattle.keep_catalog.proofs.Ordered.{in_order-same, is_some-keyed, same_test}
use Rattle.keep_reach.proofs.Reached.{SomeOf, name_there, owing_is_there, some_name, some_named}
use Rattle.keep_catalog.proofs.SpotOrders.{blob_eq_refl, blob_eq_same}
use Rattle.keep_reach.proofs.Walking.{in_first, in_one}

in_second : (xs ys : List BlobId) (b : BlobId) → HasBlob ys b → HasBlob (xs ++ ys) b
in_second [] ys b h = h
in_second (x ∷ xs) ys b h = inr (in_second xs ys b h)

module _ {X : Type 0} (f : X → List BlobId) (b : BlobId) where
  in_flat : (xs : List X) → HasBlob (flat_map f xs) b → SomeOf (λ x. HasBlob (f x) b) xs
  in_flat [] h = absurd h
  in_flat (x ∷ xs) h = elim (in_one (f x) (flat_map f xs) b h) [ inl here ↦ inl here | inr there ↦ inr (in_flat xs there) ]

  out_flat : (xs : List X) → SomeOf (λ x. HasBlob (f x) b) xs → HasBlob (flat_map f xs) b
  out_flat [] h = absurd h
  out_flat (x ∷ xs) (inl here) = in_first (f x) (flat_map f xs) b here
  out_flat (x ∷ xs) (inr there) = in_second (f x) (flat_map f xs) b (out_flat xs there)

some_blob : (P : BlobId → Type 0) (xs : List BlobId) → SomeOf P xs → (c : BlobId) × HasBlob xs c × P c
some_blob P [] h = absurd h
some_blob P (x ∷ xs) (inl here) = (x, inl refl, here)
some_blob P (x ∷ xs) (inr there) = let rest = some_blob P xs there in (rest.0, inr rest.1, rest.2)

blob_some : (P : BlobId → Type 0) (xs : List BlobId) (c : BlobId) → HasBlob xs c → P c → SomeOf P xs
blob_some P [] c among here = absurd among
blob_some P (x ∷ xs) c (inl same) here = inl (subst P (sym same) here)
blob_some P (x ∷ xs) c (inr there) here = inr (blob_some P xs c there here)

-- ---- what is reached from a blob

module _ (named : Naming) where
  named_so : (a c : BlobId) (t : Result (List BlobId) ReachError) → named a ≡ t → HasBlob (unwrap_or (result_ok t) []) c → Names named a c
  named_so a c (Ok xs) is among = rw is among
  named_so a c (Err why) is among = absurd among

  so_named : (a c : BlobId) (t : Result (List BlobId) ReachError) → named a ≡ t → Names named a c → HasBlob (unwrap_or (result_ok t) []) c
  so_named a c (Ok xs) is names = (rw is at names)
  so_named a c (Err why) is names = absurd (rw is at names)

  at_bottom : (a b : BlobId) (t : Bool) → has_type_tree a.blob_type ≡ t → HasBlob (cond t [] (a ∷ [])) b → (has_type_tree a.blob_type ≡ false) × (a ≡ b)
  at_bottom a b true is h = absurd h
  at_bottom a b false is (inl same) = (is, same)
  at_bottom a b false is (inr none) = absurd none

  pub list_reaches : (levels : ℕ) (a b : BlobId) → HasBlob (reached_from named levels a) b → Reaches named levels a b
  list_reaches zero a b h = at_bottom a b (has_type_tree a.blob_type) refl h
  list_reaches (suc levels) a b (inl same) = inl same
  list_reaches (suc levels) a b (inr h) =
      let found = some_blob (λ c. HasBlob (reached_from named levels c) b) (names_or_none named a) (in_flat (reached_from named levels) b (names_or_none named a) h) in
      inr (found.0, named_so a found.0 (named a) refl found.1, list_reaches levels found.0 b found.2)

  pub reaches_list : (levels : ℕ) (a b : BlobId) → Reaches named levels a b → HasBlob (reached_from named levels a) b
  reaches_list zero a b reaches =
      let B : Bool → Type 0 = λ t. HasBlob (cond t [] (a ∷ [])) b in subst B (sym reaches.0) (inl reaches.1)
  reaches_list (suc levels) a b (inl same) = inl same
  reaches_list (suc levels) a b (inr through) =
      inr (out_flat (reached_from named levels) b (names_or_none named a)
      (blob_some (λ c. HasBlob (reached_from named levels c) b) (names_or_none named a) through.0 (so_named a through.0 (named a) refl through.1) (reaches_list levels through.0 b through.2)))

-- ---- what all snapshots reach

module _ (r : Repository) (b : BlobId) where
  by_one : (s : Id) → HasBlob (reached_by r s) b → Owes r s b
  by_one s h = cases (snap_in r s) h where
    cases : (o : Option SnapData) → HasBlob (option_map_or (λ snap. reached_from (named_by r) most_levels (root_of snap)) o []) b → IsSomeAnd o (λ snap. Reaches (named_by r) most_levels (root_of snap) b)
    cases None none = absurd none
    cases (Some snap) among = list_reaches (named_by r) most_levels (root_of snap) b among

  one_by : (s : Id) → Owes r s b → HasBlob (reached_by r s) b
  one_by s h = cases (snap_in r s) h where
    cases : (o : Option SnapData) → IsSomeAnd o (λ snap. Reaches (named_by r) most_levels (root_of snap) b) → HasBlob (option_map_or (λ snap. reached_from (named_by r) most_levels (root_of snap)) o []) b
    cases None none = absurd none
    cases (Some snap) reaches = reaches_list (named_by r) most_levels (root_of snap) b reaches

  reached_used : HasBlob (reached_in r) b → IsUsed r b
  reached_used h =
      let found = some_name (λ s. HasBlob (reached_by r s) b) (finite.keys (snaps_in r)) (in_flat (reached_by r) b (finite.keys (snaps_in r)) h) in
      (found.0, by_one found.0 found.1)

  used_reached : IsUsed r b → HasBlob (reached_in r) b
  used_reached used =
      out_flat (reached_by r) b (finite.keys (snaps_in r))
      (some_named (λ s. HasBlob (reached_by r s) b) (finite.keys (snaps_in r)) used.0 (name_there r used.0 (owing_is_there r used.0 b used.1)) (one_by used.0 used.1))

-- ---- in order

has_any : (xs : List BlobId) (b : BlobId) → HasBlob xs b → list_any (blob_eq b) xs ≡ true
has_any [] b h = absurd h
has_any (x ∷ xs) b (inl same) =
    let E : BlobId → Type 0 = λ y. (blob_eq y x || list_any (blob_eq y) xs) ≡ true in
    subst E same (ap (λ t. t || list_any (blob_eq x) xs) (blob_eq_refl x))
has_any (x ∷ xs) b (inr there) = ap (λ t. blob_eq b x || t) (has_any xs b there) ∙ or-true (blob_eq b x)

any_has : (xs : List BlobId) (b : BlobId) → list_any (blob_eq b) xs ≡ true → HasBlob xs b
any_has [] b h = cc h
any_has (x ∷ xs) b h = cases (any_has xs b) (blob_eq b x) refl h where
  cases : (list_any (blob_eq b) xs ≡ true → HasBlob xs b) → (t : Bool) → blob_eq b x ≡ t → (t || list_any (blob_eq b) xs) ≡ true → (x ≡ b) ⊎ HasBlob xs b
  cases later true same _ = inl (sym (blob_eq_same b x same))
  cases later false other rest = inr (later rest)

abbrev made : List BlobId → finite.FinMap blob_cmp (Unit {0})
made xs = finite.from_entries (map keyed xs)

pub used_listed : (r : Repository) (b : BlobId) → HasBlob (used_in r) b ↔ IsUsed r b
unfolding used_in
used_listed r b = (
  λ h. reached_used r b (any_has (reached_in r) b (sym (in_order-same blob_total b (reached_in r)) ∙ has_any (in_order blob_cmp (reached_in r)) b h)),
  λ used. any_has (in_order blob_cmp (reached_in r)) b (in_order-same blob_total b (reached_in r) ∙ has_any (reached_in r) b (used_reached r b used)),
)

pub used_sorted : (r : Repository) → IsStrictlySortedBy blob_cmp (used_in r)
unfolding used_in
used_sorted r = keys_in_order blob_cmp (made (reached_in r))

pub used_distinct : (r : Repository) → IsDistinct blob_eq (used_in r)
used_distinct r = IsDistinct-from_sorted blob_cmp (used_in r) (used_sorted r)

-- ---- what a walk knows, in order, is the list

pub both_ok : {X Y : Type 0} (r : Result X Y) (P Q R : X → Type 0) → ((x : X) → P x → Q x → R x) → IfOk r P → IfOk r Q → IfOk r R
both_ok (Ok x) P Q R f p q = f x p q
both_ok (Err e) P Q R f p q = tt

nothing_else : (x : Option (Unit {0})) → x ≡ cond (is_some x) (Some tt) None
nothing_else None = refl
nothing_else (Some u) = refl

pub keys_are_used : (r : Repository) (reached : Walked) → IsOrdered blob_cmp reached → ((b : BlobId) → Knows reached b ↔ IsUsed r b) → tree.keys reached ≡ used_in r
unfolding used_in
keys_are_used r reached ordered just =
    sym (keys_of-map_values nothing reached.entries) ∙ sym (keys_made blob_total es sorted) ∙ ap (λ m. finite.keys m) same where
      nothing : ReachedBlob → Unit {0}
      nothing found = tt

      es : List (BlobId × Unit {0})
      es = map (λ e. (e.0, nothing e.1)) reached.entries

      sorted : IsStrictlySortedBy blob_cmp (keys_of es)
      sorted = subst (λ (ks : List BlobId). IsStrictlySortedBy blob_cmp ks) (sym (keys_of-map_values nothing reached.entries)) ordered

      some_unit : (o : Option ReachedBlob) → is_some (option_map nothing o) ≡ is_some o
      some_unit None = refl
      some_unit (Some x) = refl

      known : (q : BlobId) → is_some (finite.get (finite.from_entries {R = blob_cmp} es) q) ≡ is_some (tree.get blob_cmp reached q)
      known q =
          ap is_some (get_made blob_total es q ∙ lookup-map_values nothing (is_at (blob_cmp q)) reached.entries)
          ∙ some_unit (tree.get blob_cmp reached q)

      alike : (q : BlobId) → is_some (tree.get blob_cmp reached q) ≡ list_any (blob_eq q) (reached_in r)
      alike q =
          same_test _ _ (λ h. has_any (reached_in r) q (used_reached r q ((just q).0 (record { known = h }))))
          (λ h. ((just q).1 (reached_used r q (any_has (reached_in r) q h))).known)

      same : finite.from_entries {R = blob_cmp} es ≡ made (reached_in r)
      same =
          finite.same_map blob_total blob_exact _ _ (λ q.
          nothing_else _
          ∙ ap (λ t. cond t (Some tt) None) (known q ∙ alike q ∙ sym (is_some-keyed blob_total q (reached_in r)))
          ∙ sym (nothing_else _))
