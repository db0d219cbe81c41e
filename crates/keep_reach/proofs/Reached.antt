-- What snapshots reach, and what of it is refused, by their names and by the snapshots that a catalog keeps.
use Rattle.std.proofs.Common.{◌≡◌, ◌↔◌, ◌⊎◌, inl, inr, Bool, true, false, ◌||◌, ℕ, zero, suc, ◌<◌, List, [], ◌∷◌, map, length, get_or, Option, None, Some, option_map, is_some, refl, sym, ap, subst, ◌∙◌, arith}
use Rattle.std.proofs.lemmas.List.Elements.{recursion_from_All}
use Rattle.std.proofs.lemmas.Map.Made.{keys_of-map_values}
use Rattle.std.proofs.lemmas.Map.Views.{All-found, tells_apart}
use Rattle.std.specs.BTreeMap.{BTreeMap, IsOrdered}
use Rattle.std.specs.BTreeMap as tree
use Rattle.std.specs.FinMap as finite
use Rattle.std.specs.List.{AllByRecursion, Any, cons_option, filter_map, list_any, slice_get}
use Rattle.std.specs.Map.{keys_of}
use Rattle.std.specs.Option.{IsSomeAnd, option_or}
use Rattle.keep_names.proofs.Orders.{id_exact, id_total}
use Rattle.keep_names.specs.Orders.{id_cmp}
use Rattle.keep_names.specs.declared.blob.BlobId.{BlobId}
use Rattle.keep_names.specs.declared.id.Id.{Id}
use Rattle.keep_repo.specs.Repository.{Repository}
use Rattle.keep_snap.specs.Snap.{SnapData, snap_view}
use Rattle.keep_snap.specs.declared.snap.Snap.{Snap}
use Rattle.keep_catalog.specs.Files.{snap_in, snaps_in}
use Rattle.keep_catalog.specs.Naming.{named_by}
use Rattle.keep_catalog.specs.Orders.{same_id}
use Rattle.keep_catalog.specs.Kept.{snap_at}
use Rattle.keep_reach.specs.Reach.{HasBlob, Reaches, first_of, most_levels}
use Rattle.keep_reach.specs.Snapshots.{IsOwedByOne, IsUsed, Owes, broken_by, broken_in, refusal_from, refusal_of, refusals_of, root_of}
use Rattle.keep_reach.specs.Walk.{ReachedFrom}
use Rattle.keep_catalog.specs.declared.reach_error.ReachError.{ReachError}
use Rattle.keep_catalog.proofs.SnapsKept.{entry_view, get_snap}

-- ---- some item of a list

abbrev pub SomeOf : {X : Type 0} → (X → Type 0) → List X → Type 0
SomeOf P [] = ⊥
SomeOf P (x ∷ xs) = P x ⊎ SomeOf P xs

module _ {X : Type 0} (P : X → Type 0) where
  pub any_of : (xs : List X) → SomeOf P xs → Any P xs
  any_of [] h = absurd h
  any_of (x ∷ xs) (inl here) = (0, x, omega arith, refl, here)
  any_of (x ∷ xs) (inr there) =
      let rest = any_of xs there in
      let within : rest.0 < length xs = rest.2 in
      (suc rest.0, rest.1, omega arith, rest.3, rest.4)

  some_at : (xs : List X) (k : ℕ) (y : X) → k < length xs → get_or xs k y ≡ y → P y → SomeOf P xs
  some_at [] k y h is here = absurd (omega arith)
  some_at (x ∷ xs) zero y h is here = inl (subst P (sym is) here)
  some_at (x ∷ xs) (suc k) y h is here = inr (some_at xs k y (omega arith) is here)

  pub some_of : (xs : List X) → Any P xs → SomeOf P xs
  some_of xs any = some_at xs any.0 any.1 any.2 any.3 any.4

pub some_named : (P : Id → Type 0) (ids : List Id) (id : Id) → list_any (same_id id) ids ≡ true → P id → SomeOf P ids
some_named P [] id among here = cc among
some_named P (x ∷ ids) id among here = cases (λ rest. some_named P ids id rest here) (same_id id x) refl among where
  cases : (list_any (same_id id) ids ≡ true → SomeOf P ids) → (b : Bool) → same_id id x ≡ b → (b || list_any (same_id id) ids) ≡ true → P x ⊎ SomeOf P ids
  cases later true same _ = inl (subst P (tells_apart id_exact id x same) here)
  cases later false other rest = inr (later rest)

pub some_name : (P : Id → Type 0) (ids : List Id) → SomeOf P ids → (id : Id) × P id
some_name P [] h = absurd h
some_name P (x ∷ ids) (inl here) = (x, here)
some_name P (x ∷ ids) (inr there) = some_name P ids there

-- ---- snapshots by their names

-- the root of the snapshot of this name
abbrev pub root_in : Repository → Id → Option BlobId
root_in r snapshot = option_map root_of (snap_in r snapshot)

module _ (r : Repository) where
  -- a snapshot that can be read is among their names
  pub name_there : (snapshot : Id) → is_some (snap_in r snapshot) ≡ true → list_any (same_id snapshot) (finite.keys (snaps_in r)) ≡ true
  name_there snapshot there =
      sym (finite.contains_key-keys (snaps_in r) snapshot) ∙ ap is_some (get_snap r snapshot) ∙ there

  pub owing_is_there : (snapshot : Id) (b : BlobId) → Owes r snapshot b → is_some (snap_in r snapshot) ≡ true
  owing_is_there snapshot b owes = cases (snap_in r snapshot) owes where
    cases : (o : Option SnapData) → IsSomeAnd o (λ snap. Reaches (named_by r) most_levels (root_of snap) b) → is_some o ≡ true
    cases None h = absurd h
    cases (Some snap) h = refl

  -- the first refusal from the roots is that of the first snapshot that has one
  pub first_refusals : (snapshots : List Id) → first_of (refusal_from r) (filter_map (root_in r) snapshots) ≡ slice_get (refusals_of r snapshots) 0
  first_refusals [] = refl
  first_refusals (s ∷ ss) = cases (first_refusals ss) (snap_in r s) refl where
    rest : Option ReachError
    rest = first_of (refusal_from r) (filter_map (root_in r) ss)

    found : (why : Option ReachError) → rest ≡ slice_get (refusals_of r ss) 0 → option_or why rest ≡ slice_get (cons_option why (refusals_of r ss)) 0
    found None later = later
    found (Some why) later = refl

    cases : rest ≡ slice_get (refusals_of r ss) 0 → (o : Option SnapData) → snap_in r s ≡ o → first_of (refusal_from r) (cons_option (option_map root_of o) (filter_map (root_in r) ss)) ≡ slice_get (refusals_of r (s ∷ ss)) 0
    cases later None is = later ∙ sym (rw is refl)
    cases later (Some snap) is = found (refusal_from r (root_of snap)) later ∙ sym (rw is refl)

  no_refusals : (whys : List ReachError) → slice_get whys 0 ≡ None → whys ≡ []
  no_refusals [] h = refl
  no_refusals (why ∷ whys) h = cc h

  pub none_refused : (snapshots : List Id) → first_of (refusal_from r) (filter_map (root_in r) snapshots) ≡ None → refusals_of r snapshots ≡ []
  none_refused snapshots none = no_refusals (refusals_of r snapshots) (sym (first_refusals snapshots) ∙ none)

  -- what one of the roots reaches is what one of the snapshots reaches
  from_roots : (snapshots : List Id) (top b : BlobId) → HasBlob (filter_map (root_in r) snapshots) top → Reaches (named_by r) most_levels top b → SomeOf (λ s. Owes r s b) snapshots
  from_roots [] top b among reaches = absurd among
  from_roots (s ∷ ss) top b among reaches = cases (λ rest. from_roots ss top b rest reaches) (snap_in r s) refl among where
    cases : (HasBlob (filter_map (root_in r) ss) top → SomeOf (λ x. Owes r x b) ss) → (o : Option SnapData) → snap_in r s ≡ o → HasBlob (cons_option (option_map root_of o) (filter_map (root_in r) ss)) top → Owes r s b ⊎ SomeOf (λ x. Owes r x b) ss
    cases later None is rest = inr (later rest)
    cases later (Some snap) is (inl same) =
        let R : BlobId → Type 0 = λ x. Reaches (named_by r) most_levels x b in
        inl (rw is (subst R (sym same) reaches))
    cases later (Some snap) is (inr rest) = inr (later rest)

  to_roots : (snapshots : List Id) (b : BlobId) → SomeOf (λ s. Owes r s b) snapshots → ReachedFrom (named_by r) most_levels (filter_map (root_in r) snapshots) b
  to_roots [] b h = absurd h
  to_roots (s ∷ ss) b h = cases (to_roots ss b) (snap_in r s) h where
    From : List BlobId → Type 0
    From tops = ReachedFrom (named_by r) most_levels tops b

    cases : (SomeOf (λ x. Owes r x b) ss → From (filter_map (root_in r) ss)) → (o : Option SnapData) → IsSomeAnd o (λ snap. Reaches (named_by r) most_levels (root_of snap) b) ⊎ SomeOf (λ x. Owes r x b) ss → From (cons_option (option_map root_of o) (filter_map (root_in r) ss))
    cases later None (inl owes) = absurd owes
    cases later None (inr there) = later there
    cases later (Some snap) (inl owes) = record { top = root_of snap; among = inl refl; reached = owes }
    cases later (Some snap) (inr there) =
        let from = later there in
        record { top = from.top; among = inr from.among; reached = from.reached }

  pub owed_by_one : (snapshots : List Id) (b : BlobId) → ReachedFrom (named_by r) most_levels (filter_map (root_in r) snapshots) b ↔ IsOwedByOne r snapshots b
  owed_by_one snapshots b = (
    λ from. any_of (λ s. Owes r s b) snapshots (from_roots snapshots from.top b from.among from.reached),
    λ owed. to_roots snapshots b (some_of (λ s. Owes r s b) snapshots owed),
  )

  -- ---- one snapshot, and all

  pub owed_alone : (snapshot : Id) (b : BlobId) → IsOwedByOne r (snapshot ∷ []) b ↔ Owes r snapshot b
  owed_alone snapshot b = (
    λ owed. elim (some_of (λ s. Owes r s b) (snapshot ∷ []) owed) [ inl owes ↦ owes | inr none ↦ absurd none ],
    λ owes. any_of (λ s. Owes r s b) (snapshot ∷ []) (inl owes),
  )

  pub owed_by_all : (b : BlobId) → IsOwedByOne r (finite.keys (snaps_in r)) b ↔ IsUsed r b
  owed_by_all b = (
    λ owed. some_name (λ s. Owes r s b) (finite.keys (snaps_in r)) (some_of (λ s. Owes r s b) (finite.keys (snaps_in r)) owed),
    λ used.
        any_of (λ s. Owes r s b) (finite.keys (snaps_in r))
        (some_named (λ s. Owes r s b) (finite.keys (snaps_in r)) used.0 (name_there used.0 (owing_is_there used.0 b used.1)) used.1),
  )

  refusals_alone : (why : Option ReachError) → cons_option why [] ≡ [] → why ≡ None
  refusals_alone None h = refl
  refusals_alone (Some why) h = cc h

  pub none_alone : (snapshot : Id) → refusals_of r (snapshot ∷ []) ≡ [] → refusal_of r snapshot ≡ None
  none_alone snapshot = refusals_alone (refusal_of r snapshot)

  first_alone : (why : Option ReachError) → slice_get (cons_option why []) 0 ≡ why
  first_alone None = refl
  first_alone (Some why) = refl

  pub first_is_its : (snapshot : Id) → slice_get (refusals_of r (snapshot ∷ [])) 0 ≡ refusal_of r snapshot
  first_is_its snapshot = first_alone (refusal_of r snapshot)

  -- the refusals of the broken are those of all
  broken_refusals : (snapshots : List Id) → map (λ b. b.1) (filter_map (broken_by r) snapshots) ≡ refusals_of r snapshots
  broken_refusals [] = refl
  broken_refusals (s ∷ ss) = cases (broken_refusals ss) (refusal_of r s) where
    cases : map (λ b. b.1) (filter_map (broken_by r) ss) ≡ refusals_of r ss → (o : Option ReachError) → map (λ b. b.1) (cons_option (option_map (λ why. (s, why)) o) (filter_map (broken_by r) ss)) ≡ cons_option o (refusals_of r ss)
    cases later None = later
    cases later (Some why) = ap (λ whys. why ∷ whys) later

  no_items : (bs : List (Id × ReachError)) → map (λ b. b.1) bs ≡ [] → bs ≡ []
  no_items [] h = refl
  no_items (b ∷ bs) h = cc h

  pub none_broken : refusals_of r (finite.keys (snaps_in r)) ≡ [] → broken_in r ≡ []
  none_broken none = no_items (broken_in r) (broken_refusals (finite.keys (snaps_in r)) ∙ none)

  first_item : (bs : List (Id × ReachError)) → option_map (λ b. b.1) (slice_get bs 0) ≡ slice_get (map (λ b. b.1) bs) 0
  first_item [] = refl
  first_item (b ∷ bs) = refl

  pub first_broken : option_map (λ b. b.1) (slice_get (broken_in r) 0) ≡ slice_get (refusals_of r (finite.keys (snaps_in r))) 0
  first_broken = first_item (broken_in r) ∙ ap (λ whys. slice_get whys 0) (broken_refusals (finite.keys (snaps_in r)))

-- ---- the snapshots that a catalog keeps

pub all_roots : (r : Repository) (snaps : BTreeMap Id Snap) → ((q : Id) → snap_at snaps q ≡ snap_in r q) → (snapshots : List Id) (roots : List BlobId) → roots ≡ filter_map (λ name. option_map root_of (snap_at snaps name)) snapshots → roots ≡ filter_map (root_in r) snapshots
all_roots r snaps each snapshots roots are =
    are ∙ (λ i. filter_map (λ name. option_map root_of (each name i)) snapshots)

abbrev root_at : Id × Snap → BlobId
root_at e = root_of (snap_view e.1)

-- a snapshot that is kept, and its refusal
abbrev pub broken_at : Repository → Id × Snap → Option (Id × ReachError)
broken_at r e = option_map (λ why. (e.0, why)) (refusal_from r (root_at e))

abbrev Says : Repository → Id × Snap → Type 0
Says r e = snap_in r e.0 ≡ Some (snap_view e.1)

broken_said : (r : Repository) (e : Id × Snap) → Says r e → broken_at r e ≡ broken_by r e.0
broken_said r e says = rw says refl

all_broken : (r : Repository) (es : List (Id × Snap)) → AllByRecursion (Says r) es → filter_map (broken_at r) es ≡ filter_map (broken_by r) (keys_of es)
all_broken r [] says = refl
all_broken r (e ∷ es) says =
    ap (λ o. cons_option o (filter_map (broken_at r) es)) (broken_said r e says.0)
    ∙ ap (cons_option (broken_by r e.0)) (all_broken r es says.1)

module _ (r : Repository) (snaps : BTreeMap Id Snap) (ordered : IsOrdered id_cmp snaps) (each : (q : Id) → snap_at snaps q ≡ snap_in r q) (all : map entry_view snaps.entries ≡ finite.entries (snaps_in r)) where
  abbrev Got : Id × Snap → Type 0
  Got e = tree.get id_cmp snaps e.0 ≡ Some e.1

  said : (es : List (Id × Snap)) → AllByRecursion Got es → AllByRecursion (Says r) es
  said [] got = tt
  said (e ∷ es) got = (sym (each e.0) ∙ ap (option_map snap_view) got.0, said es got.1)

  all_said : AllByRecursion (Says r) snaps.entries
  all_said = said snaps.entries (recursion_from_All Got snaps.entries (All-found id_total snaps ordered))

  -- the kept snapshots that have a refusal
  pub kept_broken : filter_map (broken_at r) snaps.entries ≡ broken_in r
  kept_broken =
      all_broken r snaps.entries all_said
      ∙ ap (filter_map (broken_by r)) (sym (keys_of-map_values snap_view snaps.entries) ∙ ap keys_of all)

  -- their names
  pub kept_names : tree.keys snaps ≡ finite.keys (snaps_in r)
  kept_names = sym (keys_of-map_values snap_view snaps.entries) ∙ ap keys_of all

-- ---- one snapshot

module _ (r : Repository) (snapshot : Id) where
  pub its_refusal : (snap : SnapData) → Some snap ≡ snap_in r snapshot → refusal_of r snapshot ≡ refusal_from r (root_of snap)
  its_refusal snap is = rw (sym is) refl
