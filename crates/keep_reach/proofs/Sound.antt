-- What no refusal says of what is reached, and what a refusal says where all that is reached is there.
use Rattle.std.proofs.Common.{◌≡◌, ◌⊎◌, inl, inr, ℕ, zero, suc, Bool, true, false, ◌||◌, cond, List, [], ◌∷◌, Option, None, Some, Result, Ok, Err, option_map, is_some, refl, sym, ap, subst, ◌∙◌}
use Rattle.std.proofs.lemmas.List.Elements.{All-from_recursion}
use Rattle.std.proofs.lemmas.Map.Views.{tells_apart}
use Rattle.std.specs.FinMap as finite
use Rattle.std.specs.List.{All, AllByRecursion, cons_option, filter_map, list_any}
use Rattle.std.specs.Option.{IsSomeAnd, option_map_or, option_or}
use Rattle.keep_names.proofs.Orders.{id_exact}
use Rattle.keep_names.specs.declared.blob.BlobId.{BlobId}
use Rattle.keep_names.specs.declared.blob.BlobType.{BlobType}
use Rattle.keep_names.specs.declared.blob.BlobType.TheVariants.{Content, Tree}
use Rattle.keep_names.specs.declared.id.Id.{Id}
use Rattle.keep_repo.specs.Repository.{Repository}
use Rattle.keep_snap.specs.Snap.{SnapData}
use Rattle.keep_tree.specs.Tree.{NodeData}
use Rattle.keep_tree.specs.declared.tree.TreeError.{TreeError}
use Rattle.keep_catalog.specs.Files.{snap_in, snaps_in}
use Rattle.keep_catalog.specs.Naming.{blobs_named, named_by, names_at, nodes_read, read_tree_of}
use Rattle.keep_catalog.specs.Orders.{same_id}
use Rattle.keep_catalog.specs.Places.{at, bytes_at, chosen, chosen_listing}
use Rattle.keep_reach.specs.Reach.{HasBlob, Names, Reaches, first_of, has_type_tree, most_levels, own_or, refusal_at}
use Rattle.keep_reach.specs.Snapshots.{Owes, broken_by, broken_in, refusal_of, root_of}
use Rattle.keep_reach.specs.Sound.{IsOfTree, IsSound}
use Rattle.keep_catalog.specs.declared.reach_error.ReachError.{ReachError}
use Rattle.keep_catalog.specs.declared.reach_error.ReachError.TheVariants.{BadTree, TooDeep}
use Rattle.keep_catalog.specs.declared.spot.Spot.{Spot}
use Rattle.keep_catalog.proofs.Naming.{named_nowhere, named_there}
use Rattle.keep_reach.proofs.Reached.{its_refusal, name_there}

-- ---- lists of blobs, and their refusals

none_of : (refusal : BlobId → Option ReachError) (xs : List BlobId) (b : BlobId) → first_of refusal xs ≡ None → HasBlob xs b → refusal b ≡ None
none_of refusal [] b none among = absurd among
none_of refusal (x ∷ xs) b none among = cases (none_of refusal xs b) (refusal x) refl none among where
  cases : (first_of refusal xs ≡ None → HasBlob xs b → refusal b ≡ None) → (o : Option ReachError) → refusal x ≡ o → option_or o (first_of refusal xs) ≡ None → (x ≡ b) ⊎ HasBlob xs b → refusal b ≡ None
  cases later None is rest (inl same) = ap refusal (sym same) ∙ is
  cases later None is rest (inr there) = later rest there
  cases later (Some why) is rest among = cc rest

some_refused : (refusal : BlobId → Option ReachError) (xs : List BlobId) (why : ReachError) → first_of refusal xs ≡ Some why → (x : BlobId) × HasBlob xs x × (refusal x ≡ Some why)
some_refused refusal [] why h = cc h
some_refused refusal (x ∷ xs) why h = cases (some_refused refusal xs why) (refusal x) refl h where
  cases : (first_of refusal xs ≡ Some why → (y : BlobId) × HasBlob xs y × (refusal y ≡ Some why)) → (o : Option ReachError) → refusal x ≡ o → option_or o (first_of refusal xs) ≡ Some why → (y : BlobId) × ((x ≡ y) ⊎ HasBlob xs y) × (refusal y ≡ Some why)
  cases later None is rest = let found = later rest in (found.0, inr found.1, found.2)
  cases later (Some own) is same = (x, inl refl, is ∙ same)

unrefused : (xs : List BlobId) → first_of (λ _. None) xs ≡ None
unrefused [] = refl
unrefused (x ∷ xs) = unrefused xs

module _ (r : Repository) where
  -- ---- a blob that is had, and one that isn't

  had : (a : BlobId) (xs : List BlobId) → named_by r a ≡ Ok xs → is_some (chosen r a) ≡ true
  had a xs is = cases (chosen_listing r a) refl where
    cases : (o : Option (Spot × Id)) → chosen_listing r a ≡ o → is_some (option_map (λ e. at a e.0) o) ≡ true
    cases None none = cc (named_nowhere r a none, is)
    cases (Some e) _ = refl

  of_read : (read : Result (List NodeData) TreeError) (why : ReachError) → blobs_named (nodes_read read) ≡ Err why → IsOfTree why
  of_read (Ok nodes) why h = cc h
  of_read (Err refusal) why h = let e : BadTree ≡ why = cc h in inr (sym e)

  of_bytes : (spot : Spot) (blob_type : BlobType) (why : ReachError) → names_at r blob_type spot ≡ Err why → IsOfTree why
  of_bytes spot Content why h = cc h
  of_bytes spot Tree why h = cases (bytes_at r spot) h where
    cases : (o : Option (List ℕ)) → blobs_named (option_map_or (λ bytes. nodes_read (read_tree_of bytes)) o (Err BadTree)) ≡ Err why → IsOfTree why
    cases None is = let e : BadTree ≡ why = cc is in inr (sym e)
    cases (Some bytes) is = of_read (read_tree_of bytes) why is

  -- a chosen blob that can't be named is a tree whose bytes aren't one
  not_had : (a : BlobId) (why : ReachError) → is_some (chosen r a) ≡ true → named_by r a ≡ Err why → IsOfTree why
  not_had a why there is = cases (chosen_listing r a) refl there where
    cases : (o : Option (Spot × Id)) → chosen_listing r a ≡ o → is_some (option_map (λ e. at a e.0) o) ≡ true → IsOfTree why
    cases None _ none = cc none
    cases (Some e) listed _ = of_bytes e.0 a.blob_type why (sym (named_there r a e listed) ∙ is)

  -- ---- where nothing is refused all that is reached is there

  own_had : (refusal : BlobId → Option ReachError) (a : BlobId) → own_or refusal (named_by r a) ≡ None → (xs : List BlobId) × (named_by r a ≡ Ok xs) × (first_of refusal xs ≡ None)
  own_had refusal a none = cases (named_by r a) refl none where
    cases : (t : Result (List BlobId) ReachError) → named_by r a ≡ t → own_or refusal t ≡ None → (xs : List BlobId) × (named_by r a ≡ Ok xs) × (first_of refusal xs ≡ None)
    cases (Ok xs) is h = (xs, is, h)
    cases (Err why) is h = cc h

  reached_there : (levels : ℕ) (a b : BlobId) → refusal_at (named_by r) levels a ≡ None → Reaches (named_by r) levels a b → is_some (chosen r b) ≡ true
  reached_there zero a b none reaches =
      let own : own_or (λ _. None) (named_by r a) ≡ None =
      sym (ap (λ t. cond t (Some TooDeep) (own_or (λ _. None) (named_by r a))) reaches.0) ∙ none in
      let is = own_had (λ _. None) a own in
      let C : BlobId → Type 0 = λ x. is_some (chosen r x) ≡ true in
      subst C reaches.1 (had a is.0 is.1)
  reached_there (suc levels) a b none (inl same) =
      let is = own_had (refusal_at (named_by r) levels) a none in
      let C : BlobId → Type 0 = λ x. is_some (chosen r x) ≡ true in
      subst C same (had a is.0 is.1)
  reached_there (suc levels) a b none (inr through) =
      let is = own_had (refusal_at (named_by r) levels) a none in
      let among : HasBlob is.0 through.0 = names_of_ok is.0 is.1 through.1 in
      reached_there levels through.0 b (none_of (refusal_at (named_by r) levels) is.0 through.0 is.2 among) through.2 where
        names_of_ok : (xs : List BlobId) → named_by r a ≡ Ok xs → Names (named_by r) a through.0 → HasBlob xs through.0
        names_of_ok xs is names = (rw is at names)

  -- ---- where all that is reached is there a refusal is of a tree

  refused_of_tree : (levels : ℕ) (a : BlobId) (why : ReachError) → ((b : BlobId) → Reaches (named_by r) levels a b → is_some (chosen r b) ≡ true) → refusal_at (named_by r) levels a ≡ Some why → IsOfTree why
  refused_of_tree zero a why there h = by_type (has_type_tree a.blob_type) refl h where
    by_name : (t : Result (List BlobId) ReachError) → named_by r a ≡ t → has_type_tree a.blob_type ≡ false → own_or (λ _. None) t ≡ Some why → IsOfTree why
    by_name (Ok xs) is piece h = cc (unrefused xs, h)
    by_name (Err own) is piece h =
        let e : own ≡ why = cc h in
        not_had a why (there a (piece, refl)) (is ∙ ap Err e)

    by_type : (t : Bool) → has_type_tree a.blob_type ≡ t → cond t (Some TooDeep) (own_or (λ _. None) (named_by r a)) ≡ Some why → IsOfTree why
    by_type true is h = let e : TooDeep ≡ why = cc h in inl (sym e)
    by_type false is h = by_name (named_by r a) refl is h
  refused_of_tree (suc levels) a why there h = by_name (λ x below refused. refused_of_tree levels x why below refused) (named_by r a) refl h where
    Later : Type 0
    Later = (x : BlobId) → ((b : BlobId) → Reaches (named_by r) levels x b → is_some (chosen r b) ≡ true) → refusal_at (named_by r) levels x ≡ Some why → IsOfTree why

    by_name : Later → (t : Result (List BlobId) ReachError) → named_by r a ≡ t → own_or (refusal_at (named_by r) levels) t ≡ Some why → IsOfTree why
    by_name later (Ok xs) is h =
        let found = some_refused (refusal_at (named_by r) levels) xs why h in
        later found.0 (λ b reaches. there b (inr (found.0, rw is found.1, reaches))) found.2
    by_name later (Err own) is h =
        let e : own ≡ why = cc h in
        not_had a why (there a (inl refl)) (is ∙ ap Err e)

  -- ---- of snapshots

  unbroken : (snapshots : List Id) (s : Id) → filter_map (broken_by r) snapshots ≡ [] → list_any (same_id s) snapshots ≡ true → refusal_of r s ≡ None
  unbroken [] s none among = cc among
  unbroken (x ∷ xs) s none among = cases (unbroken xs s) (refusal_of r x) refl none (same_id s x) refl among where
    cases : (filter_map (broken_by r) xs ≡ [] → list_any (same_id s) xs ≡ true → refusal_of r s ≡ None) → (o : Option ReachError) → refusal_of r x ≡ o → cons_option (option_map (λ why. (x, why)) o) (filter_map (broken_by r) xs) ≡ [] → (b : Bool) → same_id s x ≡ b → (b || list_any (same_id s) xs) ≡ true → refusal_of r s ≡ None
    cases later None is rest true same _ = ap (refusal_of r) (tells_apart id_exact s x same) ∙ is
    cases later None is rest false other there = later rest there
    cases later (Some why) is rest b _ there = cc rest

  pub unbroken_sound : broken_in r ≡ [] → IsSound r
  unbroken_sound none snapshot blob owes = cases (snap_in r snapshot) refl owes where
    cases : (o : Option SnapData) → snap_in r snapshot ≡ o → IsSomeAnd o (λ snap. Reaches (named_by r) most_levels (root_of snap) blob) → is_some (chosen r blob) ≡ true
    cases None is h = absurd h
    cases (Some snap) is reaches =
        let there : list_any (same_id snapshot) (finite.keys (snaps_in r)) ≡ true = name_there r snapshot (ap is_some is) in
        let kept : refusal_of r snapshot ≡ None = unbroken (finite.keys (snaps_in r)) snapshot none there in
        reached_there most_levels (root_of snap) blob (sym (its_refusal r snapshot snap (sym is)) ∙ kept) reaches

  sound_refusal : IsSound r → (snapshot : Id) (why : ReachError) → refusal_of r snapshot ≡ Some why → IsOfTree why
  sound_refusal sound snapshot why h = cases (snap_in r snapshot) refl where
    cases : (o : Option SnapData) → snap_in r snapshot ≡ o → IsOfTree why
    cases None is = let none : refusal_of r snapshot ≡ None = rw is refl in cc (none, h)
    cases (Some snap) is =
        refused_of_tree most_levels (root_of snap) why (λ b reaches. sound snapshot b (owes_so b reaches)) (sym (its_refusal r snapshot snap (sym is)) ∙ h) where
          owes_so : (b : BlobId) → Reaches (named_by r) most_levels (root_of snap) b → Owes r snapshot b
          owes_so b reaches = rw is reaches

  each_of_tree : IsSound r → (snapshots : List Id) → AllByRecursion (λ broken. IsOfTree broken.1) (filter_map (broken_by r) snapshots)
  each_of_tree sound [] = tt
  each_of_tree sound (s ∷ ss) = cases (each_of_tree sound ss) (refusal_of r s) refl where
    cases : AllByRecursion (λ broken. IsOfTree broken.1) (filter_map (broken_by r) ss) → (o : Option ReachError) → refusal_of r s ≡ o → AllByRecursion (λ broken. IsOfTree broken.1) (cons_option (option_map (λ why. (s, why)) o) (filter_map (broken_by r) ss))
    cases later None is = later
    cases later (Some why) is = (sound_refusal sound s why is, later)

  pub sound_broken : IsSound r → All (λ broken. IsOfTree broken.1) (broken_in r)
  sound_broken sound = All-from_recursion _ (broken_in r) (each_of_tree sound (finite.keys (snaps_in r)))
