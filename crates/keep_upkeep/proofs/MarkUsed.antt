-- What the uses of reached blobs rest on, where a walk found them.
use Rattle.std.proofs.Common.{◌≡◌, List, [], ◌∷◌, ◌++◌, map, None, Some, sym, ap, subst}
use Rattle.std.specs.BTreeMap.{BTreeMap}
use Rattle.std.specs.BTreeMap as tree
use Rattle.std.specs.List.{AllByRecursion, Contains}
use Rattle.std.specs.Map.{keys_of}
use Rattle.std.specs.Option.{option_map}
use Rattle.std.proofs.lemmas.List.{map-append}
use Rattle.std.proofs.lemmas.List.Elements.{All-contains_itself, recursion_from_All}
use Rattle.std.proofs.lemmas.Map.Views.{btree_map_get_iff}
use Rattle.keep_names.proofs.Orders.{blob_exact, blob_total}
use Rattle.keep_names.specs.Orders.{blob_cmp}
use Rattle.keep_names.specs.declared.blob.BlobId.{BlobId}
use Rattle.keep_names.specs.declared.id.Id.{Id}
use Rattle.keep_repo.specs.Repository.{Repository}
use Rattle.keep_catalog.specs.Places.{chosen_listing, reuse_of}
use Rattle.keep_reach.specs.Used.{used_in}
use Rattle.keep_reach.specs.Walk.{AreChosen}
use Rattle.keep_reach.specs.declared.reached_blobs.ReachedBlob.{ReachedBlob}
use Rattle.keep_catalog.specs.declared.spot.Spot.{Spot}
use Rattle.keep_plan.proofs.Ordered.{each_so}
use Rattle.keep_plan.specs.Reuse.{RestOn}
use Rattle.keep_plan.specs.declared.reuses.Reuses.{Reuses}

-- each of these was found at its chosen place
abbrev pub IsFound : Repository → BlobId × ReachedBlob → Type 0
IsFound r e = chosen_listing r e.0 ≡ Some (e.1.spot, e.1.index)

abbrev pub AreFound : Repository → List (BlobId × ReachedBlob) → Type 0
AreFound r found = AllByRecursion (IsFound r) found

-- then just what their uses rest on
abbrev pub RestOnThese : List (BlobId × ReachedBlob) → Reuses → Type 0
RestOnThese found reuses = (r : Repository) → AreFound r found → RestOn r (keys_of found) reuses

split_last : {X : Type 0} (P : X → Type 0) (xs : List X) (x : X) → AllByRecursion P (xs ++ x ∷ []) → AllByRecursion P xs × P x
split_last P [] x h = (tt, h.0)
split_last P (y ∷ xs) x h = let rest = split_last P xs x h.1 in ((h.0, rest.0), rest.1)

pub one_more_found : (done : List (BlobId × ReachedBlob)) (e : BlobId × ReachedBlob) (old new : Reuses) → RestOnThese done old
    → ((r : Repository) (blobs : List BlobId) (blob : BlobId) → reuse_of r blob ≡ Some (e.1.spot.pack, e.1.index) → RestOn r blobs old → RestOn r (blobs ++ blob ∷ []) new)
    → RestOnThese (done ++ e ∷ []) new
one_more_found done e old new rests step r are =
    let parts = split_last (IsFound r) done e are in
    let Rests : List BlobId → Type 0 = λ blobs. RestOn r blobs new in
    subst Rests (sym (map-append (λ (x : BlobId × ReachedBlob). x.0) done (e ∷ [])))
    (step r (keys_of done) e.0 (ap (option_map (λ (c : Spot × Id). (c.0.pack, c.1))) parts.1) (rests r parts.0))

-- all that a walk has found
pub all_found : (m : BTreeMap BlobId ReachedBlob) (done : List (BlobId × ReachedBlob)) (reuses : Reuses) → done ≡ m.entries → tree.IsOrdered blob_cmp m → RestOnThese done reuses
    → (r : Repository) → AreChosen (chosen_listing r) m → RestOn r (tree.keys m) reuses
all_found m done reuses same ordered rests r chosen =
    let Rests : List (BlobId × ReachedBlob) → Type 0 = λ es. RestOn r (keys_of es) reuses in
    subst Rests same (rests r (subst (AreFound r) (sym same) each)) where
      each : AreFound r m.entries
      each =
          each_so (Contains m.entries) (IsFound r) (λ e among. chosen e.0 e.1 ((btree_map_get_iff blob_total blob_exact m ordered e.0 e.1).1 among)) m.entries
          (recursion_from_All (Contains m.entries) m.entries (All-contains_itself m.entries))

pub all_rest : (r : Repository) (m : BTreeMap BlobId ReachedBlob) (reuses : Reuses) → AreChosen (chosen_listing r) m → tree.keys m ≡ used_in r
    → ((x : Repository) → AreChosen (chosen_listing x) m → RestOn x (tree.keys m) reuses) → RestOn r (used_in r) reuses
all_rest r m reuses chosen listed rests =
    let Rests : List BlobId → Type 0 = λ blobs. RestOn r blobs reuses in
    subst Rests listed (rests r chosen)
