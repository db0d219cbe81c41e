-- What is kept of snapshots, in the order of their names.
use Rattle.std.proofs.Common.{◌≡◌, ℕ, true, List, map, Option, None, Some, option_map, is_some, refl, sym, ap, subst, ◌∙◌}
use Rattle.std.proofs.lemmas.Map.Made.{keys_of-map_values, lookup-map_values}
use Rattle.std.specs.BTreeMap.{BTreeMap, IsOrdered, is_at}
use Rattle.std.specs.FinMap as finite
use Rattle.std.specs.List.{filter_map, list_any}
use Rattle.std.specs.List.Sorted.{IsStrictlySortedBy}
use Rattle.std.specs.Map.{keys_of}
use Rattle.std.specs.Option.{option_and_then}
use Rattle.std.specs.Result.{result_ok}
use Rattle.keep_names.proofs.Orders.{id_exact, id_total}
use Rattle.keep_names.specs.Orders.{id_cmp}
use Rattle.keep_names.specs.declared.file_name.Kind.TheVariants.{Snapshot}
use Rattle.keep_names.specs.declared.id.Id.{Id}
use Rattle.keep_repo.proofs.Maps.{entries_made, get_made}
use Rattle.keep_repo.specs.Repository.{Repository}
use Rattle.keep_snap.specs.Snap.{SnapData, snap_view}
use Rattle.keep_snap.specs.declared.snap.Snap.{Snap}
use Rattle.keep_catalog.specs.Files.{file_in, ids_in, named_snap, snap_in, snap_of, snaps_in}
use Rattle.keep_catalog.specs.Kept.{snap_at}
use Rattle.keep_catalog.specs.Orders.{same_id}
use Rattle.keep_catalog.proofs.Gathered.{found_all}
use Rattle.keep_catalog.proofs.Ids.{id_there}

present : (r : Repository) (q : Id) → is_some (snap_in r q) ≡ true → list_any (same_id q) (ids_in r Snapshot) ≡ true
unfolding snap_in
present r q some = id_there Snapshot r q (there (file_in r Snapshot q) some) where
  there : (o : Option (List ℕ)) → is_some (option_and_then result_ok (option_map snap_of o)) ≡ true → is_some o ≡ true
  there None h = cc h
  there (Some bytes) h = refl

pub get_snap : (r : Repository) (q : Id) → finite.get (snaps_in r) q ≡ snap_in r q
unfolding snaps_in
get_snap r q =
    finite.get-from_entries id_total (filter_map (named_snap r) (ids_in r Snapshot)) q
    ∙ found_all id_cmp id_total id_exact (snap_in r) (ids_in r Snapshot) q (present r q)

abbrev pub entry_view : Id × Snap → Id × SnapData
entry_view e = (e.0, snap_view e.1)

-- what is kept, in order
pub snaps_kept : (r : Repository) (snaps : BTreeMap Id Snap) → IsOrdered id_cmp snaps → ((q : Id) → snap_at snaps q ≡ snap_in r q) → map entry_view snaps.entries ≡ finite.entries (snaps_in r)
snaps_kept r snaps ordered so =
    let es = map entry_view snaps.entries in
    let Sorted : List Id → Type 0 = λ ids. IsStrictlySortedBy id_cmp ids in
    let in_order : IsStrictlySortedBy id_cmp (keys_of es) = subst Sorted (sym (keys_of-map_values snap_view snaps.entries)) ordered in
    let same : finite.from_entries {R = id_cmp} es ≡ snaps_in r =
    finite.same_map id_total id_exact _ _ (λ q.
    get_made id_total es q ∙ lookup-map_values snap_view (is_at (id_cmp q)) snaps.entries ∙ so q ∙ sym (get_snap r q)) in
    sym (entries_made id_total es in_order) ∙ ap finite.entries same
