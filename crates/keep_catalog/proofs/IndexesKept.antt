-- What is kept of indexes, in the order of their names.
use Rattle.std.proofs.Common.{◌≡◌, ℕ, true, List, map, Option, None, Some, option_map, is_some, refl, sym, subst, ◌∙◌}
use Rattle.std.proofs.lemmas.Map.Made.{keys_of-map_values, lookup-map_values}
use Rattle.std.specs.BTreeMap.{IsOrdered, is_at}
use Rattle.std.specs.List.{list_any}
use Rattle.std.specs.List.Sorted.{IsStrictlySortedBy}
use Rattle.std.specs.Map.{keys_of}
use Rattle.keep_names.proofs.Orders.{id_exact, id_total}
use Rattle.keep_names.specs.Orders.{id_cmp}
use Rattle.keep_names.specs.declared.file_name.Kind.TheVariants.{Index}
use Rattle.keep_names.specs.declared.id.Id.{Id}
use Rattle.keep_repo.specs.Repository.{Repository}
use Rattle.keep_catalog.specs.Files.{file_in, ids_in, index_read, indexes_in, packs_in, packs_view}
use Rattle.keep_catalog.specs.Kept.{Indexes, packs_at, said_view}
use Rattle.keep_catalog.specs.Orders.{same_id}
use Rattle.keep_catalog.proofs.Gathered.{gathered, gathered_made}
use Rattle.keep_catalog.proofs.Ids.{id_there, ids_rise}

present : (r : Repository) (q : Id) → is_some (packs_in r q) ≡ true → list_any (same_id q) (ids_in r Index) ≡ true
unfolding packs_in
present r q some = id_there Index r q (there (file_in r Index q) some) where
  there : (o : Option (List ℕ)) → is_some (index_read o) ≡ true → is_some o ≡ true
  there None h = cc h
  there (Some bytes) h = refl

gathered_indexes : (r : Repository) → gathered id_cmp id_total id_exact (packs_in r) (ids_in r Index) ≡ indexes_in r
unfolding packs_in
gathered_indexes r = refl

-- what is kept, in order
pub indexes_kept : (r : Repository) (indexes : Indexes) → IsOrdered id_cmp indexes → ((q : Id) → packs_at indexes q ≡ packs_in r q) → map packs_view indexes.entries ≡ indexes_in r
indexes_kept r indexes ordered so =
    let es = map packs_view indexes.entries in
    let Sorted : List Id → Type 0 = λ ids. IsStrictlySortedBy id_cmp ids in
    let in_order : IsStrictlySortedBy id_cmp (keys_of es) = subst Sorted (sym (keys_of-map_values said_view indexes.entries)) ordered in
    gathered_made id_cmp id_total id_exact (packs_in r) es (ids_in r Index) in_order (ids_rise Index r) (present r)
    (λ q. lookup-map_values said_view (is_at (id_cmp q)) indexes.entries ∙ so q)
    ∙ gathered_indexes r
