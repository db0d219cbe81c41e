-- What is left of an index without some packs, and several indexes as one.
use Rattle.std.specs.Prelude.{Bool, List, [], ◌∷◌, filter, map, not}
use Rattle.std.specs.List.{flat_map, list_any}
use Rattle.std.specs.Ordering.{eq_by_cmp}
use Rattle.std.specs.declared.cmp.Ordering.{Ordering}
use Rattle.keep_names.specs.Orders.{id_cmp}
use Rattle.keep_names.specs.contracts.blob.BlobOrd.TheImpl as the_entry_order
use Rattle.keep_names.specs.declared.blob.Blob.{Blob}
use Rattle.keep_names.specs.declared.id.Id.{Id}
use Rattle.keep_index.specs.Index.{PackData}

-- whether the two are one
abbrev pub same_id : Id → Id → Bool
same_id = eq_by_cmp id_cmp

-- the blobs that these packs list as the pack's of this id, in order
abbrev pub blobs_of : List PackData → Id → List Blob
blobs_of packs id = flat_map (λ pack. pack.blobs) (filter (λ pack. same_id id pack.id) packs)

-- the packs that aren't gone, in order
abbrev pub left_without : (Id → Bool) → List PackData → List PackData
left_without is_gone packs = filter (λ pack. not (is_gone pack.id)) packs

-- entries by id, type, offset and length
abbrev pub entry_cmp : Blob → Blob → Ordering
entry_cmp = (the_entry_order.ghosts).cmp

-- whether the two entries are one
abbrev pub same_entry : Blob → Blob → Bool
same_entry = eq_by_cmp entry_cmp

-- the first of each that are one, in order
abbrev pub first_of_each : {X : Type 0} → (X → X → Bool) → List X → List X
first_of_each same [] = []
first_of_each same (x ∷ xs) = x ∷ filter (λ y. not (same x y)) (first_of_each same xs)

-- the ids of packs, in order
abbrev pub ids_of : List PackData → List Id
ids_of packs = map (λ pack. pack.id) packs

-- the pack of this id, with the entries that these packs list in it, each where it stands first
abbrev pub merged : List PackData → Id → PackData
merged packs id = record { id = id; blobs = first_of_each same_entry (blobs_of packs id) }

-- each pack where its id stands first, merged
abbrev pub merged_packs : List PackData → List PackData
merged_packs packs = map (merged packs) (first_of_each same_id (ids_of packs))

-- the packs of these indexes, one index after the other
abbrev pub packs_in : List (List PackData) → List PackData
packs_in indexes = flat_map (λ packs. packs) indexes

-- several indexes as one
abbrev pub joined : List (List PackData) → List PackData
joined indexes = merged_packs (packs_in indexes)

-- whether these packs have one of this id, with blobs or without
abbrev pub lists_pack : List PackData → Id → Bool
lists_pack packs id = list_any (same_id id) (ids_of packs)

-- whether they list the entry in the pack of this id
abbrev pub lists_entry : List PackData → Id → Blob → Bool
lists_entry packs id entry = list_any (same_entry entry) (blobs_of packs id)
