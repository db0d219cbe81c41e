-- What the files of a part say, all files say.
use Rattle.std.proofs.Common.{◌≡◌, ℕ, Bool, true, false, not, List, Option, None, Some, refl, sym, ap, ◌∙◌, true≢false}
use Rattle.std.specs.Prelude.{is_none, is_some, option_map}
use Rattle.std.specs.FinMap as finite
use Rattle.std.specs.Option.{option_and_then, option_map_or}
use Rattle.keep_names.specs.FileName.{named}
use Rattle.keep_names.specs.declared.blob.BlobId.{BlobId}
use Rattle.keep_names.specs.declared.file_name.Kind.{Kind}
use Rattle.keep_names.specs.declared.file_name.Kind.TheVariants.{Pack, Index, Snapshot}
use Rattle.keep_names.specs.declared.id.Id.{Id}
use Rattle.keep_repo.specs.Facet.{Marked, Stored}
use Rattle.keep_repo.specs.Repository.{Repository, is_filled}
use Rattle.keep_repo.specs.declared.facet.Facet.TheVariants.{Mark}
use Rattle.keep_repo.specs.declared.facet.Mark as the_mark
use Rattle.keep_catalog.specs.Files.{snap_read, file_in, snap_in}
use Rattle.keep_catalog.specs.Places.{places_listed, places_stored, bytes_at, has_id, is_among, is_honest, is_stored, is_unmarked, listed_in, slice_of, stored_in}
use Rattle.keep_catalog.specs.declared.spot.PackedBlob.{PackedBlob}
use Rattle.keep_catalog.specs.declared.spot.Spot.{Spot}
use Rattle.keep_sound.specs.Met.{IsPartOf}
use Rattle.keep_sound.specs.Standing.{file_facet}

-- ---- what is read of a file, by its bytes

abbrev pub lists_at : PackedBlob → Option (List ℕ) → Bool
lists_at p file = is_among (places_listed file) p

abbrev pub stores_at : PackedBlob → Option (List ℕ) → Bool
stores_at p file = is_among (places_stored p.spot.pack file) p

abbrev pub slice_at : Spot → Option (List ℕ) → Option (List ℕ)
slice_at spot file = option_and_then (slice_of spot.offset spot.length) file

abbrev pub has_blob_at : BlobId → Spot → Option (List ℕ) → Bool
has_blob_at blob spot file = option_map_or (has_id blob.id) (slice_at spot file) false

pub listed_by : (r : Repository) (index : Id) (p : PackedBlob) → is_among (listed_in r index) p ≡ lists_at p (file_in r Index index)
unfolding listed_in
listed_by r index p = refl

pub stored_by : (r : Repository) (p : PackedBlob) → is_stored r p ≡ stores_at p (file_in r Pack p.spot.pack)
unfolding stored_in
stored_by r p = refl

pub bytes_by : (r : Repository) (spot : Spot) → bytes_at r spot ≡ slice_at spot (file_in r Pack spot.pack)
unfolding bytes_at
bytes_by r spot = refl

pub honest_by : (r : Repository) (blob : BlobId) (spot : Spot) → is_honest r blob spot ≡ has_blob_at blob spot (file_in r Pack spot.pack)
honest_by r blob spot = ap (λ o. option_map_or (has_id blob.id) o false) (bytes_by r spot)

pub snap_by : (r : Repository) (snapshot : Id) → snap_in r snapshot ≡ snap_read (file_in r Snapshot snapshot)
unfolding snap_in
snap_by r snapshot = refl

-- ---- files that are there

some_mapped : {X Y : Type 0} (f : X → Y) (o : Option X) → is_some (option_map f o) ≡ is_some o
some_mapped f None = refl
some_mapped f (Some x) = refl

pub filled_by : (r : Repository) (kind : Kind) (id : Id) → is_filled r (file_facet kind id) ≡ is_some (file_in r kind id)
unfolding file_in
filled_by r kind id = some_mapped Stored (finite.get r.files (named kind id))

-- a pack is unmarked just where its mark isn't filled
none_not_some : (o : Option the_mark.Mark) → is_none o ≡ not (is_some (option_map Marked o))
none_not_some None = refl
none_not_some (Some mark) = refl

not_true : (b : Bool) → not b ≡ true → b ≡ false
not_true true h = cc h
not_true false h = refl

pub free_from : (r : Repository) (pack : Id) → is_unmarked r pack ≡ true → is_filled r (Mark pack) ≡ false
free_from r pack free = not_true (is_filled r (Mark pack)) (sym (none_not_some (finite.get r.marks pack)) ∙ free)

pub unmarked_from : (r : Repository) (pack : Id) → is_filled r (Mark pack) ≡ false → is_unmarked r pack ≡ true
unmarked_from r pack free = none_not_some (finite.get r.marks pack) ∙ ap not free

-- ---- what fails of no file holds of more only where it is there

pub there_by : (f : Option (List ℕ) → Bool) → f None ≡ false → (o : Option (List ℕ)) → f o ≡ true → is_some o ≡ true
there_by f away None holds = absurd (true≢false (sym holds ∙ away))
there_by f away (Some x) holds = refl

carried : (f : Option (List ℕ) → Bool) → f None ≡ false → (o p : Option (List ℕ)) → ((x : List ℕ) → o ≡ Some x → p ≡ Some x) → f o ≡ true → f p ≡ true
carried f away None p more holds = absurd (true≢false (sym holds ∙ away))
carried f away (Some x) p more holds = ap f (more x refl) ∙ holds

same_where_some : (o p : Option (List ℕ)) → ((x : List ℕ) → o ≡ Some x → p ≡ Some x) → is_some o ≡ true → o ≡ p
same_where_some None p more there = cc there
same_where_some (Some x) p more there = sym (more x refl)

module _ (r all : Repository) (part : IsPartOf r all) where
  pub file_part : (kind : Kind) (id : Id) (bytes : List ℕ) → file_in r kind id ≡ Some bytes → file_in all kind id ≡ Some bytes
  unfolding file_in
  file_part kind id bytes = part (named kind id) bytes

  -- a file that is there is one of all, with the same bytes
  pub same_file : (kind : Kind) (id : Id) → is_filled r (file_facet kind id) ≡ true → file_in r kind id ≡ file_in all kind id
  same_file kind id there = same_where_some (file_in r kind id) (file_in all kind id) (file_part kind id) (sym (filled_by r kind id) ∙ there)

  pub part_carries : (f : Option (List ℕ) → Bool) → f None ≡ false → (kind : Kind) (id : Id) → f (file_in r kind id) ≡ true → f (file_in all kind id) ≡ true
  part_carries f away kind id = carried f away (file_in r kind id) (file_in all kind id) (file_part kind id)

  pub part_back : (f : Option (List ℕ) → Bool) (kind : Kind) (id : Id) → is_filled r (file_facet kind id) ≡ true → f (file_in all kind id) ≡ true → f (file_in r kind id) ≡ true
  part_back f kind id there holds = ap f (same_file kind id there) ∙ holds

-- where something is read of a file, it is there
pub filled_from : (r : Repository) (f : Option (List ℕ) → Bool) → f None ≡ false → (kind : Kind) (id : Id) → f (file_in r kind id) ≡ true → is_filled r (file_facet kind id) ≡ true
filled_from r f away kind id holds = filled_by r kind id ∙ there_by f away (file_in r kind id) holds
