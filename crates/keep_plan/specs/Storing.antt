-- What becomes of files that a planner builds.
use Rattle.std.specs.Prelude.{◌≡◌, Bool, true, false, not, ◌||◌, List, [], ◌∷◌, ◌++◌, map, filter, All, IsSome, Option, None, Some, is_some, option_map}
use Rattle.std.specs.FinMap as finite
use Rattle.std.specs.List.{find, list_any}
use Rattle.std.specs.List.Sorted.{IsStrictlySortedBy}
use Rattle.std.specs.Option.{option_map_or}
use Rattle.std.specs.Str.{bytes_eq}
use Rattle.keep_names.specs.FileName.{named}
use Rattle.keep_names.specs.Orders.{id_cmp, name_cmp}
use Rattle.keep_names.specs.declared.blob.BlobId.{BlobId}
use Rattle.keep_names.specs.declared.file_name.FileName.{FileName}
use Rattle.keep_names.specs.declared.file_name.Kind.TheVariants.{Pack, Index}
use Rattle.keep_names.specs.declared.id.Id.{Id}
use Rattle.keep_repo.specs.Repository.{Repository}
use Rattle.keep_change.specs.Marks.{pack_mark}
use Rattle.keep_change.specs.Filling.{has_name, has_pack}
use Rattle.keep_change.specs.Form.{AreNamedByBytes}
use Rattle.keep_change.specs.Lists.{file_names, marked_packs}
use Rattle.keep_change.specs.declared.change.PackMark.{PackMark}
use Rattle.keep_change.specs.NamedBytes.{NamedBytes}
use Rattle.keep_repo.specs.Kinds.{ids_among}
use Rattle.keep_catalog.specs.Ordered.{in_order}
use Rattle.keep_catalog.specs.Places.{is_unmarked}
use Rattle.keep_catalog.specs.declared.spot.Spot.{Spot}
use Rattle.keep_plan.specs.Reuse.{reused_files, reused_packs}
use Rattle.keep_plan.specs.declared.stored.Stored.{Stored}

-- whether there is a file of this name
abbrev pub is_there : Repository → FileName → Bool
is_there r name = is_some (finite.get r.files name)

-- those of the files that the repository hasn't, each under its name
abbrev pub under_name : NamedBytes → FileName × NamedBytes
under_name file = (file.name, file)

abbrev pub absent_of : Repository → List NamedBytes → List (FileName × NamedBytes)
absent_of r files = map under_name (filter (λ file. not (is_there r file.name)) files)

-- those of the files that the repository hasn't, by name, and of files of one name the first
abbrev pub absent_files : Repository → List NamedBytes → List NamedBytes
absent_files r files = map (λ e. e.1) (finite.entries (finite.from_entries {R = name_cmp} (absent_of r files)))

-- whether two of the files have one name
abbrev pub is_any_twice : List NamedBytes → Bool
is_any_twice [] = false
is_any_twice (file ∷ files) = has_name (file_names files) file.name || is_any_twice files

-- whether one of the files is there already, or two of them have one name
abbrev pub is_any_taken : Repository → List NamedBytes → Bool
is_any_taken r files = list_any (λ file. is_there r file.name) files || is_any_twice files

-- the names of the others
abbrev pub names_there : Repository → List NamedBytes → List FileName
names_there r files = filter (is_there r) (file_names files)

-- whether there is a file of this one's name with other bytes
abbrev pub is_there_otherwise : Repository → NamedBytes → Bool
is_there_otherwise r file = option_map_or (λ bytes. not (bytes_eq bytes file.bytes)) (finite.get r.files file.name) false

-- the name of the first of the files that is there with other bytes
abbrev pub first_differing : Repository → List NamedBytes → Option FileName
first_differing r files = option_map (λ file. file.name) (find (is_there_otherwise r) files)

-- the packs among the files
abbrev pub packs_among : List NamedBytes → List Id
packs_among files = ids_among Pack (file_names files)

-- the marks that are on these packs, by pack
abbrev pub marks_on : Repository → List Id → List PackMark
marks_on r packs = map pack_mark (finite.entries (finite.retain_keys r.marks (has_pack packs)))

-- those of the packs that have none
abbrev pub unmarked_of : Repository → List Id → List Id
unmarked_of r packs = filter (is_unmarked r) packs

-- What becomes of these built files, where these blobs are used where they are. The files that are absent are
-- added, and the marks of the packs among them cleared. To be present are the other files, and the packs and
-- indexes of the chosen places of the blobs; to be unmarked are the other packs, and those of the places. The first of
-- the files that is there with other bytes is named.
unfoldable pub stored_built : Repository → List BlobId → List NamedBytes → Stored
stored_built r used built = record {
  adds = absent_files r built;
  clears = marks_on r (packs_among built);
  present = in_order name_cmp (reused_files r used ++ names_there r built);
  unmarked = in_order id_cmp (reused_packs r used ++ unmarked_of r (packs_among built));
  differing = first_differing r built;
}

-- What is stored can be made of the repository, as part of a change: each list is in order, the adds are named
-- by their bytes and aren't there, each mark to be cleared is there, and what has to be present or unmarked is.
pub record CanBeMade (r : Repository) (stored : Stored) : Type 0 where
  pub adds_in_order : IsStrictlySortedBy name_cmp (file_names stored.adds)
  pub clears_in_order : IsStrictlySortedBy id_cmp (marked_packs stored.clears)
  pub present_in_order : IsStrictlySortedBy name_cmp stored.present
  pub unmarked_in_order : IsStrictlySortedBy id_cmp stored.unmarked
  pub named : AreNamedByBytes stored.adds
  pub adds : All (λ f. finite.get r.files f.name ≡ None) stored.adds
  pub clears : All (λ m. finite.get r.marks m.pack ≡ Some m.mark) stored.clears
  pub present : All (λ name. IsSome (finite.get r.files name)) stored.present
  pub unmarked : All (λ pack. finite.get r.marks pack ≡ None) stored.unmarked

-- The use of a blob at this spot, which this index lists, is recorded: the spot's pack and the index have to be
-- present, and the pack unmarked.
pub record RecordsUse (stored : Stored) (place : Spot × Id) : Type 0 where
  pub pack : has_name stored.present (named Pack place.0.pack) ≡ true
  pub index : has_name stored.present (named Index place.1) ≡ true
  pub mark : has_pack stored.unmarked place.0.pack ≡ true

-- What becomes of built files: each of them is added or to be present, and of each pack among them the mark is
-- cleared or the pack is to be unmarked.
pub record StoresBuilt (built : List NamedBytes) (stored : Stored) : Type 0 where
  pub files : (name : FileName) → has_name (file_names built) name ≡ true
      → (has_name (file_names stored.adds) name || has_name stored.present name) ≡ true
  pub packs : (pack : Id) → has_pack (packs_among built) pack ≡ true
      → (has_pack (marked_packs stored.clears) pack || has_pack stored.unmarked pack) ≡ true
