-- What a new index lists, where its file is met.
use Rattle.std.proofs.Common.{◌≡◌, ℕ, true, false, ◌||◌, List, [], ◌∷◌, All, Option, None, Some, option_map, Result, Ok, is_some, refl, sym, ap, ◌∙◌}
use Rattle.std.proofs.lemmas.List.Elements.{recursion_from_All}
use Rattle.std.specs.FinMap as finite
use Rattle.std.specs.List.{flat_map}
use Rattle.std.specs.Ordering.{eq_by_cmp}
use Rattle.keep_names.specs.FileName.{named}
use Rattle.keep_names.specs.Laws.{TellsApart}
use Rattle.keep_names.specs.Orders.{name_cmp}
use Rattle.keep_names.specs.declared.blob.BlobId.{BlobId}
use Rattle.keep_names.specs.declared.file_name.FileName.{FileName}
use Rattle.keep_names.specs.declared.file_name.Kind.TheVariants.{Index}
use Rattle.keep_names.specs.declared.id.Id.{Id}
use Rattle.keep_repo.specs.Repository.{Repository}
use Rattle.keep_index.specs.Index.{Fits, PackData}
use Rattle.keep_index.specs.Reading as index_reading
use Rattle.keep_index.specs.Writing.{index_text}
use Rattle.keep_index.specs.declared.index_error.IndexError.{IndexError}
use Rattle.keep_change.specs.Filling.{leaves_filled}
use Rattle.keep_change.specs.NamedBytes.{NamedBytes, file_of}
use Rattle.keep_change.specs.declared.change.PackMark.{PackMark}
use Rattle.keep_catalog.specs.Files.{file_in, index_of, what_is_read}
use Rattle.keep_catalog.specs.Places.{is_among, listed_in, listed_of}
use Rattle.keep_catalog.specs.declared.spot.PackedBlob.{PackedBlob}
use Rattle.keep_plan.specs.Storing.{StoresBuilt, stored_built}
use Rattle.keep_sound.specs.Met.{IsIn, IsPartOf}
use Rattle.keep_sound.specs.Standing.{file_facet}
use Rattle.keep_upkeep.specs.Reindexing.{index_files, reindexing}

-- what index texts read back as, and what becomes of built files
abbrev pub WrittenReadBack : Type 0
WrittenReadBack = (packs : List PackData) → Fits packs → index_reading.index_of (index_text packs) ≡ Ok packs

abbrev pub BuiltAreStored : Type 0
BuiltAreStored = (r : Repository) (used : List BlobId) (built : List NamedBytes) → StoresBuilt built (stored_built r used built)

-- an index of all files, of this text, lists what it was written of
listed_new : WrittenReadBack → (all : Repository) (packs : List PackData) (id : Id) (p : PackedBlob) → Fits packs → finite.get all.files (named Index id) ≡ Some (index_text packs)
    → is_among (flat_map listed_of packs) p ≡ true → is_among (listed_in all id) p ≡ true
unfolding listed_in file_in index_of
listed_new written all packs id p fits there among =
    ap (λ (file : Option (List ℕ)). is_among (flat_map listed_of (what_is_read (option_map index_reading.index_of file))) p) there
    ∙ ap (λ (t : Result (List PackData) IndexError). is_among (flat_map listed_of (what_is_read (Some t))) p) (written packs fits)
    ∙ among

-- the change leaves an index that lists what the new one does
pub listed_left : WrittenReadBack → BuiltAreStored → TellsApart name_cmp → (r all : Repository) (packs : List PackData) (drops : List NamedBytes) (clears : List PackMark) (absent : List FileName) (p : PackedBlob)
    → Fits packs → All (IsIn all) (index_files packs) → is_among (flat_map listed_of packs) p ≡ true
    → (other : Id) × (leaves_filled (reindexing r (index_files packs) drops clears absent) (file_facet Index other) ≡ true) × (is_among (listed_in all other) p ≡ true)
unfolding index_files
listed_left written settles apart r all [] drops clears absent p fits met among = (cc among)
listed_left written settles apart r all (pack ∷ packs) drops clears absent p fits met among =
    let file : NamedBytes = file_of Index (index_text (pack ∷ packs)) in
    let here : (eq_by_cmp name_cmp file.name file.name || false) ≡ true = ap (λ b. b || false) ((apart file.name file.name).1 refl) in (
      file.name.id,
      (settles r [] (file ∷ [])).files file.name here,
      listed_new written all (pack ∷ packs) file.name.id p fits (recursion_from_All (IsIn all) (file ∷ []) met).0 among,
    )

-- ---- what all files say of a file of the repository

pub same_listed : (r all : Repository) → IsPartOf r all → (index : Id) → is_some (finite.get r.files (named Index index)) ≡ true → listed_in all index ≡ listed_in r index
unfolding listed_in file_in
same_listed r all part index there = cases (finite.get r.files (named Index index)) refl there where
  cases : (o : Option (List ℕ)) → finite.get r.files (named Index index) ≡ o → is_some o ≡ true → flat_map listed_of (what_is_read (option_map index_of (finite.get all.files (named Index index)))) ≡ flat_map listed_of (what_is_read (option_map index_of (finite.get r.files (named Index index))))
  cases None is h = (cc h)
  cases (Some bytes) is h = ap (λ (file : Option (List ℕ)). flat_map listed_of (what_is_read (option_map index_of file))) (part (named Index index) bytes is ∙ sym is)
