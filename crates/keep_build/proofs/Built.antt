-- What holds of all files that are built.
use Rattle.std.proofs.Common.{◌≡◌, List, [], ◌∷◌, ◌++◌, map, Less, refl}
use Rattle.std.specs.List.{AllByRecursion}
use Rattle.std.proofs.lemmas.List.Elements.{All-from_recursion}
use Rattle.keep_names.specs.FileName.{named}
use Rattle.keep_names.specs.Orders.{name_cmp}
use Rattle.keep_names.specs.Sha256.{sha256}
use Rattle.keep_names.specs.declared.file_name.Kind.TheVariants.{Snapshot}
use Rattle.keep_names.specs.declared.id.Id.{Id}
use Rattle.keep_repo.specs.Repository.{Repository}
use Rattle.keep_change.specs.Form.{AreNamedByBytes}
use Rattle.keep_change.specs.NamedBytes.{NamedBytes}
use Rattle.keep_plan.proofs.Made.{added_so}
use Rattle.keep_plan.specs.Storing.{stored_built}
use Rattle.keep_build.specs.Blobs.{BlobData}
use Rattle.keep_build.specs.Stored.{built, index_file, pack_file, packs_and_index, packs_built, stored_of}

module _ (P : NamedBytes → Type 0) (pack : (blobs : List BlobData) → P (pack_file blobs)) (index : (packs : List (List BlobData)) → P (index_file packs)) where
  packs_so : (packs : List (List BlobData)) (rest : List NamedBytes) → AllByRecursion P rest → AllByRecursion P (map pack_file packs ++ rest)
  packs_so [] rest h = h
  packs_so (p ∷ ps) rest h = (pack p, packs_so ps rest h)

  pub built_so : (packs : List (List BlobData)) → AllByRecursion P (packs_and_index packs)
  built_so [] = tt
  built_so (p ∷ ps) = packs_so (p ∷ ps) (index_file (p ∷ ps) ∷ []) (index (p ∷ ps), tt)

abbrev pub IsOwn : NamedBytes → Type 0
IsOwn f = f.name.id.0 ≡ sha256 f.bytes

pack_own : (blobs : List BlobData) → IsOwn (pack_file blobs)
unfolding pack_file
pack_own blobs = refl

index_own : (packs : List (List BlobData)) → IsOwn (index_file packs)
unfolding index_file
index_own packs = refl

pub built_own : (r : Repository) (blobs : List BlobData) → AreNamedByBytes (built r blobs)
built_own r blobs = All-from_recursion IsOwn (built r blobs) (built_so IsOwn pack_own index_own (packs_built r blobs))

-- packs and indexes stand before each snapshot
abbrev pub IsBelow : Id → NamedBytes → Type 0
IsBelow id f = name_cmp f.name (named Snapshot id) ≡ Less

pub pack_below : (id : Id) (blobs : List BlobData) → IsBelow id (pack_file blobs)
unfolding pack_file
pack_below id blobs = refl

pub index_below : (id : Id) (packs : List (List BlobData)) → IsBelow id (index_file packs)
unfolding index_file
index_below id packs = refl

-- what all built files are, those that are added are
pub adds_so : (r : Repository) (P : NamedBytes → Type 0) (blobs : List BlobData) → AllByRecursion P (built r blobs) → AllByRecursion P (stored_of r blobs).adds
unfolding stored_of stored_built
adds_so r P blobs all = added_so r P (built r blobs) all
