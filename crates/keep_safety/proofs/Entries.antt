-- Where a built pack has a blob, by its header and by the built index.
use Rattle.std.proofs.Common.{◌≡◌, ℕ, ◌+◌, ◌≤◌, true, false, cond, nat_le, List, length, map, Option, None, Some, Ok, refl, sym, ap, ◌∙◌, arith}
use Rattle.std.proofs.lemmas.Bool.Decides.{nat_tests}
use Rattle.std.proofs.lemmas.List.Elements.{recursion_from_All}
use Rattle.std.proofs.lemmas.Option.{slice_get-map}
use Rattle.std.specs.Cmp.{tied_itself}
use Rattle.std.specs.FinMap as finite
use Rattle.std.specs.List.{flat_map, list_any, slice_get}
use Rattle.std.specs.Option.{IsSomeAnd, option_and_then, option_map_or, option_map}
use Rattle.std.specs.Ordering.{is_eq}
use Rattle.keep_names.specs.FileName.{named}
use Rattle.keep_names.specs.contracts.id.IdOrd.TheImpl.Laws as the_id_laws
use Rattle.keep_names.specs.declared.blob.Blob.{Blob}
use Rattle.keep_names.specs.declared.blob.BlobId.{BlobId}
use Rattle.keep_names.specs.declared.file_name.Kind.{Kind}
use Rattle.keep_names.specs.declared.file_name.Kind.TheVariants.{Index, Pack}
use Rattle.keep_names.specs.declared.id.Id.{Id}
use Rattle.keep_repo.specs.Repository.{Repository}
use Rattle.keep_change.specs.NamedBytes.{NamedBytes}
use Rattle.keep_pack.specs.Pack.{IsHonestPackOf, LiesIn, StandsAt, entries_from, listing}
use Rattle.keep_pack.specs.Pack as packing
use Rattle.keep_index.specs.Index.{PackData}
use Rattle.keep_index.specs.Reading as index_reading
use Rattle.keep_index.specs.Writing.{index_text}
use Rattle.keep_catalog.specs.Files.{file_in, index_of}
use Rattle.keep_catalog.specs.Orders.{blob_eq, id_eq, packed_blob_eq}
use Rattle.keep_catalog.specs.Places.{at, bytes_at, has_id, is_among, is_honest, listed_of, packed_of, slice_of}
use Rattle.keep_catalog.specs.contracts.spot.PackedBlobOrd.TheImpl.Laws as the_packed_blob_laws
use Rattle.keep_catalog.specs.declared.spot.PackedBlob.{PackedBlob}
use Rattle.keep_catalog.specs.declared.spot.Spot.{Spot}
use Rattle.keep_sound.specs.Met.{IsIn}
use Rattle.keep_sound.specs.Standing.{Supports}
use Rattle.keep_build.specs.Blobs.{BlobData, blob_id_of}
use Rattle.keep_build.specs.Stored.{index_file, pack_file, pack_listed}
use Rattle.keep_safety.proofs.Known.{Known}
use Rattle.keep_safety.proofs.Packed.{IsPackable, honest_pack}
use Rattle.keep_safety.proofs.Positions.{Found, any_joined, any_mapped, found, one_at}

-- ---- what the built files are

-- a pack is named as one, and the index as one, and it has its text
pub pack_name : (pack : List BlobData) → (pack_file pack).name ≡ named Pack (pack_file pack).name.id
unfolding pack_file
pack_name pack = refl

pub index_name : (packs : List (List BlobData)) → (index_file packs).name ≡ named Index (index_file packs).name.id
unfolding index_file
index_name packs = refl

pub index_bytes : (packs : List (List BlobData)) → (index_file packs).bytes ≡ index_text (map pack_listed packs)
unfolding index_file
index_bytes packs = refl

-- what an index says of a built pack
listed_is : (pack : List BlobData) → listed_of (pack_listed pack) ≡ map (packed_of (pack_file pack).name.id) (entries_from 0 (map listing pack))
unfolding pack_listed
listed_is pack = refl

-- what an index is read as
reads_index : (bytes : List ℕ) (packs : List PackData) → index_reading.index_of bytes ≡ Ok packs → index_of bytes ≡ Ok packs
unfolding index_of
reads_index bytes packs is = is

module _ (all : Repository) where
  -- a file that is met is there by its kind and id
  met_file : (kind : Kind) (id : Id) (f : NamedBytes) → f.name ≡ named kind id → IsIn all f → file_in all kind id ≡ Some f.bytes
  unfolding file_in
  met_file kind id f name met = ap (finite.get all.files) (sym name) ∙ met

  -- and the bytes at a spot are those of the file
  met_bytes : (spot : Spot) (bytes : List ℕ) → file_in all Pack spot.pack ≡ Some bytes → bytes_at all spot ≡ slice_of spot.offset spot.length bytes
  unfolding bytes_at
  met_bytes spot bytes is = ap (option_and_then (slice_of spot.offset spot.length)) is

-- ---- tests of what is there

same_place : (p : PackedBlob) → packed_blob_eq p p ≡ true
same_place p = ap is_eq (tied_itself the_packed_blob_laws.total-law p)

same_id : (id : Id) → id_eq id id ≡ true
same_id id = the_id_laws.matches_eq-law id id ∙ ap is_eq (tied_itself the_id_laws.total-law id)

is_within : (n m : ℕ) → n ≤ m → nat_le n m ≡ true
is_within n m h = grind (arith, nat_tests)

-- ---- the blob

-- a pack that is met, and an index that is met and lists it
pub record IsBuilt (all : Repository) (packs : List (List BlobData)) (pack : List BlobData) : Type 0 where
  pub can : IsPackable pack
  pub met : IsIn all (pack_file pack)
  pub position : ℕ
  pub here : slice_get packs position ≡ Some pack
  pub index : IsIn all (index_file packs)
  pub index_is : index_reading.index_of (index_file packs).bytes ≡ Ok (map pack_listed packs)

-- a spot of the pack where the blob is
pub record HasSpot (all : Repository) (packs : List (List BlobData)) (pack : List BlobData) (name : BlobId) : Type 0 where
  pub spot : Spot
  pub pack_is : spot.pack ≡ (pack_file pack).name.id
  pub supports : Supports all name spot (index_file packs).name.id

module _ (known : Known) (all : Repository) (packs : List (List BlobData)) (pack : List BlobData) (is : IsBuilt all packs pack) (name : BlobId) where
  abbrev entries : List Blob
  entries = entries_from 0 (map listing pack)

  honest : IsHonestPackOf (pack_file pack).bytes pack
  honest = honest_pack known.digests pack is.can

  abbrev spot_of : Blob → Spot
  spot_of e = record { pack = (pack_file pack).name.id; offset = e.offset; length = e.length }

  -- the place that the entry says is the blob's at that spot
  place_is : (e : Blob) → e.blob ≡ name → packed_blob_eq (at name (spot_of e)) (packed_of (pack_file pack).name.id e) ≡ true
  place_is e e_is = ap (λ (b : BlobId). packed_blob_eq (at name (spot_of e)) (record { blob = b; spot = spot_of e })) e_is ∙ same_place (at name (spot_of e))

  -- the bytes that an entry in the pack speaks of
  fits_in : (e : Blob) → LiesIn (pack_file pack).bytes e → slice_of e.offset e.length (pack_file pack).bytes ≡ Some (packing.bytes_at (pack_file pack).bytes e)
  fits_in e lies = ap (λ t. cond t (Some (packing.bytes_at (pack_file pack).bytes e)) None) (is_within (e.offset + e.length) (length (pack_file pack).bytes) lies)

  module _ (k : ℕ) (b : BlobData) (here : slice_get pack k ≡ Some b) (named_so : name ≡ blob_id_of b) where
    -- ---- the blob that stands at a position of the pack

    file_met : file_in all Pack (pack_file pack).name.id ≡ Some (pack_file pack).bytes
    file_met = met_file all Pack (pack_file pack).name.id (pack_file pack) (pack_name pack) is.met

    module _ (e : Blob) (e_here : slice_get entries k ≡ Some e) (stands : StandsAt (pack_file pack).bytes b e) where
      lies : LiesIn (pack_file pack).bytes e
      lies =
          one_at (LiesIn (pack_file pack).bytes) entries k e
          (recursion_from_All (LiesIn (pack_file pack).bytes) entries (known.within (pack_file pack).bytes entries (map listing pack, (map (λ (x : BlobData). x.1) pack, honest), refl))) e_here

      is_entry : e.blob ≡ name
      is_entry = stands.name ∙ sym named_so

      read_there : bytes_at all (spot_of e) ≡ Some b.1
      read_there = met_bytes all (spot_of e) (pack_file pack).bytes file_met ∙ fits_in e lies ∙ ap Some stands.bytes

      -- the bytes at the entry's spot have the blob's id
      honest_there : is_honest all name (spot_of e) ≡ true
      honest_there =
          ap (λ (o : Option (List ℕ)). option_map_or (has_id name.id) o false) read_there
          ∙ ap (λ (n : BlobId). has_id n.id b.1) named_so ∙ same_id (blob_id_of b).id

      -- the header has the blob there
      stored_there : is_among (map (packed_of (pack_file pack).name.id) entries) (at name (spot_of e)) ≡ true
      stored_there = any_mapped (packed_blob_eq (at name (spot_of e))) (packed_of (pack_file pack).name.id) entries k e e_here (place_is e is_entry)

      -- and the index lists it there
      listed_there : is_among (flat_map listed_of (map pack_listed packs)) (at name (spot_of e)) ≡ true
      listed_there =
          any_joined (packed_blob_eq (at name (spot_of e))) listed_of (map pack_listed packs) is.position (pack_listed pack)
          (slice_get-map pack_listed packs is.position ∙ ap (option_map pack_listed) is.here)
          (ap (λ (places : List PackedBlob). is_among places (at name (spot_of e))) (listed_is pack) ∙ stored_there)

      pub spot_there : HasSpot all packs pack name
      spot_there = record {
        spot = spot_of e;
        pack_is = refl;
        supports = known.supports all name (spot_of e) (index_file packs).name.id (pack_file pack).bytes (index_file packs).bytes entries (map pack_listed packs)
            file_met (known.header (pack_file pack).bytes pack honest) stored_there
            (met_file all Index (index_file packs).name.id (index_file packs) (index_name packs) is.index)
            (reads_index (index_file packs).bytes (map pack_listed packs) is.index_is)
            listed_there honest_there;
      }

    -- there is such an entry
    at_entry : (o : Option Blob) → slice_get entries k ≡ o → IsSomeAnd o (StandsAt (pack_file pack).bytes b) → HasSpot all packs pack name
    at_entry None none stands = absurd stands
    at_entry (Some e) e_here stands = spot_there e e_here stands

    spot_at : HasSpot all packs pack name
    spot_at = at_entry (slice_get entries k) refl (known.stands (pack_file pack).bytes pack k b honest here)

  -- a built pack that has a blob of this name has a spot of it
  pub spot_in : list_any (λ b. blob_eq name (blob_id_of b)) pack ≡ true → HasSpot all packs pack name
  spot_in among = at_found (found (λ (b : BlobData). blob_eq name (blob_id_of b)) pack among) where
    at_found : Found (λ (b : BlobData). blob_eq name (blob_id_of b)) pack → HasSpot all packs pack name
    at_found f = spot_at f.position f.item f.here ((known.blobs name (blob_id_of f.item)).0 f.passes)
