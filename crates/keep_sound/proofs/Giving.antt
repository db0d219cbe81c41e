-- What a change gives: blobs whose use it records, and blobs that it built.
use Rattle.std.proofs.Common.{◌≡◌, true, List, Option, None, Some, Result, refl, ap, ◌∙◌}
use Rattle.std.specs.Prelude.{is_some, map}
use Rattle.std.specs.List.{flat_map}
use Rattle.keep_names.specs.declared.blob.Blob.{Blob}
use Rattle.keep_names.specs.declared.blob.BlobId.{BlobId}
use Rattle.keep_names.specs.declared.id.Id.{Id}
use Rattle.keep_repo.specs.Repository.{Repository}
use Rattle.keep_pack.specs.declared.pack_error.PackError.{PackError}
use Rattle.keep_index.specs.Index.{PackData}
use Rattle.keep_index.specs.declared.index_error.IndexError.{IndexError}
use Rattle.keep_catalog.specs.Files.{what_is_read}
use Rattle.keep_catalog.specs.Places.{at, chosen_listing, is_among, listed_of, packed_of, reuse_of}
use Rattle.keep_catalog.specs.declared.spot.Spot.{Spot}
use Rattle.keep_sound.specs.Careful.{GivesPlace}
use Rattle.keep_sound.specs.Plans.{BuiltSupports, Records, ReusedIsGiven}
use Rattle.keep_sound.proofs.Parts.{listed_by, lists_at, stored_by, stores_at}
use Rattle.keep_sound.proofs.Places.{LeastIsChosen, open_of_chosen, supports_from}

use_of : (view : Repository) (blob : BlobId) (e : Spot × Id) → chosen_listing view blob ≡ Some e → reuse_of view blob ≡ Some (e.0.pack, e.1)
use_of view blob e is = rw is refl

pub reused_is_given : LeastIsChosen → ReusedIsGiven
reused_is_given least view all c blob part there records = cases (chosen_listing view blob) refl there where
  given : (e : Spot × Id) → chosen_listing view blob ≡ Some e → Records c e.0.pack e.1 → GivesPlace all c blob
  given e is record_of = (
    e.0,
    e.1,
    record {
      supports = supports_from view all part blob e.0 e.1 (open_of_chosen least view blob e is);
      has_pack = record_of.has_pack;
      has_index = record_of.has_index;
      free = record_of.free;
    },
  )

  cases : (o : Option (Spot × Id)) → chosen_listing view blob ≡ o → is_some o ≡ true → GivesPlace all c blob
  cases None _ none = cc none
  cases (Some e) is _ = given e is (records (e.0.pack, e.1) (use_of view blob e is))

pub built_supports : BuiltSupports
built_supports all blob spot index pack listing entries packs pack_is header_is stored index_is index_read listed honest = record {
  listed =
      listed_by all index (at blob spot) ∙ ap (lists_at (at blob spot)) index_is
      ∙ ap (λ (t : Result (List PackData) IndexError). is_among (flat_map listed_of (what_is_read (Some t))) (at blob spot)) index_read ∙ listed;
  stored =
      stored_by all (at blob spot) ∙ ap (stores_at (at blob spot)) pack_is
      ∙ ap (λ (t : Result (List Blob) PackError). is_among (map (packed_of spot.pack) (what_is_read (Some t))) (at blob spot)) header_is ∙ stored;
  honest = honest;
}
