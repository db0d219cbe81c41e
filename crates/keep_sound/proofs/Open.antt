-- A blob is there with a text just where it has an open place.
use Rattle.std.proofs.Common.{◌≡◌, ℕ, Bool, true, false, List, Option, None, Some, refl, sym, ap, ◌∙◌, true≢false}
use Rattle.std.specs.Prelude.{is_none}
use Rattle.std.specs.FinMap as finite
use Rattle.std.specs.Option.{option_map_or}
use Rattle.std.proofs.lemmas.Map.Views.{tells_apart}
use Rattle.keep_names.proofs.Orders.{id_exact}
use Rattle.keep_names.specs.contracts.id.IdOrd.TheImpl.Laws as the_id_laws
use Rattle.keep_names.specs.FileName.{named}
use Rattle.keep_names.specs.Sha256.{sha256}
use Rattle.keep_names.specs.declared.blob.BlobId.{BlobId}
use Rattle.keep_names.specs.declared.file_name.Kind.{Kind}
use Rattle.keep_names.specs.declared.file_name.Kind.TheVariants.{Pack, Index}
use Rattle.keep_names.specs.declared.id.Id.{Id}
use Rattle.keep_repo.specs.Repository.{Repository}
use Rattle.keep_catalog.specs.Chosen.{IsUsablePlace}
use Rattle.keep_catalog.specs.Files.{file_in}
use Rattle.keep_catalog.specs.Orders.{id_eq}
use Rattle.keep_catalog.specs.Places.{at, bytes_at, has_id, slice_of}
use Rattle.keep_catalog.specs.declared.spot.Spot.{Spot}
use Rattle.keep_catalog.proofs.Ids.{id_refl}
use Rattle.keep_sound.proofs.Parts.{bytes_by, has_blob_at, honest_by, listed_by, lists_at, slice_at, stored_by, stores_at}
use Rattle.keep_sound.specs.Restic.{restic}
use Rattle.keep_sound.specs.Whole.{HasText}

pub file_is : (r : Repository) (kind : Kind) (id : Id) → file_in r kind id ≡ finite.get r.files (named kind id)
unfolding file_in
file_is r kind id = refl

-- what fails of nothing holds of something
pub something : {X : Type 0} (f : Option X → Bool) → f None ≡ false → (o : Option X) → f o ≡ true → (x : X) × (o ≡ Some x) × (f (Some x) ≡ true)
something f away None holds = absurd (true≢false (sym holds ∙ away))
something f away (Some x) holds = (x, refl, holds)

nothing : {X : Type 0} (o : Option X) → is_none o ≡ true → o ≡ None
nothing None e = refl
nothing (Some x) e = cc e

-- bytes have the id that they hash to
hashes : (id : Id) (text : List ℕ) → has_id id text ≡ true → sha256 text ≡ id.0
hashes id text has =
    let same = tells_apart id_exact (record { 0 = sha256 text }) id (sym (the_id_laws.matches_eq-law (record { 0 = sha256 text }) id) ∙ has) in
    ap (λ (i : Id). i.0) same

has : (id : Id) (text : List ℕ) → sha256 text ≡ id.0 → has_id id text ≡ true
has id text hashed =
    ap (λ bytes. id_eq (record { 0 = bytes }) id) hashed ∙ the_id_laws.matches_eq-law id id ∙ id_refl id

module _ (r : Repository) (blob : BlobId) where
  -- an open place has a text
  pub text_of_open : (spot : Spot) (index : Id) → IsUsablePlace r blob spot index → (text : List ℕ) × (bytes_at r spot ≡ Some text) × HasText restic r blob text
  text_of_open spot index place =
      let in_index = ap (lists_at (at blob spot)) (sym (file_is r Index index)) ∙ sym (listed_by r index (at blob spot)) ∙ place.listed in
      let in_pack = ap (stores_at (at blob spot)) (sym (file_is r Pack spot.pack)) ∙ sym (stored_by r (at blob spot)) ∙ place.stored in
      let listing = something (lists_at (at blob spot)) refl (finite.get r.files (named Index index)) in_index in
      let pack = something (stores_at (at blob spot)) refl (finite.get r.files (named Pack spot.pack)) in_pack in
      let file : file_in r Pack spot.pack ≡ Some pack.0 = file_is r Pack spot.pack ∙ pack.1 in
      let honest : option_map_or (has_id blob.id) (slice_of spot.offset spot.length pack.0) false ≡ true =
      ap (has_blob_at blob spot) (sym file) ∙ sym (honest_by r blob spot) ∙ place.honest in
      let text = something (λ o. option_map_or (has_id blob.id) o false) refl (slice_of spot.offset spot.length pack.0) honest in (
        text.0,
        bytes_by r spot ∙ ap (slice_at spot) file ∙ text.1,
        record {
          spot = spot;
          index = index;
          listing = listing.0;
          pack = pack.0;
          has_index = listing.1;
          has_pack = pack.1;
          listed = listing.2;
          stored = pack.2;
          free = nothing (finite.get r.marks spot.pack) place.unmarked;
          stands = text.1;
          hashed = hashes blob.id text.0 text.2;
        },
      )

  -- and where a blob has a text, its place is open
  pub open_of_text : (text : List ℕ) (t : HasText restic r blob text) → IsUsablePlace r blob t.spot t.index × (bytes_at r t.spot ≡ Some text)
  open_of_text text t =
      let index : file_in r Index t.index ≡ Some t.listing = file_is r Index t.index ∙ t.has_index in
      let pack : file_in r Pack t.spot.pack ≡ Some t.pack = file_is r Pack t.spot.pack ∙ t.has_pack in (
        record {
          listed = listed_by r t.index (at blob t.spot) ∙ ap (lists_at (at blob t.spot)) index ∙ t.listed;
          stored = stored_by r (at blob t.spot) ∙ ap (stores_at (at blob t.spot)) pack ∙ t.stored;
          honest =
              honest_by r blob t.spot ∙ ap (has_blob_at blob t.spot) pack ∙ ap (λ o. option_map_or (has_id blob.id) o false) t.stands
              ∙ has blob.id text t.hashed;
          unmarked = ap is_none t.free;
        },
        bytes_by r t.spot ∙ ap (slice_at t.spot) pack ∙ t.stands,
      )
