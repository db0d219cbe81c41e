-- What is read of an index is as its types say: ids of 32 bytes, numbers below their limits.
use Rattle.std.proofs.Common.{◌≡◌, ℕ, ◌^◌, ◌<◌, List, Option, None, Some, option_and_then, Result, Ok, Err, refl, subst}
use Rattle.std.specs.List.{AllByRecursion}
use Rattle.std.specs.Prelude.{codes, ok_or}
use Rattle.serde_json.specs.Data.{Data}
use Rattle.serde_json.specs.Find.{as_object}
use Rattle.keep_names.specs.Id.{IsDigest}
use Rattle.keep_names.specs.declared.blob.Blob.{Blob}
use Rattle.keep_names.specs.declared.blob.BlobType.{BlobType}
use Rattle.keep_names.specs.declared.id.Id.{Id}
use Rattle.keep_docs.specs.Doc.{doc_of, shaped}
use Rattle.keep_docs.specs.Fields.{◌>>=◌, as_below, as_id, as_whole, field, list_field}
use Rattle.keep_docs.specs.Lists.{each}
use Rattle.keep_docs.specs.Readable.{IsReadable}
use Rattle.keep_docs.specs.declared.doc.DocError.{DocError}
use Rattle.keep_docs.proofs.Parts.{IsDigest-field, below-field, each_read, readable-list_field, then_parts, whole-field}
use Rattle.keep_docs.proofs.Reading.{document-doc_of}
use Rattle.keep_index.specs.Index.{Fits, FitsBlob, FitsPack, PackData}
use Rattle.keep_index.specs.Reading.{as_blob_type, blob_in, index_in, index_of, pack_in}
use Rattle.keep_index.specs.declared.index_error.IndexError.TheVariants.{Doc, BadIndex}

-- ---- blobs, packs and indexes

-- the blob that these parts make
abbrev blob_of : Option Id → Option BlobType → Option ℕ → Option ℕ → Option Blob
blob_of id type offset length = do
  i ← id
  t ← type
  o ← offset
  l ← length
  Some (record { blob = record { id = i; blob_type = t }; offset = o; length = l })

blob_made : (id : Option Id) (type : Option BlobType) (offset length : Option ℕ) (entry : Blob)
    → ((i : Id) → id ≡ Some i → IsDigest i) → ((n : ℕ) → offset ≡ Some n → n < 2 ^ 64)
    → ((n : ℕ) → length ≡ Some n → n < 2 ^ 32)
    → blob_of id type offset length ≡ Some entry → FitsBlob entry
blob_made None type offset length entry i_fits o_fits l_fits is = cc
blob_made (Some i) None offset length entry i_fits o_fits l_fits is = cc
blob_made (Some i) (Some t) None length entry i_fits o_fits l_fits is = cc
blob_made (Some i) (Some t) (Some o) None entry i_fits o_fits l_fits is = cc
blob_made (Some i) (Some t) (Some o) (Some l) entry i_fits o_fits l_fits is =
    let made : Blob = record { blob = record { id = i; blob_type = t }; offset = o; length = l } in
    let same : made ≡ entry = cc in
    subst FitsBlob same (i_fits i refl, o_fits o refl, l_fits l refl)

blob_fits : (d : Data) (entry : Blob) → IsReadable d → blob_in d ≡ Some entry → FitsBlob entry
blob_fits d entry h is =
    blob_made (field (codes "id") as_id d) (field (codes "type") as_blob_type d)
    (field (codes "offset") as_whole d)
    (field (codes "length") (as_below (2 ^ 32)) d) entry
    (IsDigest-field (codes "id") d) (λ n. whole-field (codes "offset") d n h) (below-field (codes "length") (2 ^ 32) d) is

-- the pack that an id and its blobs make, and the same where the blobs are yet to be read
abbrev pack_of : Id → Option (List Blob) → Option PackData
pack_of id blobs = option_and_then (λ bs. Some (record { id = id; blobs = bs })) blobs

abbrev pack_listed : Data → Id → Option PackData
pack_listed d id = option_and_then (λ vs. pack_of id (each blob_in vs)) (list_field (codes "blobs") d)

pack_made : (id : Id) (blobs : Option (List Blob)) (pack : PackData) → IsDigest id
    → ((bs : List Blob) → blobs ≡ Some bs → AllByRecursion FitsBlob bs)
    → pack_of id blobs ≡ Some pack → FitsPack pack
pack_made id None pack digest fit is = cc
pack_made id (Some bs) pack digest fit is =
    let made : PackData = record { id = id; blobs = bs } in
    let same : made ≡ pack = cc in
    subst FitsPack same (digest, fit bs refl)

pack_fits : (d : Data) (pack : PackData) → IsReadable d → pack_in d ≡ Some pack → FitsPack pack
pack_fits d pack h is =
    let named = then_parts (field (codes "id") as_id d) (pack_listed d) pack is in
    let listed = then_parts (list_field (codes "blobs") d) (λ vs. pack_of named.0 (each blob_in vs)) pack named.2 in
    let values = readable-list_field (codes "blobs") d listed.0 h listed.1 in
    pack_made named.0 (each blob_in listed.0) pack (IsDigest-field (codes "id") d named.0 named.1)
    (λ bs. each_read IsReadable FitsBlob blob_in blob_fits listed.0 bs values) listed.2

index_fits : (d : Data) (packs : List PackData) → IsReadable d → index_in d ≡ Some packs → Fits packs
index_fits d packs h is =
    let next = λ (vs : List Data). each pack_in vs in
    let whole = then_parts (as_object d) (λ _. option_and_then next (list_field (codes "packs") d)) packs is in
    let listed = then_parts (list_field (codes "packs") d) next packs whole.2 in
    let values = readable-list_field (codes "packs") d listed.0 h listed.1 in
    each_read IsReadable FitsPack pack_in pack_fits listed.0 packs values listed.2

shape_fits : (o : Option (List PackData)) (packs : List PackData) → (o ≡ Some packs → Fits packs)
    → ok_or o BadIndex ≡ Ok packs → Fits packs
shape_fits None packs h is = cc
shape_fits (Some found) packs h is = h cc

document_fits : (r : Result Data DocError) (packs : List PackData) → ((d : Data) → r ≡ Ok d → IsReadable d)
    → shaped Doc (λ d. ok_or (index_in d) BadIndex) r ≡ Ok packs → Fits packs
document_fits (Ok d) packs h is = shape_fits (index_in d) packs (index_fits d packs (h d refl)) is
document_fits (Err e) packs h is = cc

-- what is read of an index fits
pub index_of_fits : (bytes : List ℕ) (packs : List PackData) → index_of bytes ≡ Ok packs → Fits packs
index_of_fits bytes packs is = document_fits (doc_of bytes) packs (λ d is_read. (document-doc_of bytes d is_read).0) is
